-- How many bytes of the key UID SELECT answers (RULES 9.5).
use Rattle.std.specs.Prelude.{ℕ, cond}
use Rattle.card.specs.Slots.{is_zero}

-- none without a key
abbrev pub key_uid_bytes : ℕ → ℕ
key_uid_bytes kind = cond (is_zero kind) 0 32
