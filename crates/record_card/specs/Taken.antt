-- What the readers of a group of fields promise: its values, and the place after it. Every length and place is in bytes.
use Rattle.std.specs.Prelude.{ℕ, ◌≤◌, ◌≡◌, List, length, drop, get_or}
use Rattle.record_rules.specs.Parse.{behind, content, field34, identity_from, pins_from, pairing_from, keys_from}
use Rattle.record_card.specs.declared.IdentityRead.{IdentityRead}
use Rattle.record_card.specs.declared.SecretsRead.{SecretsRead}
use Rattle.record_card.specs.declared.KeysRead.{KeysRead}

-- `at` is the place of the field number k
pub record At (s : List ℕ) (k at : ℕ) : Type 0 where
  pub within : at ≤ length s
  pub here : drop at s ≡ behind k s

pub record IdentityTaken (s : List ℕ) (r : IdentityRead) : Type 0 where
  pub flag : r.initialised ≡ get_or (content s 0) 0 0
  pub identity : r.identity ≡ identity_from (content s)
  pub next : At s 3 r.next

pub record SecretsTaken (s : List ℕ) (r : SecretsRead) : Type 0 where
  pub pins : r.pins ≡ pins_from (content s)
  pub pairing : r.pairing ≡ pairing_from (content s)
  pub next : At s 8 r.next

pub record KeysTaken (s : List ℕ) (r : KeysRead) : Type 0 where
  pub keys : r.keys ≡ keys_from (content s)
  pub next : At s field34 r.next
