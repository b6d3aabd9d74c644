-- What a value has. Every length is in bytes.
use Rattle.std.specs.Prelude.{ℕ, List, take}
use Rattle.soft_state.specs.declared.value.Value.{Value}

-- the bytes of its place up to its length
abbrev pub items : Value → List ℕ
items v = take v.len v.space
