-- The parts of a card that a plan looks at, the flag of INIT, the PIN's tries, verification and the keys; and of a command's head.
use Rattle.std.specs.Prelude.{ℕ, Bool, ◌&&◌, [], eqb}
use Rattle.std.proofs.Math.Option.{Option, none, some}
use Rattle.card.specs.declared.Card.{Card}
use Rattle.card.specs.declared.Pins.{Pins}
use Rattle.card.specs.declared.Keys.{Keys}
use Rattle.card.specs.State.{fresh_of, with_initialised, with_pins, with_keys, with_secrets}
use Rattle.card.specs.Slots.{is_zero}

-- the card of these parts, and nothing else in it
abbrev pub bare : ℕ → Pins → Keys → Card
bare flag p k = with_keys (with_pins (with_initialised (fresh_of [] []) flag) p) k

-- a card without what no plan looks at
abbrev pub known : Card → Card
known c = with_secrets [] [] (bare c.initialised c.pins c.keys)

abbrev pub known_of : Option Card → Option Card
known_of none = none
known_of (some c) = some (known c)

-- what has to hold of the card, the class, P1 and P2 (law `command-at`)
abbrev pub is_head : Bool → ℕ → ℕ → ℕ → Bool
is_head initialised cla p1 p2 = initialised && (eqb cla 0x80 && (is_zero p1 && is_zero p2))
