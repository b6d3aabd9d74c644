-- UNPAIR answers no data, whatever the card.
-- Assumes nothing.
use mathlib.Core.Path.{◌≡◌, refl}
use mathlib.Core.List.{[]}
use Prim.Native.Nat.{ℕ}
use Rattle.card.specs.declared.Card.{Card}
use Rattle.rules.specs.Commands.{unpair_reply}

pub unpair-empty : (c : Card) (slot : ℕ) → (unpair_reply c slot).response ≡ []
unfolding unpair_reply
unpair-empty c slot = refl
