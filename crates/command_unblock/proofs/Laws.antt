-- UNBLOCK answers no data, however the comparison came out.
-- Assumes nothing.
use mathlib.Core.Path.{◌≡◌, refl}
use mathlib.Core.Bool.{Bool, true, false}
use mathlib.Core.List.{List, []}
use Prim.Native.Nat.{ℕ}
use Rattle.card.specs.declared.Card.{Card}
use Rattle.rules.specs.Commands.{unblock_reply}

pub unblock-empty : (right : Bool) (c : Card) (new_pin : List ℕ) → (unblock_reply right c new_pin).response ≡ []
unfolding unblock_reply
unblock-empty true c new_pin = refl
unblock-empty false c new_pin = refl
