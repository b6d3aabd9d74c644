-- VERIFY answers no data, however the comparison came out.
-- Assumes nothing.
use mathlib.Core.Path.{◌≡◌, refl}
use mathlib.Core.Bool.{Bool, true, false}
use mathlib.Core.List.{[]}
use Rattle.card.specs.declared.Card.{Card}
use Rattle.rules.specs.Commands.{verify_reply}

pub verify-empty : (right : Bool) (c : Card) → (verify_reply right c).response ≡ []
unfolding verify_reply
verify-empty true c = refl
verify-empty false c = refl
