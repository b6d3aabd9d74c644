-- The test is the definition, part by part.
-- Assumes nothing.
use mathlib.Core.Bool.{Bool, ◌&&◌, not}
use mathlib.Core.Path.{ap, ap₂}
use lib.Dec.{eqb}
use Rattle.card.specs.Slots.{is_zero}
use Rattle.plan_refusals.proofs.can_plan.Goals as goal

pub returns : goal.returns
returns c = let a = c.args in
    ap₂ ◌&&◌ (ap₂ ◌&&◌
    (ap (λ (b : Bool). not (is_zero a.flag) && not (is_zero a.pins.pin_tries) && eqb a.keys.kind 2 && b) c.is_pin-digits.ensures)
    c.is_path-derived.ensures)
    c.is_path-set.ensures
