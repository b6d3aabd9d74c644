-- The test is the definition, part by part.
-- Assumes nothing.
use mathlib.Core.Path.{ap}
use mathlib.Core.Bool.{Bool, ◌&&◌}
use mathlib.Core.List.{List}
use Prim.Native.Nat.{ℕ}
use lib.Dec.{eqb}
use lib.ListN.{length}
use Rattle.plan_steps.proofs.is_pin.Goals as goal

pub returns : goal.returns
returns c = let d : List ℕ = c.args.«data».now in
    ap (λ (b : Bool). eqb (length d) 6 && b) c.digits-digits.ensures
