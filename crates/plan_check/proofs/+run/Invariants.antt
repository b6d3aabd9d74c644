use mathlib.Core.Path.{ap, ◌∙◌}
use Prim.Native.Nat.{ℕ, ◌<◌}
use native.Mathlib.Omega.{arith}
use Rattle.plan_rules.specs.Plan.{run_plan}
use Rattle.plan_rules.specs.Known.{bare}
use Rattle.plan_rules.proofs.RunFacts.{run-ended, run-spent}
use Rattle.plan_check.proofs.Running.{halted, whole, gone}
use Rattle.plan_check.proofs.+run.Given as goal

abbrev pub decreases-run : goal.decreases-run
decreases-run l = l.left
