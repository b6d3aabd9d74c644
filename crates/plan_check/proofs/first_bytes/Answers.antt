-- A plan without a whole head names no data bytes.
-- Assumes nothing.
use native.Mathlib.Omega.{arith}
use lib.ListN.{get_or-eq_default}
use Rattle.plan_check.proofs.first_bytes.Goals as goal

pub returns-then-plan-lt-HEAD_BYTES : goal.returns-then-plan-lt-HEAD_BYTES
returns-then-plan-lt-HEAD_BYTES c = omega (arith, get_or-eq_default c.args.plan.now 0 {n = 4} (omega arith))

pub overflow_add-result : goal.overflow_add-result
overflow_add-result c = omega (arith, c.wide.ensures, c.shared_slice_known-2-1.given 4)
