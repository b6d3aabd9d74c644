use Rattle.std.proofs.Common.{rules}
use mathlib.Core.Path.{ap, ◌∙◌}
use Prim.Native.Nat.{ℕ, ◌<◌}
use native.Mathlib.Omega.{arith}
use borrow.Author.Tests.{not-true, not-false}
use Rattle.plan_rules.specs.Plan.{run_plan}
use Rattle.plan_rules.specs.Known.{bare}
use Rattle.plan_rules.proofs.RunFacts.{run-ended, run-spent}
use Rattle.plan_check.proofs.Running.{halted, whole, gone}
use Rattle.plan_check.proofs.+run.Goals as goal

pub returns-then-plan-eq0 : goal.returns-then-plan-eq0
returns-then-plan-eq0 t c = let a = c.args in run-ended (bare a.flag a.pins a.keys) a.plan.now a.left c.if-plan-eq0.true

pub returns-then-left-eq0 : goal.returns-then-left-eq0
returns-then-left-eq0 t c = let a = c.args in
    let k = bare a.flag a.pins a.keys in
    ap (λ (n : ℕ). run_plan n k a.plan.now) c.if-left-eq0.true
    ∙ run-spent k a.plan.now c.if-plan-eq0.false

pub run-requires : goal.run-requires
run-requires t c = (omega (arith, c.decreases, c.if-left-eq0.false), tt)

pub returns : goal.returns
returns t c = let a = c.args in
    gone a.flag a.left a.pins a.keys a.plan.now c.in_ok-step.step c.in_ok-step.ensures
    c.if-left-eq0.false c.if-plan-eq0.false c.first_bytes-end.result c.first_bytes-end.ensures
    ∙ c.run.ensures

pub returns-in_err-step : goal.returns-in_err-step
returns-in_err-step t c = let a = c.args in
    rw c.from_residual.ensures (halted a.flag a.left a.pins a.keys a.plan.now c.in_err-step.ensures c.if-left-eq0.false c.if-plan-eq0.false)

pub slice_bounds-run-count : goal.slice_bounds-run-count
slice_bounds-run-count t c = let a = c.args in
    omega (arith, c.first_bytes-end.ensures, whole a.flag a.left a.pins a.keys a.plan.now c.in_ok-step.step c.in_ok-step.ensures)

pub slice_bounds-run-start : goal.slice_bounds-run-start
slice_bounds-run-start t c = let a = c.args in
    omega (arith, c.first_bytes-end.ensures, whole a.flag a.left a.pins a.keys a.plan.now c.in_ok-step.step c.in_ok-step.ensures)
