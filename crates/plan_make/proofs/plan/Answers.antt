-- By whether it is refused; the plan that is written is accepted.
-- Assumes nothing.
use mathlib.Core.Path.{refl}
use native.Mathlib.Omega.{arith}
use Rattle.plan_make.proofs.Proposed.{lengths, proposed}
use Rattle.plan_make.proofs.plan.Goals as goal

pub returns-then-refusal-ne-REFUSAL_NONE : goal.returns-then-refusal-ne-REFUSAL_NONE
returns-then-refusal-ne-REFUSAL_NONE c = record {
  refusal = c.refusal_of-refusal.ensures;
  refused = λ _. refl;
  accepted = λ e. absurd (c.if-refusal-ne-REFUSAL_NONE.true e);
  most = omega arith;
  after = refl;
}

pub put_plan-count-requires : goal.put_plan-count-requires
put_plan-count-requires c = let a = c.args in
    let l = lengths a.card a.pin.now a.current.now a.pinless.now c.refusal_of-refusal.result c.refusal_of-refusal.ensures c.if-refusal-ne-REFUSAL_NONE.false in
    (refl, l.0, l.1, l.2)

pub returns : goal.returns
returns c = let a = c.args in
    proposed a.card a.pin.now a.current.now a.pinless.now c.refusal_of-refusal.result c.refusal_of-refusal.ensures c.if-refusal-ne-REFUSAL_NONE.false
    c.needed-needs.result c.put_plan-count.result _ c.needed-needs.ensures c.put_plan-count.ensures
