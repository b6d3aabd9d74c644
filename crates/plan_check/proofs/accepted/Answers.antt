-- Both paths of what the plan leaves are compared, where it goes to its end.
-- Assumes nothing.
use mathlib.Core.Path.{sym, ap, ap₂, ◌∙◌}
use mathlib.Core.Bool.{◌&&◌}
use Rattle.plan_rules.specs.Plan.{ends_as, accepts}
use Rattle.plan_check.proofs.accepted.Goals as goal

pub returns-in_default : goal.returns-in_default
unfolding accepts
returns-in_default c = sym (ap (ends_as c.args.current.now c.args.pinless.now) c.in_default.ensures)

pub returns : goal.returns
unfolding accepts
returns c = let a = c.args in
    ap₂ ◌&&◌ c.is_at-derived.ensures c.is_at-set.ensures ∙ sym (ap (ends_as a.current.now a.pinless.now) c.in-Some.ensures)
