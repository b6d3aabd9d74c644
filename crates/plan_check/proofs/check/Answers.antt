-- By whether the card is sound; what no plan looks at does not matter.
-- Assumes nothing.
use mathlib.Core.Path.{sym, ◌∙◌}
use Rattle.plan_rules.specs.Plan.{check_answer}
use Rattle.plan_rules.proofs.Blind.{accepts-bare}
use Rattle.plan_check.proofs.check.Goals as goal

pub returns-then-not-sound : goal.returns-then-not-sound
unfolding check_answer
returns-then-not-sound c = rw (sym c.sound.ensures ∙ c.if-not-sound.true)

pub returns : goal.returns
unfolding check_answer
returns c =
    rw (sym c.sound.ensures ∙ c.if-not-sound.false, accepts-bare c.args.card c.args.plan.now c.args.current.now c.args.pinless.now, c.accepted-yes.ensures)
