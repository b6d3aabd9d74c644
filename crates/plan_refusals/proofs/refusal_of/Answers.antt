-- By whether the card is sound, and whether a plan can be made.
-- Assumes nothing.
use mathlib.Core.Path.{sym, ◌∙◌}
use Rattle.plan_rules.specs.Plan.{plan_refusal}
use Rattle.plan_refusals.proofs.refusal_of.Goals as goal

pub returns-then-not-sound : goal.returns-then-not-sound
unfolding plan_refusal
returns-then-not-sound c = rw (sym c.sound.ensures ∙ c.if-not-sound.true)

pub returns-then-not-can_plan : goal.returns-then-not-can_plan
unfolding plan_refusal
returns-then-not-can_plan c = rw (sym c.sound.ensures ∙ c.if-not-sound.false, sym c.can_plan.ensures ∙ c.if-not-can_plan.true)

pub returns : goal.returns
unfolding plan_refusal
returns c = rw (sym c.sound.ensures ∙ c.if-not-sound.false, sym c.can_plan.ensures ∙ c.if-not-can_plan.false)
