-- The forms one after the other, by `TestFacts`.
-- Assumes nothing.
use mathlib.Core.Path.{sym, ◌∙◌}
use native.Mathlib.Omega.{arith}
use Rattle.record_rules.specs.Answers.{is_record_of}
use Rattle.record_read.proofs.TestFacts.{by_first, by-second, by-third, by_last}
use Rattle.record_read.proofs.is_record_of.Goals as goal

pub returns-then-not-sound : goal.returns-then-not-sound
unfolding is_record_of
returns-then-not-sound c = sym (rw (sym c.sound.ensures ∙ c.if-not-sound.true))

pub is_in_form-requires : goal.is_in_form-requires
is_in_form-requires c = (sym c.sound.ensures ∙ c.if-not-sound.false, omega arith)

pub returns-then-is_in_form : goal.returns-then-is_in_form
returns-then-is_in_form c = by_first _ _ (sym c.sound.ensures ∙ c.if-not-sound.false) (sym c.is_in_form.ensures ∙ c.if-is_in_form.true)

pub is_in_form-requires-2 : goal.is_in_form-requires-2
is_in_form-requires-2 c = (sym c.sound.ensures ∙ c.if-not-sound.false, omega arith)

pub returns-then-is_in_form-2 : goal.returns-then-is_in_form-2
returns-then-is_in_form-2 c = by-second _ _ (sym c.sound.ensures ∙ c.if-not-sound.false) (sym c.is_in_form.ensures ∙ c.if-is_in_form.false) (sym c.is_in_form-2.ensures ∙ c.if-is_in_form-2.true)

pub is_in_form-requires-3 : goal.is_in_form-requires-3
is_in_form-requires-3 c = (sym c.sound.ensures ∙ c.if-not-sound.false, omega arith)

pub returns-then-is_in_form-3 : goal.returns-then-is_in_form-3
returns-then-is_in_form-3 c = by-third _ _ (sym c.sound.ensures ∙ c.if-not-sound.false) (sym c.is_in_form.ensures ∙ c.if-is_in_form.false) (sym c.is_in_form-2.ensures ∙ c.if-is_in_form-2.false) (sym c.is_in_form-3.ensures ∙ c.if-is_in_form-3.true)

pub is_in_form-requires-4 : goal.is_in_form-requires-4
is_in_form-requires-4 c = (sym c.sound.ensures ∙ c.if-not-sound.false, omega arith)

pub returns : goal.returns
returns c = c.is_in_form-4.ensures
    ∙ by_last _ _ (sym c.sound.ensures ∙ c.if-not-sound.false) (sym c.is_in_form.ensures ∙ c.if-is_in_form.false) (sym c.is_in_form-2.ensures ∙ c.if-is_in_form-2.false) (sym c.is_in_form-3.ensures ∙ c.if-is_in_form-3.false)
