-- Each byte is tested. Invariant: the test of all bytes is the test of those not yet seen.
-- Assumes nothing.
use mathlib.Core.Path.{sym, ◌∙◌}
use Rattle.card.proofs.Tests.{all-step, all-fail, all_done}
use borrow.Author.Tests.{eq-eqb, ne_eqb}
use Rattle.card.specs.Slots.{is_zero}
use Rattle.sound_bytes.proofs.zero_from.Goals as goal

pub returns-then-s-i-ne0 : goal.returns-then-s-i-ne0
returns-then-s-i-ne0 c = sym (c.loop-i.invariant ∙ all-fail is_zero _ _ 0 c.loop-i-test.true (ne_eqb _ _ c.if-s-i-ne0.true))

pub loop-i-preserved : goal.loop-i-preserved
loop-i-preserved c = c.loop-i.invariant ∙ all-step is_zero _ _ 0 c.loop-i-test.true (eq-eqb _ _ c.if-s-i-ne0.false)

pub returns : goal.returns
returns c = sym (c.loop-i.invariant ∙ all_done is_zero _ _ c.loop-i-test.false)
