-- The test is the definition's: the form that WRITE writes, or what the form leaves out.
-- Assumes nothing.
use mathlib.Core.Path.{sym}
use Rattle.record_rules.specs.Forms.{holds}
use Rattle.record_read.proofs.is_held.Goals as goal

pub returns-then-all-form : goal.returns-then-all-form
unfolding holds
returns-then-all-form c = sym (rw c.if-all-form.true)

pub returns : goal.returns
unfolding holds
returns c = rw (c.if-all-form.false, c.free_from-free.ensures)
