-- The test is the definition's.
-- Assumes nothing.
use borrow.Author.Tests.{eq-eqb, ne_eqb}
use Rattle.phrase_reverse.proofs.first_of.Goals as goal

pub returns-then-first-eq-REFUSAL_NONE : goal.returns-then-first-eq-REFUSAL_NONE
returns-then-first-eq-REFUSAL_NONE c = rw (eq-eqb _ _ c.if-first-eq-REFUSAL_NONE.true)

pub returns : goal.returns
returns c = rw (ne_eqb _ _ c.if-first-eq-REFUSAL_NONE.false)
