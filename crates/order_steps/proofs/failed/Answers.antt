-- By the four cases of what is lost; for two of them the stage or P1 decides.
-- Assumes nothing.
use borrow.Author.Tests.{ne_eqb}
use Rattle.order_steps.proofs.failed.Goals as goal

pub returns-in-Channel : goal.returns-in-Channel
returns-in-Channel c = rw c.in-Channel.is

pub returns-then-card-eq-STAGE_AUTHENTICATED : goal.returns-then-card-eq-STAGE_AUTHENTICATED
returns-then-card-eq-STAGE_AUTHENTICATED c = rw (c.in-HalfOpen.is, c.if-card-eq-STAGE_AUTHENTICATED.true)

pub returns-else-card-eq-STAGE_AUTHENTICATED : goal.returns-else-card-eq-STAGE_AUTHENTICATED
returns-else-card-eq-STAGE_AUTHENTICATED c = rw (c.in-HalfOpen.is, ne_eqb _ 2 c.if-card-eq-STAGE_AUTHENTICATED.false, c.close.ensures)

pub returns-then-p1-eq-P1_FINAL : goal.returns-then-p1-eq-P1_FINAL
returns-then-p1-eq-P1_FINAL c = rw (c.in-Pending.is, c.if-p1-eq-P1_FINAL.true, c.forget.ensures)

pub returns-else-p1-eq-P1_FINAL : goal.returns-else-p1-eq-P1_FINAL
returns-else-p1-eq-P1_FINAL c = rw (c.in-Pending.is, ne_eqb _ 1 c.if-p1-eq-P1_FINAL.false)

pub returns-in-Nothing : goal.returns-in-Nothing
returns-in-Nothing c = rw c.in-Nothing.is
