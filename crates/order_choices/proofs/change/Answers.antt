-- CHANGE's three values of P1, with P2 00, and no other.
-- Assumes nothing.
use borrow.Author.Tests.{ne_eqb}
use Rattle.order_choices.proofs.change.Goals as goal

pub returns-then-p2-ne0 : goal.returns-then-p2-ne0
returns-then-p2-ne0 c = rw (ne_eqb c.args.p2 0 c.if-p2-ne0.true)

pub returns-in-0 : goal.returns-in-0
returns-in-0 c = rw (c.if-p2-ne0.false, c.in-0.is)

pub returns-in-1 : goal.returns-in-1
returns-in-1 c = rw (c.if-p2-ne0.false, c.in-1.is)

pub returns-in-2 : goal.returns-in-2
returns-in-2 c = rw (c.if-p2-ne0.false, c.in-2.is)

pub returns-in_default : goal.returns-in_default
returns-in_default c = let p1 = c.args.p1 in rw (c.if-p2-ne0.false, ne_eqb p1 0 c.in_default.in_default-own.rest.0.0.1, ne_eqb p1 1 c.in_default.in_default-own.rest.0.1, ne_eqb p1 2 c.in_default.in_default-own.rest.1)
