-- EXPORT's three values of P1, and no other.
-- Assumes nothing.
use borrow.Author.Tests.{ne_eqb}
use Rattle.order_lists.proofs.export_of.Goals as goal

pub returns-in-0 : goal.returns-in-0
returns-in-0 c = rw c.in-0.is

pub returns-in-1 : goal.returns-in-1
returns-in-1 c = rw c.in-1.is

pub returns-in-2 : goal.returns-in-2
returns-in-2 c = rw c.in-2.is

pub returns-in_default : goal.returns-in_default
returns-in_default c = let p1 = c.args.p1 in rw (ne_eqb p1 0 c.in_default.in_default-own.rest.0.0.1, ne_eqb p1 1 c.in_default.in_default-own.rest.0.1, ne_eqb p1 2 c.in_default.in_default-own.rest.1)
