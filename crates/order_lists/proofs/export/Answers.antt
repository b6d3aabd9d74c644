-- EXPORT's two values of P2, each with every P1 that EXPORT has, and no other.
-- Assumes nothing.
use borrow.Author.Tests.{ne_eqb}
use Rattle.order_lists.proofs.export.Goals as goal

pub returns-in-0 : goal.returns-in-0
returns-in-0 c = rw (c.in-0.is, c.export_of.ensures)

pub returns-in-1 : goal.returns-in-1
returns-in-1 c = rw (c.in-1.is, c.export_of-in-1.ensures)

pub returns-in_default : goal.returns-in_default
returns-in_default c = let p2 = c.args.p2 in rw (ne_eqb p2 0 c.in_default.in_default-own.rest.0.1, ne_eqb p2 1 c.in_default.in_default-own.rest.1)
