-- The class: 80, 00 with A4, or neither.
-- Assumes nothing.
use borrow.Author.Tests.{ne_eqb}
use Rattle.order_rows.proofs.by_class.Goals as goal

pub returns-then-cla-eq-CLASS : goal.returns-then-cla-eq-CLASS
returns-then-cla-eq-CLASS c = rw (c.if-cla-eq-CLASS.true, c.of_class_80.ensures)

pub returns-then-class_0-select : goal.returns-then-class_0-select
returns-then-class_0-select c = rw (ne_eqb c.args.cla 0x80 c.if-cla-eq-CLASS.false, c.if-class_0-select.true)

pub returns : goal.returns
returns c = rw (ne_eqb c.args.cla 0x80 c.if-cla-eq-CLASS.false, c.if-class_0-select.false)
