-- GENERATE MNEMONIC's five values of P1, with P2 00, and no other.
-- Assumes nothing.
use mathlib.Core.Path.{refl}
use borrow.Author.Tests.{ne_eqb}
use Rattle.order_lists.proofs.mnemonic.Goals as goal

pub returns-then-p2-ne0 : goal.returns-then-p2-ne0
returns-then-p2-ne0 c = rw (ne_eqb c.args.p2 0 c.if-p2-ne0.true)

pub returns-in-4 : goal.returns-in-4
returns-in-4 c = rw (c.if-p2-ne0.false, c.in-4.is) refl

pub returns-in-5 : goal.returns-in-5
returns-in-5 c = rw (c.if-p2-ne0.false, c.in-5.is) refl

pub returns-in-6 : goal.returns-in-6
returns-in-6 c = rw (c.if-p2-ne0.false, c.in-6.is) refl

pub returns-in-7 : goal.returns-in-7
returns-in-7 c = rw (c.if-p2-ne0.false, c.in-7.is) refl

pub returns-in-8 : goal.returns-in-8
returns-in-8 c = rw (c.if-p2-ne0.false, c.in-8.is) refl

pub returns-in_default : goal.returns-in_default
returns-in_default c = let p1 = c.args.p1 in
    rw (c.if-p2-ne0.false, ne_eqb p1 4 c.in_default.in_default-own.rest.0.0.0.0.1, ne_eqb p1 5 c.in_default.in_default-own.rest.0.0.0.1, ne_eqb p1 6 c.in_default.in_default-own.rest.0.0.1, ne_eqb p1 7 c.in_default.in_default-own.rest.0.1, ne_eqb p1 8 c.in_default.in_default-own.rest.1)
