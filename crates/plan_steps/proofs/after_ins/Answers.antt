-- Each instruction byte of the three has its own step, and no other byte goes.
-- Assumes nothing.
use mathlib.Core.Path.{ap, ◌∙◌}
use borrow.Author.Tests.{ne_eqb}
use Rattle.plan_rules.specs.Known.{bare}
use Rattle.plan_rules.specs.Plan.{after_that}
use Rattle.plan_rules.proofs.CommandFacts.{at-verify, at-pinless, at-derive, at_other}
use Rattle.plan_steps.proofs.after_ins.Goals as goal

pub returns-in-32 : goal.returns-in-32
returns-in-32 c = λ flag. let a = c.args in
    ap (after_that (bare flag a.pins a.keys) a.«data».now) (at-verify c.in-32.is) ∙ c.after_verify.ensures flag

pub returns-in-193 : goal.returns-in-193
returns-in-193 c = λ flag. let a = c.args in
    ap (after_that (bare flag a.pins a.keys) a.«data».now) (at-pinless c.in-193.is) ∙ c.after_pinless.ensures flag

pub returns-in-209 : goal.returns-in-209
returns-in-209 c = λ flag. let a = c.args in
    ap (after_that (bare flag a.pins a.keys) a.«data».now) (at-derive c.in-209.is) ∙ c.after_derive.ensures flag

pub returns-in_default : goal.returns-in_default
returns-in_default c = λ flag. let a = c.args in let m = c.in_default.in_default-own.rest in
    ap (after_that (bare flag a.pins a.keys) a.«data».now)
    (at_other a.ins (rw (ne_eqb a.ins 0x20 m.0.0.1, ne_eqb a.ins 0xC1 m.0.1, ne_eqb a.ins 0xD1 m.1)))
