-- Data in a right form go on; a wrong form ends with 6700.
-- Assumes nothing.
use mathlib.Core.Bool.{false}
use Rattle.rules.specs.Words.{wrong_length}
use Rattle.order_ends.proofs.Ending.{routes-as, ends-route}
use Rattle.order.proofs.Routing.{step2-data, step2-wrong}
use Rattle.order.proofs.step_2.Goals as goal

pub returns-in_default : goal.returns-in_default
returns-in_default c = let g = c.args in
    rw c.ends.ensures (ends-route false g.card wrong_length _ _ (step2-wrong g.cmd.now g.card c.in_default.ensures.none))

pub step_3-requires : goal.step_3-requires
step_3-requires c = let f = c.in-Some.ensures.some in (f.header, f.short, c.requires.0, c.requires.1)

pub returns : goal.returns
returns c = let g = c.args in
    routes-as _ _ _ _ (step2-data g.cmd.now g.card c.in-Some.field.now c.in-Some.ensures.some.holds) c.step_3.ensures
