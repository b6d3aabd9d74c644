-- A listed command goes on to its checks; another ends.
-- Assumes nothing.
use mathlib.Core.Path.{sym, ◌∙◌}
use Rattle.rules.specs.Words.{wrong_parameters}
use Rattle.order_ends.proofs.Ending.{routes-as, ends-route, step5-listed, step5-unlisted, begun-paths}
use Rattle.order_ends.proofs.step_5.Goals as goal

pub returns-in_default : goal.returns-in_default
returns-in_default c = let g = c.args in
    let e = c.requires.1 in
    rw c.ends.ensures (ends-route g.over c.failed-lost.result wrong_parameters _ _ (step5-unlisted g.i g.cmd.now g.card g.«data».now g.over e c.loss_of-loss.result c.loss_of-loss.ensures c.begun-begun.result c.begun-begun.ensures c.failed-lost.result c.failed-lost.ensures (sym c.in_default.is ∙ c.choose.ensures)))

pub step_6-requires : goal.step_6-requires
step_6-requires c = let g = c.args in
    begun-paths g.i g.cmd.now g.card g.«data».now g.over c.requires.1 c.loss_of-loss.result c.loss_of-loss.ensures c.begun-begun.result c.begun-begun.ensures c.failed-lost.result c.failed-lost.ensures c.requires.2

pub returns : goal.returns
returns c = let g = c.args in
    routes-as _ _ _ _ (step5-listed g.i g.cmd.now g.card g.«data».now g.over c.requires.1 c.loss_of-loss.result c.loss_of-loss.ensures c.begun-begun.result c.begun-begun.ensures c.failed-lost.result c.failed-lost.ensures _ (sym c.in-Some.is ∙ c.choose.ensures)) c.step_6.ensures
