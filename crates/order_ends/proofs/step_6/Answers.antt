-- The checks hold, or the route ends with the word of the one that does not and the command's fault offset.
-- Assumes nothing.
use mathlib.Core.Path.{sym, ◌∙◌}
use Rattle.order_ends.proofs.Ending.{ends-at-route, step6-goes, step6-ends}
use Rattle.order_ends.proofs.step_6.Goals as goal

pub returns-in-Ok : goal.returns-in-Ok
returns-in-Ok c = let g = c.args in
    step6-goes g.over g.card g.lost g.«data».now g.k _ (sym c.in-Ok.is ∙ c.judge.ensures) c.requires

pub returns-in-Err : goal.returns-in-Err
returns-in-Err c =
    let g = c.args in
    ends-at-route g.over g.lost _ _ _ _ (step6-ends g.over g.card g.lost g.«data».now g.k _ c.fault_at.result (sym c.in-Err.is ∙ c.judge.ensures) c.fault_at.ensures)
