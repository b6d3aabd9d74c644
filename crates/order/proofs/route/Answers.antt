-- Past step 1 the rest is step 2's.
-- Assumes nothing.
use Rattle.order_ends.proofs.Ending.{routes-as}
use Rattle.order.proofs.Routing.{past-step1, step1-paths}
use Rattle.order.proofs.route.Goals as goal

pub step_2-requires : goal.step_2-requires
step_2-requires c = let g = c.args in (c.requires.0, step1-paths g.cmd.now g.card c.step_1-next.result c.step_1-next.ensures c.requires.1)

pub returns : goal.returns
returns c = let g = c.args in
    routes-as _ _ _ _ (past-step1 g.cmd.now g.card c.step_1-next.result c.step_1-next.ensures) c.step_2.ensures
