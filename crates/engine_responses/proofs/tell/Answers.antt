-- Sealed where the answer goes over the channel and leaves stage 2; plain otherwise.
-- Assumes nothing.
use Rattle.rules.specs.Code.{reply_with}
use Rattle.rules.specs.Engine.{answered}
use mathlib.Core.Path.{ap}
use Rattle.engine_responses.proofs.Writing.{answer-as, tell-over, tell-plain}
use Rattle.engine_responses.proofs.tell.Goals as goal

pub returns-then-over-open : goal.returns-then-over-open
returns-then-over-open c = let g = c.args in answer-as _ _ _ _ _ (ap answered (tell-over g.over (reply_with g.status g.response.now g.card) c.if-over-open.true)) c.tell_sealed.ensures

pub returns : goal.returns
returns c = let g = c.args in answer-as _ _ _ _ _ (ap answered (tell-plain g.over (reply_with g.status g.response.now g.card) c.if-over-open.false)) c.tell_plainly.ensures
