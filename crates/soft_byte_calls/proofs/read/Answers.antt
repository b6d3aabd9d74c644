-- READ, by `answer-flat`.
-- Assumes nothing.
use Rattle.soft_byte_calls.proofs.CallFacts.{answer-flat}
use Rattle.soft_byte_calls.proofs.read.Goals as goal

pub returns : goal.returns
returns c = answer-flat c.read-r.ensures c.record_of-card.ensures
