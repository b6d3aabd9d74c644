-- RESET of the card whose bytes are given, by `answer-flat`.
-- Assumes nothing.
use Rattle.soft_byte_calls.proofs.CallFacts.{answer-flat}
use Rattle.soft_byte_calls.proofs.reset.Goals as goal

pub returns : goal.returns
returns c = rw (← c.card_of-found.ensures.1) (answer-flat c.reset-r.ensures c.record_of-card.ensures)
