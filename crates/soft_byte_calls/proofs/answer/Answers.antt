-- ANSWER of the card whose bytes are given, by `card-did`.
-- Assumes nothing.
use Rattle.soft_byte_calls.proofs.CallFacts.{card-did}
use Rattle.soft_byte_calls.proofs.answer.Goals as goal

pub returns : goal.returns
returns c = rw (← c.card_of-found.ensures.1) (card-did c.answer-r.ensures c.record_of-next.ensures)
