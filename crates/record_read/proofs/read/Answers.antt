-- READ: by cases on whether the bytes are the record of the card that they describe.
-- Assumes nothing.
use Rattle.record_rules.specs.Answers.{read_answer}
use Rattle.record_read.proofs.read.Goals as goal

pub returns-then-is_record_of : goal.returns-then-is_record_of
unfolding read_answer
returns-then-is_record_of c = rw (← c.card_of-card.ensures, ← c.is_record_of.ensures, c.if-is_record_of.true)

pub returns-else-is_record_of : goal.returns-else-is_record_of
unfolding read_answer
returns-else-is_record_of c = rw (← c.card_of-card.ensures, ← c.is_record_of.ensures, c.if-is_record_of.false, c.fresh-none.ensures)
