-- RESET: by cases on whether the card is sound.
-- Assumes nothing.
use Rattle.sound.specs.Reset.{reset_answer}
use Rattle.sound.proofs.reset.Goals as goal

pub returns-then-sound : goal.returns-then-sound
unfolding reset_answer
returns-then-sound c = rw (← c.sound.ensures, c.if-sound.true, c.powered_up-next.ensures)

pub returns-else-sound : goal.returns-else-sound
unfolding reset_answer
returns-else-sound c = rw (← c.sound.ensures, c.if-sound.false)
