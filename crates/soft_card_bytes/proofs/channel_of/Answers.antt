-- Three fields from their places, after the stage.
-- Assumes nothing.
use Rattle.soft_card_bytes.proofs.channel_of.Goals as goal

pub returns : goal.returns
returns c = rw (c.part.ensures, c.part-2.ensures, c.part-3.ensures)
