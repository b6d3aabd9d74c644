-- The bytes after the length.
-- Assumes nothing.
use Rattle.soft_card_bytes.proofs.tap_of.Goals as goal

pub returns : goal.returns
returns c = rw c.part.ensures
