-- The key's identity and the two paths from their places.
-- Assumes nothing.
use Rattle.soft_card_bytes.proofs.keys_of.Goals as goal

pub returns : goal.returns
returns c = rw (c.part.ensures, c.path_of.ensures, c.path_of-2.ensures)
