-- ENTROPY: refusal and count are told as the operation by value gives them.
-- Assumes nothing.
use Rattle.library_terminal.proofs.tw_entropy.Goals as goal

pub returns : goal.returns
returns c = c.entropy_of-told.ensures
