-- WRITE by value: refusal and count are told as WRITE gives them.
-- Assumes nothing.
use Rattle.library_calls.proofs.written.Goals as goal

pub returns : goal.returns
returns c = c.write-told.ensures
