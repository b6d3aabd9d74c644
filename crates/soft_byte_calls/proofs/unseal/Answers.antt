-- UNSEAL with the session whose bytes are given, by `session-did`.
-- Assumes nothing.
use Rattle.soft_byte_calls.proofs.CallFacts.{session-did}
use Rattle.soft_byte_calls.proofs.unseal.Goals as goal

pub returns : goal.returns
returns c = rw (← c.session_of-found.ensures.1) (session-did c.unseal-opened.ensures c.session_bytes-next.ensures)
