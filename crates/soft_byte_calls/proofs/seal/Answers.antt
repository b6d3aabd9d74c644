-- SEAL with the session whose bytes are given, by `seal-did`.
-- Assumes nothing.
use Rattle.std.proofs.Common.{rules}
use mathlib.Core.Path.{◌≡◌}
use lib.ListN.{length}
use Rattle.soft_byte_calls.proofs.CallFacts.{seal-did}
use Rattle.soft_byte_calls.proofs.seal.Goals as goal

pub returns : goal.returns
returns c = let g = c.args in
    let l : length g.header ≡ 4 = search rules in
    rw (← c.session_of-found.ensures.1) (seal-did c.session_of-found.result g.header g.plain.now (length g.buf.now) l c.seal-sealed.ensures c.session_bytes-next.ensures)
