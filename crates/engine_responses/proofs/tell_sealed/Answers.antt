-- The sealed response, and its MAC as the next IV.
-- Assumes nothing.
use mathlib.Core.Path.{ap, ◌∙◌}
use mathlib.Core.List.{List}
use Prim.Native.Nat.{ℕ}
use lib.ListN.{get_or}
use Rattle.engine_responses.proofs.Writing.{did-sealed, word-bytes}
use Rattle.engine_responses.proofs.tell_sealed.Goals as goal

pub returns : goal.returns
returns c = let g = c.args in
    let word = c.to_be_bytes.ensures ∙ word-bytes g.status c.ranges.status.fits in
    did-sealed g.status g.response.now g.card _ _ (ap (λ (s : List ℕ). get_or s 0 0) word) (ap (λ (s : List ℕ). get_or s 1 0) word)
    c.session_of-session.result c.session_of-session.ensures c.seal_response-told.result g.buf.now _ c.seal_response-told.ensures c.with_mac.result c.with_mac.ensures
