-- The response data, and the status word after it.
-- Assumes nothing.
use mathlib.Core.Path.{refl, ap, ◌∙◌}
use mathlib.Core.List.{List}
use Prim.Native.Nat.{ℕ}
use lib.ListN.{length}
use Rattle.octets.specs.Bytes.{overwrite}
use Rattle.engine_responses.proofs.Writing.{did-plainly, word-bytes}
use Rattle.engine_responses.proofs.tell_plainly.Goals as goal

pub returns : goal.returns
returns c = let g = c.args in
    did-plainly g.status g.response.now g.card _ _ refl refl g.buf.now c.put.new.buf c.put-2.new.buf c.put.ensures
    (c.put-2.ensures ∙ ap (overwrite c.put.new.buf (length g.response.now)) (c.to_be_bytes.ensures ∙ word-bytes g.status c.ranges.status.fits))
