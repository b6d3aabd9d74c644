-- The card's record is written again, and compared with the bytes.
-- Assumes nothing.
use mathlib.Core.Path.{sym, ap, ◌∙◌}
use mathlib.Core.List.{List}
use Prim.Native.Nat.{ℕ}
use native.Mathlib.Omega.{arith}
use lib.Seq.{length-take-le}
use Rattle.octets.specs.Bytes.{same_bytes}
use Rattle.record_read.proofs.PutFacts.{put-taken}
use Rattle.record_read.proofs.is_written.Goals as goal

pub slice_bounds-back-end : goal.slice_bounds-back-end
slice_bounds-back-end c = sym (length-take-le c.put_record-count.result c.put_record-count.new.buf (omega (arith, c.put_record-count.auto.buf, c.put_record-count.ensures.1)))

pub returns : goal.returns
returns c = c.same.ensures ∙ ap (λ (l : List ℕ). same_bytes l c.args.s.now) (put-taken c.put_record-count.ensures.0 c.put_record-count.ensures.1)
