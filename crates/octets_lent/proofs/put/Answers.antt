-- `put` overwrites: after turn i the first i bytes of src are in their place and nothing else has changed.
-- Assumes nothing.
use Rattle.std.proofs.Common.{rules}
use mathlib.Core.Path.{◌≡◌, ◌∙◌}
use native.Mathlib.Numerals.{add-one}
use native.Mathlib.Omega.{arith}
use lib.ListN.{length}
use lib.Seq.{paste-zero, paste-suc, length-paste, take-length}
use Rattle.octets_lent.proofs.put.Goals as goal

pub loop-i-init : goal.loop-i-init
loop-i-init c = paste-zero c.args.buf.now c.args.at c.args.src.now

pub bounds-buf-at : goal.bounds-buf-at
bounds-buf-at c = let l = c.loop-i in let g = c.args in
    rw (l.invariant, length-paste g.buf.now g.at g.src.now l.i (omega arith) (omega arith)) (omega arith)

pub loop-i-preserved : goal.loop-i-preserved
loop-i-preserved c = let l = c.loop-i in let g = c.args in
    rw (l.invariant, add-one) (paste-suc g.buf.now g.at g.src.now l.i 0 (omega arith) (omega arith))

pub shape_of-buf : goal.shape_of-buf
shape_of-buf c = let l = c.loop-i in let g = c.args in
    rw l.invariant (length-paste g.buf.now g.at g.src.now l.i (omega arith) (omega arith))

pub returns : goal.returns
returns c = let e : c.loop-i.i ≡ length c.args.src.now = omega arith in
    c.loop-i.invariant ∙ rw (e, take-length)
