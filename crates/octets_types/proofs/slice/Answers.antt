-- Each element of a slice was seen, to its end.
-- Assumes nothing.
use mathlib.Core.Path.{refl}
use mathlib.Core.List.{List}
use Prim.Native.Nat.{ℕ}
use native.Mathlib.Omega.{arith}
use borrow.Author.Count.{below_more}
use lib.ListN.{length}
use Rattle.octets_types.proofs.Seen.{all_seen}
use Rattle.octets_types.proofs.slice.Goals as goal

pub loop-b-preserved : goal.loop-b-preserved
loop-b-preserved c = below_more _ _ c.loop-b.invariant c.byte.ensures

pub returns : goal.returns
returns c = let s : List ℕ = c.args.s.now in
    all_seen s (length s) c.loop-b.b-index refl (omega arith) c.loop-b.invariant
