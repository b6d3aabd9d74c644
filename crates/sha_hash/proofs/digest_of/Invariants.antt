-- After i turns the first 4 * i bytes are those of the first i words.
-- Assumes nothing.
use Rattle.sha_hash.proofs.digest_of.Given as goal
use mathlib.Core.Path.{◌≡◌}
use Prim.Native.Nat.{◌*◌}
use lib.ListN.{length, take}
use Rattle.sha_rules.specs.Hash.{digest}

abbrev pub invariant-loop-i : goal.invariant-loop-i
invariant-loop-i l = (take (4 * l.i) l.r ≡ digest (take l.i l.h)) × (length l.r ≡ 32)
