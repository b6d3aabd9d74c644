-- Byte by byte: the array begins with the first k bytes of the entropy.
-- Assumes nothing.
use Rattle.phrase_reverse.proofs.entropy_in.Given as goal
use mathlib.Core.Path.{◌≡◌}
use lib.ListN.{length, take}
use Rattle.phrase_rules.specs.Reverse.{entropy_in}

abbrev pub invariant-loop-k : goal.invariant-loop-k
invariant-loop-k l = (take l.k l.entropy ≡ take l.k (entropy_in l.words)) × (length l.entropy ≡ 32)
