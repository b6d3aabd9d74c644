-- `put` overwrites: after turn i the first i bytes of src are in their place and nothing else has changed.
-- Assumes nothing.
use Rattle.octets_lent.proofs.put.Given as goal
use mathlib.Core.Path.{◌≡◌}
use lib.Seq.{paste}

abbrev pub invariant-loop-i : goal.invariant-loop-i
invariant-loop-i l = l.buf ≡ paste l.initial.buf l.at l.src l.i
