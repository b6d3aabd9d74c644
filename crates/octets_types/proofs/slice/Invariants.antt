-- Each element of a slice was seen, to its end.
-- Assumes nothing.
use Rattle.octets_types.proofs.slice.Given as goal
use Rattle.octets_types.proofs.Seen.{Seen}

abbrev pub invariant-loop-b : goal.invariant-loop-b
invariant-loop-b l = Seen l.s l.b-index
