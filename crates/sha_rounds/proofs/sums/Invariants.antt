-- The result is filled from the front with the sums of the words.
-- Assumes nothing.
use Rattle.sha_rounds.proofs.sums.Given as goal
use Rattle.octets.proofs.Filling.{Filled}
use Rattle.sha_rules.specs.Hash.{added}

abbrev pub invariant-loop-i : goal.invariant-loop-i
invariant-loop-i l = Filled 8 (added l.s l.h) l.r l.i
