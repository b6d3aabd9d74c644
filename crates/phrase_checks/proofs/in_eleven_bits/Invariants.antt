-- Number by number: what is said of all numbers is said of those from k on.
-- Assumes nothing.
use Rattle.phrase_checks.proofs.in_eleven_bits.Given as goal
use mathlib.Core.Path.{◌≡◌}
use lib.ListN.{drop}
use Rattle.phrase_rules.specs.Reverse.{from_two_bytes, in_eleven_bits}

abbrev pub invariant-loop-k : goal.invariant-loop-k
invariant-loop-k l = in_eleven_bits (from_two_bytes l.words) ≡ in_eleven_bits (drop l.k (from_two_bytes l.words))
