-- Number by number, in two bytes each: the buffer holds those of the first k numbers (`put_next`), at the end all.
-- Assumes nothing.
use Rattle.phrase_numbers.proofs.put_numbers.Given as goal
use mathlib.Core.Path.{◌≡◌}
use lib.ListN.{length, take}
use Rattle.octets.specs.Bytes.{overwrite}
use Rattle.phrase_rules.specs.Numbers.{word_numbers, in_two_bytes}

abbrev pub invariant-loop-k : goal.invariant-loop-k
invariant-loop-k l = (l.out ≡ overwrite l.initial.out 0 (in_two_bytes (take l.k (word_numbers l.entropy)))) × (length l.out ≡ length l.initial.out)
