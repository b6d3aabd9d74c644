-- `plus` fills its result from the front with the sums of the numbers.
-- Assumes nothing.
use Rattle.stock_count.proofs.plus.Given as goal
use Prim.Native.Nat.{◌-◌}
use Rattle.octets.proofs.Filling.{Filled}
use Rattle.stock_rules.specs.Counts.{number_count, plus}

abbrev pub invariant-loop-i : goal.invariant-loop-i
invariant-loop-i l = Filled number_count (plus l.c l.d) l.sum l.i
