-- Each byte is tested. Invariant: the test of all bytes is the test of those not yet seen.
-- Assumes nothing.
use Rattle.sound_bytes.proofs.zero_from.Given as goal
use mathlib.Core.Path.{◌≡◌}
use Prim.Native.Nat.{◌≤◌}
use lib.ListN.{length, drop}
use Rattle.card.specs.Slots.{all_zero}

abbrev pub invariant-loop-i : goal.invariant-loop-i
invariant-loop-i l = all_zero (drop l.from l.s) ≡ all_zero (drop l.i l.s)
