-- Ahead of word i the bytes so far are the schedule so far, and the last turn completes it.
-- Assumes nothing.
use Rattle.aes_keys.proofs.key_expansion.Given as goal
use mathlib.Core.Path.{◌≡◌}
use Prim.Native.Nat.{◌-◌, ◌*◌}
use lib.ListN.{length, take}
use Rattle.aes_rules.specs.Schedule.{expand}

abbrev pub invariant-loop-i : goal.invariant-loop-i
invariant-loop-i l = (take (l.i * 4) l.w ≡ expand (l.i - 8) l.key) × (length l.w ≡ 240)
