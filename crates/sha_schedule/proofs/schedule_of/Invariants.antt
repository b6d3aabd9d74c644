-- The array is filled from the front with the words of the schedule: the first 16 from the block, and each other from those before it.
-- Assumes nothing.
use Rattle.sha_schedule.proofs.schedule_of.Given as goal
use Prim.Native.Nat.{◌+◌, ◌*◌}
use Rattle.octets.proofs.Filling.{Filled}
use Rattle.sha_rules.specs.Hash.{schedule}

abbrev pub invariant-loop-t : goal.invariant-loop-t
invariant-loop-t l = Filled 64 (schedule l.m) l.w l.t

abbrev pub invariant-loop-i : goal.invariant-loop-i
invariant-loop-i l = Filled 64 (schedule l.m) l.w (8 * l.step + l.i)

abbrev pub invariant-loop-step : goal.invariant-loop-step
invariant-loop-step l = Filled 64 (schedule l.m) l.w (8 * l.step)
