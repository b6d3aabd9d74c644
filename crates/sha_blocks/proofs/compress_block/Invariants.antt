-- Ahead of a round the working variables are those after the rounds before it; after 64 the sum with the hash value before is the compression.
-- Assumes nothing.
use Rattle.sha_blocks.proofs.compress_block.Given as goal
use mathlib.Core.Path.{◌≡◌}
use Prim.Native.Nat.{◌+◌, ◌*◌}
use Rattle.sha_rules.specs.Hash.{rounds}

abbrev pub invariant-loop-i : goal.invariant-loop-i
invariant-loop-i l = l.s ≡ rounds l.w (8 * l.step + l.i) l.h

abbrev pub invariant-loop-step : goal.invariant-loop-step
invariant-loop-step l = l.s ≡ rounds l.w (8 * l.step) l.h
