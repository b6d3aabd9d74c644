-- Ahead of each block the hash value so far, taken on over the rest of the blocks, is the hash value after all of them.
-- Assumes nothing.
use Rattle.sha_hash.proofs.hash_blocks.Given as goal
use mathlib.Core.Path.{◌≡◌}
use Prim.Native.Nat.{◌-◌, ◌*◌, ◌/◌}
use lib.ListN.{length, drop}
use Rattle.sha_rules.specs.Hash.{blocks}

abbrev pub invariant-loop-i : goal.invariant-loop-i
invariant-loop-i l = blocks ((length l.s - 64 * l.i) / 64) l.v (drop (64 * l.i) l.s) ≡ blocks (length l.s / 64) l.initial.v l.s
