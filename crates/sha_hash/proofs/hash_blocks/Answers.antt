-- Ahead of each block the hash value so far, taken on over the rest of the blocks, is the hash value after all of them.
-- Assumes nothing.
use Rattle.std.proofs.Common.{rules}
use mathlib.Core.List.{List}
use mathlib.Core.Path.{◌≡◌, sym, ◌∙◌}
use Prim.Native.Nat.{ℕ, ◌+◌, ◌-◌, ◌*◌, ◌/◌}
use native.Mathlib.Nat.{sub-zero}
use native.Mathlib.Omega.{arith}
use lib.ListN.{length, drop, length-take, length-drop}
use Rattle.sha_rules.proofs.Blocks.{blocks-none}
use Rattle.sha_hash.proofs.Steps.{step}
use Rattle.sha_hash.proofs.hash_blocks.Goals as goal

pub loop-i-init : goal.loop-i-init
loop-i-init c = rw sub-zero

pub compress_block-after-requires : goal.compress_block-after-requires
compress_block-after-requires c = record { k_value = search rules; m_len = simp (length-take, length-drop) (omega arith) }

pub loop-i-preserved : goal.loop-i-preserved
loop-i-preserved c = let s : List ℕ = c.args.s.now in
    let l = c.loop-i in
    let next : 64 * (l.i + 1) ≡ 64 * l.i + 64 = omega arith in
    rw next (step l.v c.compress_block-after.result s (64 * l.i) (64 * l.i + 64 - 64 * l.i) (length s) (omega arith) (omega arith) c.compress_block-after.ensures ∙ l.invariant)

pub returns : goal.returns
returns c = let s : List ℕ = c.args.s.now in
    let l = c.loop-i in
    sym (blocks-none l.v (drop (64 * l.i) s) ((length s - 64 * l.i) / 64) (omega arith)) ∙ l.invariant
