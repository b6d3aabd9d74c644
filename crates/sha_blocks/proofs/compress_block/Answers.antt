-- Ahead of a round the working variables are those after the rounds before it; after 64 the sum with the hash value before is the compression.
-- Assumes nothing.
use mathlib.Core.Path.{◌≡◌, sym, ap, ap₂, ◌∙◌}
use mathlib.Core.List.{List}
use Prim.Native.Nat.{ℕ, ◌+◌, ◌*◌}
use native.Mathlib.Omega.{arith}
use Rattle.sha_rules.specs.Hash.{rounds, added, compress}
use Rattle.sha_rules.proofs.Rounds.{rounds-none, rounds-more}
use Rattle.sha_blocks.proofs.compress_block.Goals as goal

rounds-to : (w h : List ℕ) {s : List ℕ} {i j : ℕ} → i ≡ j → s ≡ rounds w i h → s ≡ rounds w j h
rounds-to w h e same = same ∙ ap (λ (n : ℕ). rounds w n h) e

pub loop-step-init : goal.loop-step-init
loop-step-init c = sym (rounds-none _ _)

pub loop-i-init : goal.loop-i-init
loop-i-init c = rounds-to _ _ (omega arith) c.loop-step.invariant

pub loop-i-preserved : goal.loop-i-preserved
loop-i-preserved c = let a = c.args in
    let l = c.loop-i in
    let at : ℕ = 8 * c.loop-step.step + l.i in
    rounds-more a.k.now _ a.h at (8 * c.loop-step.step + (l.i + 1)) c.requires.k_value (omega arith) l.invariant c.round_of-next.ensures

pub loop-step-preserved : goal.loop-step-preserved
loop-step-preserved c = rounds-to _ _ (omega arith) c.loop-i.invariant

pub returns : goal.returns
unfolding compress
returns c = let h : List ℕ = c.args.h in
    let l = c.loop-step in
    let all : 8 * l.step ≡ 64 = omega arith in
    c.sums.ensures ∙ ap (λ (s : List ℕ). added s h) (l.invariant ∙ ap₂ (λ (w : List ℕ) (t : ℕ). rounds w t h) c.schedule_of-w.ensures all)
