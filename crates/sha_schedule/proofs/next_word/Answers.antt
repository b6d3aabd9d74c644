-- The sum is the definition's in another order; every word that it reads is within the schedule.
-- Assumes nothing.
use mathlib.Core.List.{List}
use Prim.Native.Nat.{ℕ, ◌-◌}
use lib.ListN.{get_or}
use Rattle.sha_rules.specs.Words.{σ₀, σ₁}
use Rattle.sha_rules.specs.Hash.{schedule_word}
use Rattle.sha_rules.proofs.Sums.{four-in-order}
use Rattle.sha_schedule.proofs.next_word.Goals as goal

pub returns : goal.returns
unfolding schedule_word
returns c = let a = c.args in
    let w : List ℕ = a.w.now in
    let t : ℕ = a.t in
    rw (c.add.ensures, c.small_sigma_1.ensures, c.add-second.ensures, c.small_sigma_0.ensures, c.add-first.ensures) (four-in-order (σ₁ (get_or w (t - 2) 0)) (get_or w (t - 7) 0) (σ₀ (get_or w (t - 15) 0)) (get_or w (t - 16) 0))
