-- The message schedule has 64 words; the first 16 are the block's, and each other is the rule's over the words before it.
-- Assumes nothing.
use mathlib.Core.Path.{◌≡◌, sym, ap, ap₂, ◌∙◌}
use mathlib.Core.List.{List, [], ◌∷◌}
use Prim.Native.Nat.{ℕ, zero, suc, ◌+◌, ◌-◌, ◌≤◌, ◌<◌}
use native.Mathlib.Decide.{dec_le}
use native.Mathlib.Omega.{arith}
use lib.ListN.{length, get_or, take, length-append, get_or-append}
use lib.Seq.{get_or_at, get_or-take}
use Rattle.octets.proofs.Lists.{length-tabulate, get_d_tabulate}
use Rattle.sha_rules.specs.Words.{◌⊞◌, σ₀, σ₁}
use Rattle.sha_rules.specs.Hash.{word, schedule_word, expand, schedule}

-- word t reads the words before it alone
pub schedule-word-agree : (u w : List ℕ) (t : ℕ) → 16 ≤ t → ((j : ℕ) → j < t → get_or u j 0 ≡ get_or w j 0)
    → schedule_word u t ≡ schedule_word w t
unfolding schedule_word
schedule-word-agree u w t h e =
    ap₂ ◌⊞◌
    (ap₂ ◌⊞◌ (ap₂ ◌⊞◌ (ap σ₁ (e (t - 2) (omega arith))) (e (t - 7) (omega arith))) (ap σ₀ (e (t - 15) (omega arith))))
    (e (t - 16) (omega arith))

-- two lists with the same front have the same elements there
pub front-agree : (u w : List ℕ) (t : ℕ) → take t u ≡ take t w → (j : ℕ) → j < t → get_or u j 0 ≡ get_or w j 0
front-agree u w t e j h = sym (get_or-take t u j 0 h) ∙ ap (λ (l : List ℕ). get_or l j 0) e ∙ get_or-take t w j 0 h

module _ (m : List ℕ) where
  length-expand : (n : ℕ) → length (expand n m) ≡ 16 + n
  unfolding expand
  length-expand zero = length-tabulate 16 (word m)
  length-expand (suc n) =
      omega (arith, length-append (expand n m) (schedule_word (expand n m) (16 + n) ∷ []), length-expand n)

  pub length-schedule : length (schedule m) ≡ 64
  unfolding schedule
  length-schedule = length-expand 48

  -- a longer schedule keeps the words of a shorter one
  expand-kept : (n k j : ℕ) → k ≤ n → j < 16 + k → get_or (expand n m) j 0 ≡ get_or (expand k m) j 0
  unfolding expand
  expand-kept zero k j h l = let e : zero ≡ k = omega arith in ap (λ (x : ℕ). get_or (expand x m) j 0) e
  expand-kept (suc n) k j h l =
      elim (dec_le k n) [
        | yes p ↦
            get_or-append (expand n m) (schedule_word (expand n m) (16 + n) ∷ []) 0 j (omega (arith, length-expand n))
            ∙ expand-kept n k j p l
        | no p ↦ let e : suc n ≡ k = omega arith in ap (λ (x : ℕ). get_or (expand x m) j 0) e
      ]

  pub schedule-first : (t : ℕ) → t < 16 → get_or (schedule m) t 0 ≡ word m t
  unfolding schedule expand
  schedule-first t h = expand-kept 48 0 t (omega arith) (omega arith) ∙ get_d_tabulate 16 (word m) t h

  last_word : (n : ℕ) → get_or (expand (suc n) m) (16 + n) 0 ≡ schedule_word (expand n m) (16 + n)
  unfolding expand
  last_word n = get_or_at (expand n m) (schedule_word (expand n m) (16 + n)) [] 0 (16 + n) (length-expand n)

  pub schedule-next : (t : ℕ) → 16 ≤ t → t < 64 → get_or (schedule m) t 0 ≡ schedule_word (schedule m) t
  unfolding schedule
  schedule-next t h l =
      let at : t ≡ 16 + (t - 16) = omega arith in
      expand-kept 48 (suc (t - 16)) t (omega arith) (omega arith)
      ∙ ap (λ (x : ℕ). get_or (expand (suc (t - 16)) m) x 0) at
      ∙ last_word (t - 16)
      ∙ ap (schedule_word (expand (t - 16) m)) (sym at)
      ∙ schedule-word-agree (expand (t - 16) m) (expand 48 m) t h
      (λ j b. sym (expand-kept 48 (t - 16) j (omega arith) (omega arith)))
