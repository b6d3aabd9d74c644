-- A rule at every number below n, or at every entry of a table, from one test that the checker computes.
-- Assumes nothing.
use mathlib.Core.Path.{◌≡◌, subst, sym}
use mathlib.Core.Bool.{Bool, true, false, ◌&&◌}
use mathlib.Core.Logic.{◌⊎◌, inl, inr}
use Prim.Native.Nat.{ℕ, zero, suc, ◌<◌}
use native.Mathlib.Nat.{not-suc-le-zero}
use native.Mathlib.Decide.{dec_lt}
use native.Mathlib.Omega.{arith}
use lib.Dec.{T, eqb, eqb→eq}

-- ---- both parts of a test that passes
pub and_left : (a b : Bool) → T (a && b) → T a
and_left true b t = tt
and_left false b t = t

pub and_right : (a b : Bool) → T (a && b) → T b
and_right true b t = t
and_right false b t = absurd t

-- ---- a test at every number below n
abbrev pub all_below : (ℕ → Bool) → ℕ → Bool
all_below f zero = true
all_below f (suc n) = f n && all_below f n

last-or-below : (k n : ℕ) → k < suc n → (k ≡ n) ⊎ (k < n)
last-or-below k n h = elim (dec_lt k n) [ yes p ↦ inr p | no p ↦ inl (omega arith) ]

pub each_below : (f : ℕ → Bool) (n : ℕ) → T (all_below f n) → (k : ℕ) → k < n → T (f k)
each_below f zero t k h = absurd (not-suc-le-zero h)
each_below f (suc n) t k h =
    elim (last-or-below k n h) [
      | inl e ↦ subst (λ (m : ℕ). T (f m)) (sym e) (and_left (f n) (all_below f n) t)
      | inr p ↦ each_below f n (and_right (f n) (all_below f n) t) k p
    ]

-- two functions that agree below n, by a test
pub agree-below : (f g : ℕ → ℕ) (n : ℕ) → T (all_below (λ k. eqb (f k) (g k)) n) → (k : ℕ) → k < n → f k ≡ g k
agree-below f g n t k h = eqb→eq (f k) (g k) (each_below (λ k. eqb (f k) (g k)) n t k h)
