-- A sum of words modulo 2^32 is the same in another order, since it is the whole sum's remainder.
-- Assumes nothing.
use mathlib.Core.Path.{◌≡◌, refl, sym, ap, ◌∙◌}
use Prim.Native.Nat.{ℕ, ◌+◌, ◌%◌, ◌^◌}
use native.Mathlib.Omega.{arith}
use Rattle.sha_rules.specs.Words.{◌⊞◌}

remainder : (n y : ℕ) → (n % 2 ^ 32 + y) % 2 ^ 32 ≡ (n + y) % 2 ^ 32
remainder n y = omega arith

more : (x n y : ℕ) → x ≡ n % 2 ^ 32 → x ⊞ y ≡ (n + y) % 2 ^ 32
unfolding ◌⊞◌
more x n y e = ap (λ (z : ℕ). (z + y) % 2 ^ 32) e ∙ remainder n y

two : (a b : ℕ) → a ⊞ b ≡ (a + b) % 2 ^ 32
unfolding ◌⊞◌
two a b = refl

four : (a b c d : ℕ) → a ⊞ b ⊞ c ⊞ d ≡ (a + b + c + d) % 2 ^ 32
four a b c d = more (a ⊞ b ⊞ c) (a + b + c) d (more (a ⊞ b) (a + b) c (two a b))

five : (a b c d e : ℕ) → a ⊞ b ⊞ c ⊞ d ⊞ e ≡ (a + b + c + d + e) % 2 ^ 32
five a b c d e = more (a ⊞ b ⊞ c ⊞ d) (a + b + c + d) e (four a b c d)

-- the sum of the message schedule, first and last word exchanged
pub four-in-order : (a b c d : ℕ) → d ⊞ b ⊞ c ⊞ a ≡ a ⊞ b ⊞ c ⊞ d
four-in-order a b c d =
    let same : d + b + c + a ≡ a + b + c + d = omega arith in
    four d b c a ∙ ap (λ (n : ℕ). n % 2 ^ 32) same ∙ sym (four a b c d)

-- T₁, what is known first at the front
pub five-in-order : (h s c k w : ℕ) → k ⊞ w ⊞ h ⊞ c ⊞ s ≡ h ⊞ s ⊞ c ⊞ k ⊞ w
five-in-order h s c k w =
    let same : k + w + h + c + s ≡ h + s + c + k + w = omega arith in
    five k w h c s ∙ ap (λ (n : ℕ). n % 2 ^ 32) same ∙ sym (five h s c k w)
