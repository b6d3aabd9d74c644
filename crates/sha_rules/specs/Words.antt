-- FIPS 180-4, sections 2.2.2, 3.2 and 4.1.2: operations on words of 32 bits, and the six functions of SHA-256 (RULES 7.7).
-- A word is a number below 2^32.
use Rattle.std.specs.Prelude.{ℕ, ◌+◌, ◌-◌, ◌*◌, ◌/◌, ◌%◌, ◌^◌}
use Rattle.std.specs.Int.Bits.{bit_and, bit_or, bit_xor}

infixl 58 ◌⊕◌
infixl 60 ◌⊞◌
-- 2.2.2 and 3.2, 1: exclusive-or and complement
abbrev pub ◌⊕◌ : ℕ → ℕ → ℕ
x ⊕ y = bit_xor x y

abbrev pub complement : ℕ → ℕ
complement x = 2 ^ 32 - 1 - x

-- 3.2, 2: addition modulo 2^32
unfoldable pub ◌⊞◌ : ℕ → ℕ → ℕ
x ⊞ y = (x + y) % 2 ^ 32

-- 3.2, 3 and 4: SHR^n(x), and ROTR^n(x), where the n bits that a shift to the right loses come in at the left
abbrev pub shr : ℕ → ℕ → ℕ
shr n x = x / 2 ^ n

unfoldable pub rotr : ℕ → ℕ → ℕ
rotr n x = bit_or (x / 2 ^ n) (x * 2 ^ (32 - n) % 2 ^ 32)

-- 4.1.2: the functions (4.2) to (4.7)
unfoldable pub Ch : ℕ → ℕ → ℕ → ℕ
Ch x y z = bit_and x y ⊕ bit_and (complement x) z

unfoldable pub Maj : ℕ → ℕ → ℕ → ℕ
Maj x y z = bit_and x y ⊕ bit_and x z ⊕ bit_and y z

unfoldable pub Σ₀ : ℕ → ℕ
Σ₀ x = rotr 2 x ⊕ rotr 13 x ⊕ rotr 22 x

unfoldable pub Σ₁ : ℕ → ℕ
Σ₁ x = rotr 6 x ⊕ rotr 11 x ⊕ rotr 25 x

unfoldable pub σ₀ : ℕ → ℕ
σ₀ x = rotr 7 x ⊕ rotr 18 x ⊕ shr 3 x

unfoldable pub σ₁ : ℕ → ℕ
σ₁ x = rotr 17 x ⊕ rotr 19 x ⊕ shr 10 x
