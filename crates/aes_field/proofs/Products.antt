-- The product of the field: it is a byte, it distributes over the sum, and the products that AES takes are reached by doubling.
-- Assumes nothing.
use mathlib.Core.Path.{◌≡◌, refl, sym, ap, ap₂, ◌∙◌}
use Prim.Native.Nat.{ℕ, zero, suc, ◌+◌, ◌*◌, ◌/◌, ◌%◌, ◌^◌, ◌<◌}
use native.Mathlib.Nat.{zero-mul, one-mul}
use native.Mathlib.Omega.{arith}
use lib.Bits.{bit_xor, xor_block, xor_shr, xor_mod, xor_lt, xor_zero_r}
use Rattle.octets.proofs.Xor.{xor-interchange}
use Rattle.aes_field.specs.Field.{◌⊕◌, x_times, terms, ◌•◌}

-- ---- bytes
pub x-times-byte : (b : ℕ) → x_times b < 256
unfolding x_times
x-times-byte b = xor_lt 8 (b * 2 % 256) (b / 128 % 2 * 27) (omega arith) (omega arith)

chosen-byte : (n b : ℕ) → n < 2 → b < 256 → n * b < 256
chosen-byte zero b p h = omega arith
chosen-byte (suc zero) b p h = omega arith
chosen-byte (suc (suc n)) b p h = omega arith

terms-byte : (n c b : ℕ) → b < 256 → terms n c b < 256
terms-byte zero c b h = omega arith
terms-byte (suc n) c b h =
    xor_lt 8 (c % 2 * b) (terms n (c / 2) (x_times b)) (chosen-byte (c % 2) b (omega arith) h)
    (terms-byte n (c / 2) (x_times b) (x-times-byte b))

pub product-byte : (c b : ℕ) → b < 256 → c • b < 256
unfolding ◌•◌
product-byte c b h = terms-byte 8 c b h

-- ---- the product of a sum is the sum of the products, at all numbers
doubled : (a b : ℕ) → (a ⊕ b) * 2 ≡ (a * 2) ⊕ (b * 2)
doubled a b = sym (ap₂ bit_xor (plus_none a) (plus_none b) ∙ xor_block 1 a b 0 0 (omega arith) (omega arith) ∙ omega arith)
  where
    plus_none : (x : ℕ) → x * 2 ≡ x * 2 + 0
    plus_none x = omega arith

chosen-sum : (n a b : ℕ) → n < 2 → n * (a ⊕ b) ≡ (n * a) ⊕ (n * b)
chosen-sum zero a b p = rw (zero-mul (a ⊕ b), zero-mul a, zero-mul b)
chosen-sum (suc zero) a b p = rw (one-mul (a ⊕ b), one-mul a, one-mul b)
chosen-sum (suc (suc n)) a b p = omega arith

carried : (a b : ℕ) → (a ⊕ b) / 128 % 2 * 27 ≡ (a / 128 % 2 * 27) ⊕ (b / 128 % 2 * 27)
carried a b =
    ap (λ (x : ℕ). x % 2 * 27) (xor_shr a b 7)
    ∙ ap (λ (x : ℕ). x * 27) (xor_mod (a / 128) (b / 128) 1)
    ∙ of-bits (a / 128 % 2) (b / 128 % 2) (omega arith) (omega arith)
  where
    of-bits : (x y : ℕ) → x < 2 → y < 2 → (x ⊕ y) * 27 ≡ (x * 27) ⊕ (y * 27)
    of-bits zero zero p q = refl
    of-bits zero (suc zero) p q = refl
    of-bits zero (suc (suc y)) p q = omega arith
    of-bits (suc zero) zero p q = refl
    of-bits (suc zero) (suc zero) p q = refl
    of-bits (suc zero) (suc (suc y)) p q = omega arith
    of-bits (suc (suc x)) y p q = omega arith

pub x-times-sum : (a b : ℕ) → x_times (a ⊕ b) ≡ x_times a ⊕ x_times b
unfolding x_times
x-times-sum a b =
    ap₂ bit_xor (ap (λ (x : ℕ). x % 256) (doubled a b) ∙ xor_mod (a * 2) (b * 2) 8) (carried a b)
    ∙ xor-interchange (a * 2 % 256) (b * 2 % 256) (a / 128 % 2 * 27) (b / 128 % 2 * 27)

terms-sum : (n c a b : ℕ) → terms n c (a ⊕ b) ≡ terms n c a ⊕ terms n c b
terms-sum zero c a b = refl
terms-sum (suc n) c a b =
    ap₂ bit_xor (chosen-sum (c % 2) a b (omega arith))
    (ap (terms n (c / 2)) (x-times-sum a b) ∙ terms-sum n (c / 2) (x_times a) (x_times b))
    ∙ xor-interchange (c % 2 * a) (c % 2 * b) (terms n (c / 2) (x_times a)) (terms n (c / 2) (x_times b))

pub product-sum : (c a b : ℕ) → c • (a ⊕ b) ≡ (c • a) ⊕ (c • b)
unfolding ◌•◌
product-sum c a b = terms-sum 8 c a b

-- ---- the products of MixColumns, by one doubling
pub two : (b : ℕ) → 2 • b ≡ x_times b
unfolding ◌•◌
two b = simp (zero-mul, one-mul, xor_zero_r)

pub three : (b : ℕ) → 3 • b ≡ b ⊕ x_times b
unfolding ◌•◌
three b = simp (zero-mul, one-mul, xor_zero_r)
