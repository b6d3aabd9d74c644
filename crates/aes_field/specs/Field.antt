-- The finite field GF(2^8) of FIPS 197, section 4, and the rules of the S-box and of its inverse, sections 5.1.1 and 5.3.2 (RULES 7.2).
-- A byte is a number below 256.
use Rattle.std.specs.Prelude.{ℕ, zero, suc, ◌+◌, ◌*◌, ◌/◌, ◌%◌, ◌^◌}
use Rattle.std.specs.Int.Bits.{bit_xor}

infixr 60 ◌⊕◌
infixr 68 ◌•◌
-- 4.1: the sum of two bytes
abbrev pub ◌⊕◌ : ℕ → ℕ → ℕ
a ⊕ b = bit_xor a b

-- 4.2: XTIMES, the product of x and b: a shift to the left, and 1b added where the bit that falls out is set
unfoldable pub x_times : ℕ → ℕ
x_times b = (b * 2 % 256) ⊕ (b / 128 % 2 * 0x1b)

-- 4.2: the product of c and b: the sum of b times x^i over the bits i of c that are set. `terms n` has the n lowest bits of c
abbrev pub terms : ℕ → ℕ → ℕ → ℕ
terms zero c b = 0
terms (suc n) c b = (c % 2 * b) ⊕ terms n (c / 2) (x_times b)

unfoldable pub ◌•◌ : ℕ → ℕ → ℕ
c • b = terms 8 c b

-- 4.4: the inverse of b is b^254, and that of 0 is 0. `squares n b` is the product of b^2, b^4, .. b^(2^n): for n = 7 that is b^254
abbrev pub squares : ℕ → ℕ → ℕ
squares zero b = 1
squares (suc n) b = (b • b) • squares n (b • b)

unfoldable pub inverse : ℕ → ℕ
inverse b = squares 7 b

-- bit i of b, counted from the lowest, which is bit 0; and the number of n bits whose bit i is f i
abbrev pub bit : ℕ → ℕ → ℕ
bit b i = b / 2 ^ i % 2

abbrev pub from_bits : ℕ → (ℕ → ℕ) → ℕ
from_bits zero f = 0
from_bits (suc n) f = f zero + 2 * from_bits n (λ i. f (suc i))

-- 5.1.1: the affine transformation, bit by bit, with the constant 63
unfoldable pub affine : ℕ → ℕ
affine b =
    from_bits 8 (λ i. (bit b i + bit b ((i + 4) % 8) + bit b ((i + 5) % 8) + bit b ((i + 6) % 8) + bit b ((i + 7) % 8) + bit 0x63 i) % 2)

-- 5.3.2: its inverse, with the constant 05
unfoldable pub inv_affine : ℕ → ℕ
inv_affine b = from_bits 8 (λ i. (bit b ((i + 2) % 8) + bit b ((i + 5) % 8) + bit b ((i + 7) % 8) + bit 0x05 i) % 2)

-- 5.1.1: SBOX
unfoldable pub sub_byte : ℕ → ℕ
sub_byte b = affine (inverse b)

-- 5.3.2: INVSBOX
unfoldable pub inv_sub_byte : ℕ → ℕ
inv_sub_byte b = inverse (inv_affine b)
