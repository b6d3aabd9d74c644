-- One row of MixColumns' product with a column, and of its inverse's, gives back the column's byte: the 16 products are sorted by the byte
-- that they multiply, and what multiplies each is computed over all 256 bytes.
-- Assumes nothing.
use mathlib.Core.Path.{◌≡◌, sym, ap₂, ◌∙◌}
use mathlib.Core.Bool.{Bool, ◌&&◌}
use Prim.Native.Nat.{ℕ, ◌<◌}
use native.Mathlib.Nat.{zero-mul, one-mul}
use lib.Dec.{T, eqb, eqb→eq}
use lib.Bits.{bit_xor, xor_comm, xor_zero_r, xor_lt}
use Rattle.octets.proofs.Xor.{xor_assoc, xor-left-comm, xor-cancel}
use Rattle.octets.proofs.Table.{and_left, and_right, all_below, each_below}
use Rattle.aes_field.specs.Field.{◌⊕◌, x_times, ◌•◌}
use Rattle.aes_field.proofs.Products.{product-sum, product-byte, x-times-sum, two, three}
use Rattle.aes_rules.specs.Cipher.{mix_row}
use Rattle.aes_rules.specs.InvCipher.{inv_mix_row}

-- ---- bytes
module _ (a b c d : ℕ) (ha : a < 256) (hb : b < 256) (hc : c < 256) (hd : d < 256) where
  pub mix-row-byte : mix_row a b c d < 256
  unfolding mix_row
  mix-row-byte = xor_lt 8 _ _ (product-byte _ a ha) (xor_lt 8 _ _ (product-byte _ b hb) (xor_lt 8 c d hc hd))

  pub inv-mix-row-byte : inv_mix_row a b c d < 256
  unfolding inv_mix_row
  inv-mix-row-byte =
      xor_lt 8 _ _ (product-byte _ a ha) (xor_lt 8 _ _ (product-byte _ b hb) (xor_lt 8 _ _ (product-byte _ c hc) (product-byte _ d hd)))

-- ---- a matrix whose rows are the first one, turned, and a second such matrix: their product with a column
abbrev row : ℕ → ℕ → ℕ → ℕ → ℕ → ℕ → ℕ → ℕ → ℕ
row e f g h a b c d = e • a ⊕ f • b ⊕ g • c ⊕ h • d

module _ (e f g h i j k l : ℕ) where
  -- what multiplies each byte of the column in the first row of the product
  abbrev first : ℕ → ℕ
  first x = e • i • x ⊕ f • l • x ⊕ g • k • x ⊕ h • j • x

  abbrev second : ℕ → ℕ
  second x = e • j • x ⊕ f • i • x ⊕ g • l • x ⊕ h • k • x

  abbrev third : ℕ → ℕ
  third x = e • k • x ⊕ f • j • x ⊕ g • i • x ⊕ h • l • x

  abbrev fourth : ℕ → ℕ
  fourth x = e • l • x ⊕ f • k • x ⊕ g • j • x ⊕ h • i • x

  sorted : (a b c d : ℕ)
      → row e f g h (row i j k l a b c d) (row i j k l b c d a) (row i j k l c d a b) (row i j k l d a b c)
      ≡ first a ⊕ second b ⊕ third c ⊕ fourth d
  sorted a b c d = simp (product-sum, xor_assoc, xor-left-comm, xor_comm)

  -- the test that the product is the column's own byte
  abbrev unit : ℕ → Bool
  unit x = (eqb (first x) x && eqb (second x) 0) && (eqb (third x) 0 && eqb (fourth x) 0)

  undone : T (all_below unit 256) → (a b c d : ℕ) → a < 256 → b < 256 → c < 256 → d < 256
      → row e f g h (row i j k l a b c d) (row i j k l b c d a) (row i j k l c d a b) (row i j k l d a b c) ≡ a
  undone t a b c d ha hb hc hd =
      sorted a b c d ∙ ap₂ bit_xor (one a ha) (ap₂ bit_xor (none₂ b hb) (ap₂ bit_xor (none₃ c hc) (none₄ d hd))) ∙ xor_zero_r a
    where
      passed : (x : ℕ) → x < 256 → T (unit x)
      passed = each_below unit 256 t

      left : (x : ℕ) → x < 256 → T (eqb (first x) x && eqb (second x) 0)
      left x p = and_left (eqb (first x) x && eqb (second x) 0) (eqb (third x) 0 && eqb (fourth x) 0) (passed x p)

      right : (x : ℕ) → x < 256 → T (eqb (third x) 0 && eqb (fourth x) 0)
      right x p = and_right (eqb (first x) x && eqb (second x) 0) (eqb (third x) 0 && eqb (fourth x) 0) (passed x p)

      one : (x : ℕ) → x < 256 → first x ≡ x
      one x p = eqb→eq (first x) x (and_left (eqb (first x) x) (eqb (second x) 0) (left x p))

      none₂ : (x : ℕ) → x < 256 → second x ≡ 0
      none₂ x p = eqb→eq (second x) 0 (and_right (eqb (first x) x) (eqb (second x) 0) (left x p))

      none₃ : (x : ℕ) → x < 256 → third x ≡ 0
      none₃ x p = eqb→eq (third x) 0 (and_left (eqb (third x) 0) (eqb (fourth x) 0) (right x p))

      none₄ : (x : ℕ) → x < 256 → fourth x ≡ 0
      none₄ x p = eqb→eq (fourth x) 0 (and_right (eqb (third x) 0) (eqb (fourth x) 0) (right x p))

-- ---- the two matrices of AES
product-one : (b : ℕ) → 1 • b ≡ b
unfolding ◌•◌
product-one b = simp (zero-mul, one-mul, xor_zero_r)

mix-row-is : (a b c d : ℕ) → mix_row a b c d ≡ row 2 3 1 1 a b c d
unfolding mix_row
mix-row-is a b c d = sym (ap₂ (λ (x y : ℕ). 2 • a ⊕ 3 • b ⊕ x ⊕ y) (product-one c) (product-one d))

module _ (a b c d : ℕ) (ha : a < 256) (hb : b < 256) (hc : c < 256) (hd : d < 256) where
  abbrev mixed : ℕ → ℕ → ℕ → ℕ → ℕ
  mixed = row 2 3 1 1

  abbrev unmixed : ℕ → ℕ → ℕ → ℕ → ℕ
  unmixed = row 14 11 13 9

  unmix : unmixed (mixed a b c d) (mixed b c d a) (mixed c d a b) (mixed d a b c) ≡ a
  unfolding ◌•◌ x_times
  unmix = undone 14 11 13 9 2 3 1 1 tt a b c d ha hb hc hd

  mix : mixed (unmixed a b c d) (unmixed b c d a) (unmixed c d a b) (unmixed d a b c) ≡ a
  unfolding ◌•◌ x_times
  mix = undone 2 3 1 1 14 11 13 9 tt a b c d ha hb hc hd

  pub inv-mix-mix : inv_mix_row (mix_row a b c d) (mix_row b c d a) (mix_row c d a b) (mix_row d a b c) ≡ a
  unfolding inv_mix_row
  inv-mix-mix = rw (mix-row-is a b c d, mix-row-is b c d a, mix-row-is c d a b, mix-row-is d a b c) unmix

  pub mix-inv-mix : mix_row (inv_mix_row a b c d) (inv_mix_row b c d a) (inv_mix_row c d a b) (inv_mix_row d a b c) ≡ a
  unfolding inv_mix_row
  mix-inv-mix = mix-row-is (unmixed a b c d) (unmixed b c d a) (unmixed c d a b) (unmixed d a b c) ∙ mix

-- ---- a row of MixColumns from the column's sum and one doubling
pub mix-row-by-sum : (a b c d sum : ℕ) → sum ≡ a ⊕ b ⊕ c ⊕ d → a ⊕ sum ⊕ x_times (a ⊕ b) ≡ mix_row a b c d
unfolding mix_row
mix-row-by-sum a b c d sum e =
    rw (e, x-times-sum a b, two a, three b, xor_assoc a (b ⊕ c ⊕ d) (x_times a ⊕ x_times b), xor-cancel a ((b ⊕ c ⊕ d) ⊕ x_times a ⊕ x_times b))
    (simp (xor_assoc, xor-left-comm, xor_comm))

pub turn-sum : (a b c d : ℕ) → a ⊕ b ⊕ c ⊕ d ≡ b ⊕ c ⊕ d ⊕ a
turn-sum a b c d = xor_comm a (b ⊕ c ⊕ d) ∙ simp xor_assoc
