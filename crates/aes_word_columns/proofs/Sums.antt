-- The sum of a word and of four entries of the tables has the bytes of MixColumns, with the word's bytes added.
-- Assumes nothing.
use mathlib.Core.Path.{◌≡◌, refl, ap₂, ◌∙◌}
use mathlib.Core.List.{List, [], ◌∷◌}
use Prim.Native.Nat.{ℕ, ◌/◌, ◌%◌}
use lib.Bits.{bit_xor, xor_comm}
use Rattle.octets.specs.Bytes.{xor_bytes}
use Rattle.octets.proofs.Lists.{◌&◌}
use Rattle.octets.proofs.Xor.{xor_assoc, xor-left-comm}
use Rattle.aes_field.specs.Field.{◌⊕◌, ◌•◌}
use Rattle.aes_rules.specs.Cipher.{mix_row}
use Rattle.aes_words.specs.Words.{word_bytes}
use Rattle.aes_words.proofs.Words.{xor-word-bytes}
use Rattle.aes_word_columns.specs.Columns.{mixed_column}

-- one word more
more : (x y : ℕ) (s t : List ℕ) → word_bytes x ≡ s → word_bytes y ≡ t → word_bytes (bit_xor x y) ≡ xor_bytes s t
more x y s t e f = xor-word-bytes x y ∙ ap₂ xor_bytes e f

pub mixed-sum : (p q u v k x₀ x₁ x₂ x₃ : ℕ)
    → word_bytes x₀ ≡ (2 • p) ∷ p ∷ p ∷ (3 • p) ∷ []
    → word_bytes x₁ ≡ (3 • q) ∷ (2 • q) ∷ q ∷ q ∷ []
    → word_bytes x₂ ≡ u ∷ (3 • u) ∷ (2 • u) ∷ u ∷ []
    → word_bytes x₃ ≡ v ∷ v ∷ (3 • v) ∷ (2 • v) ∷ []
    → word_bytes (bit_xor (bit_xor (bit_xor (bit_xor k x₀) x₁) x₂) x₃) ≡ xor_bytes (mixed_column p q u v) (word_bytes k)
unfolding mix_row
mixed-sum p q u v k x₀ x₁ x₂ x₃ e₀ e₁ e₂ e₃ =
    more (bit_xor (bit_xor (bit_xor k x₀) x₁) x₂) x₃ _ _
    (more (bit_xor (bit_xor k x₀) x₁) x₂ _ _
    (more (bit_xor k x₀) x₁ _ _ (more k x₀ _ _ refl e₀) e₁) e₂) e₃
    ∙ (row₀ (k % 256) & row₁ (k / 256 % 256) & row₂ (k / 65536 % 256) & row₃ (k / 16777216 % 256) & refl)
  where
    row₀ : (n : ℕ) → (((n ⊕ 2 • p) ⊕ 3 • q) ⊕ u) ⊕ v ≡ (2 • p ⊕ 3 • q ⊕ u ⊕ v) ⊕ n
    row₀ n = simp (xor_assoc, xor-left-comm, xor_comm)

    row₁ : (n : ℕ) → (((n ⊕ p) ⊕ 2 • q) ⊕ 3 • u) ⊕ v ≡ (2 • q ⊕ 3 • u ⊕ v ⊕ p) ⊕ n
    row₁ n = simp (xor_assoc, xor-left-comm, xor_comm)

    row₂ : (n : ℕ) → (((n ⊕ p) ⊕ q) ⊕ 2 • u) ⊕ 3 • v ≡ (2 • u ⊕ 3 • v ⊕ p ⊕ q) ⊕ n
    row₂ n = simp (xor_assoc, xor-left-comm, xor_comm)

    row₃ : (n : ℕ) → (((n ⊕ 3 • p) ⊕ q) ⊕ u) ⊕ 2 • v ≡ (2 • v ⊕ 3 • p ⊕ q ⊕ u) ⊕ n
    row₃ n = simp (xor_assoc, xor-left-comm, xor_comm)
