-- The steps of a round on four words are those on their 16 bytes, and the words of a round's key are the bytes that it has in the schedule.
-- Assumes nothing.
use mathlib.Core.Path.{◌≡◌, refl, sym, ap, ap₂, ◌∙◌}
use mathlib.Core.List.{List, [], ◌∷◌, ◌++◌}
use Prim.Native.Nat.{ℕ, ◌+◌, ◌*◌, ◌≤◌}
use native.Mathlib.Omega.{arith}
use lib.Bits.{bit_xor}
use lib.ListN.{length, take, drop, get_or}
use Rattle.octets.specs.Bytes.{xor_bytes}
use Rattle.octets.proofs.Lists.{tabulated}
use Rattle.aes_rules.specs.Cipher.{sub_bytes, shift_rows, mix_columns, add_round_key, round_key, round}
use Rattle.aes_keys.proofs.Words.{four_bytes}
use Rattle.aes_words.specs.Words.{word_bytes, bytes_of}
use Rattle.aes_words.proofs.Words.{xor-word-bytes, drop-words, take_words}
use Rattle.aes_word_columns.specs.Columns.{mixed_column, sub0, sub1, sub2, sub3}

-- the four words that round r uses
pub key-words : (w : List ℕ) (r : ℕ) → length w ≡ 60 → r ≤ 14
    → round_key (bytes_of w) r ≡ bytes_of (get_or w (r * 4) 0 ∷ get_or w (r * 4 + 1) 0 ∷ get_or w (r * 4 + 2) 0 ∷ get_or w (r * 4 + 3) 0 ∷ [])
key-words w r l h =
    ap (λ (n : ℕ). take 16 (drop n (bytes_of w))) {x = r * 16} {y = r * 4 * 4} (omega arith)
    ∙ ap (take 16) (drop-words (r * 4) w)
    ∙ take_words 4 (drop (r * 4) w)
    ∙ ap bytes_of (sym (four_bytes w (r * 4) (omega arith)))

-- four words, each with its bytes
four : (x y z v : ℕ) (p q u t : List ℕ) → word_bytes x ≡ p → word_bytes y ≡ q → word_bytes z ≡ u → word_bytes v ≡ t
    → bytes_of (x ∷ y ∷ z ∷ v ∷ []) ≡ p ++ (q ++ (u ++ (t ++ [])))
four x y z v p q u t e₀ e₁ e₂ e₃ =
    ap₂ (λ (a b : List ℕ). a ++ b) e₀ (ap₂ (λ (a b : List ℕ). a ++ b) e₁ (ap₂ (λ (a b : List ℕ). a ++ b) e₂ (ap₂ (λ (a b : List ℕ). a ++ b) e₃ refl)))

module _ (s w : List ℕ) (r : ℕ) (four-words : length s ≡ 4) (sixty : length w ≡ 60) (within : r ≤ 14) (v₀ v₁ v₂ v₃ : ℕ) where
  abbrev a : ℕ
  a = get_or s 0 0

  abbrev b : ℕ
  b = get_or s 1 0

  abbrev c : ℕ
  c = get_or s 2 0

  abbrev d : ℕ
  d = get_or s 3 0

  abbrev k₀ : ℕ
  k₀ = get_or w (r * 4) 0

  abbrev k₁ : ℕ
  k₁ = get_or w (r * 4 + 1) 0

  abbrev k₂ : ℕ
  k₂ = get_or w (r * 4 + 2) 0

  abbrev k₃ : ℕ
  k₃ = get_or w (r * 4 + 3) 0

  -- four columns with MixColumns
  pub round-words : word_bytes v₀ ≡ xor_bytes (mixed_column (sub0 a) (sub1 b) (sub2 c) (sub3 d)) (word_bytes k₀)
      → word_bytes v₁ ≡ xor_bytes (mixed_column (sub0 b) (sub1 c) (sub2 d) (sub3 a)) (word_bytes k₁)
      → word_bytes v₂ ≡ xor_bytes (mixed_column (sub0 c) (sub1 d) (sub2 a) (sub3 b)) (word_bytes k₂)
      → word_bytes v₃ ≡ xor_bytes (mixed_column (sub0 d) (sub1 a) (sub2 b) (sub3 c)) (word_bytes k₃)
      → bytes_of (v₀ ∷ v₁ ∷ v₂ ∷ v₃ ∷ []) ≡ round (bytes_of w) r (bytes_of s)
  unfolding round add_round_key mix_columns shift_rows sub_bytes
  round-words e₀ e₁ e₂ e₃ =
      four v₀ v₁ v₂ v₃ _ _ _ _ e₀ e₁ e₂ e₃
      ∙ ap₂ (λ (t k : List ℕ). xor_bytes (mix_columns (shift_rows (sub_bytes (bytes_of t)))) k) (sym (tabulated 4 s four-words)) (sym (key-words w r sixty within))

  -- four columns without it
  pub last-words : word_bytes v₀ ≡ sub0 a ∷ sub1 b ∷ sub2 c ∷ sub3 d ∷ []
      → word_bytes v₁ ≡ sub0 b ∷ sub1 c ∷ sub2 d ∷ sub3 a ∷ []
      → word_bytes v₂ ≡ sub0 c ∷ sub1 d ∷ sub2 a ∷ sub3 b ∷ []
      → word_bytes v₃ ≡ sub0 d ∷ sub1 a ∷ sub2 b ∷ sub3 c ∷ []
      → bytes_of (bit_xor v₀ k₀ ∷ bit_xor v₁ k₁ ∷ bit_xor v₂ k₂ ∷ bit_xor v₃ k₃ ∷ [])
      ≡ add_round_key (shift_rows (sub_bytes (bytes_of s))) (round_key (bytes_of w) r)
  unfolding add_round_key shift_rows sub_bytes
  last-words e₀ e₁ e₂ e₃ =
      four (bit_xor v₀ k₀) (bit_xor v₁ k₁) (bit_xor v₂ k₂) (bit_xor v₃ k₃) _ _ _ _ (added v₀ k₀ _ e₀) (added v₁ k₁ _ e₁) (added v₂ k₂ _ e₂) (added v₃ k₃ _ e₃)
      ∙ ap₂ (λ (t k : List ℕ). xor_bytes (shift_rows (sub_bytes (bytes_of t))) k) (sym (tabulated 4 s four-words)) (sym (key-words w r sixty within))
    where
      added : (x k : ℕ) (p : List ℕ) → word_bytes x ≡ p → word_bytes (bit_xor x k) ≡ xor_bytes p (word_bytes k)
      added x k p e = xor-word-bytes x k ∙ ap (λ (t : List ℕ). xor_bytes t (word_bytes k)) e

  -- the first key
  pub first-words : bytes_of (bit_xor a k₀ ∷ bit_xor b k₁ ∷ bit_xor c k₂ ∷ bit_xor d k₃ ∷ []) ≡ add_round_key (bytes_of s) (round_key (bytes_of w) r)
  unfolding add_round_key
  first-words =
      four (bit_xor a k₀) (bit_xor b k₁) (bit_xor c k₂) (bit_xor d k₃) _ _ _ _ (xor-word-bytes a k₀) (xor-word-bytes b k₁) (xor-word-bytes c k₂) (xor-word-bytes d k₃)
      ∙ ap₂ (λ (t k : List ℕ). xor_bytes (bytes_of t) k) (sym (tabulated 4 s four-words)) (sym (key-words w r sixty within))
