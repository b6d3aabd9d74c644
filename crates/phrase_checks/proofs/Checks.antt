-- What the checks find in the words: that no number is over 2047, and the checksum as a number.
-- Assumes nothing.
use mathlib.Core.Path.{◌≡◌, sym, ap, ap₂, ◌∙◌}
use mathlib.Core.Bool.{true}
use mathlib.Core.List.{List, [], ◌∷◌, ◌++◌}
use Prim.Native.Nat.{ℕ, suc, ◌+◌, ◌-◌, ◌*◌, ◌/◌, ◌%◌, ◌^◌, ◌≤◌, ◌<◌}
use native.Mathlib.Numerals.{add-one}
use native.Mathlib.Omega.{arith}
use lib.Dec.{eqb}
use lib.ListN.{length, take, drop, get_or, length-drop, drop_of_length-le}
use lib.Seq.{drop-cons, take_all}
use borrow.Author.Tests.{le-leb}
use Rattle.sha_rules.specs.Hash.{sha256}
use Rattle.phrase_rules.specs.Bits.{bits_of, bits, number}
use Rattle.phrase_rules.specs.Numbers.{checksum_size, checksum}
use Rattle.phrase_rules.specs.Reverse.{from_two_bytes, checksum_size_in, word_bits, entropy_in, checksum_in, Counted, in_eleven_bits, is_checked}
use Rattle.phrase_rules.proofs.Bits.{Below, below-drop, below-bits_of, below-bits, length-bits_of, length-bits, number-bits_of}
use Rattle.phrase_rules.proofs.Numbers.{length-from_two_bytes, checksum-in-byte, below-checksum, length-checksum}
use Rattle.phrase_rules.proofs.Reverse.{same_number, length-entropy_in}
use Rattle.phrase_bits.proofs.Windows.{window, number-part, one_number}

-- ---- no number is over 2047, from the first to the last
pub eleven-next : (s : List ℕ) (k : ℕ) → k < length s → get_or s k 0 ≤ 2047 → in_eleven_bits s ≡ in_eleven_bits (drop k s)
    → in_eleven_bits s ≡ in_eleven_bits (drop (k + 1) s)
unfolding in_eleven_bits
eleven-next s k h l e =
    e ∙ ap in_eleven_bits (drop-cons s k 0 h) ∙ rw (le-leb (get_or s k 0) 2047 l) (ap (λ (j : ℕ). in_eleven_bits (drop j s)) (sym (add-one k)))

pub eleven-end : (s : List ℕ) (k : ℕ) → length s ≤ k → in_eleven_bits s ≡ in_eleven_bits (drop k s) → in_eleven_bits s ≡ true
unfolding in_eleven_bits
eleven-end s k h e = e ∙ ap in_eleven_bits (drop_of_length-le s h)

-- ---- the checksum: n bits
-- the first n bits of the hash, which are the highest of its first byte
first-bits : (n : ℕ) (e d : List ℕ) → checksum_size e ≡ n → n ≤ 8 → d ≡ sha256 e → get_or d 0 0 < 256
    → number (checksum e) ≡ get_or d 0 0 / 2 ^ (8 - n) % 2 ^ n
first-bits n e d l m p h =
    ap number (checksum-in-byte e (omega arith) ∙ ap₂ (λ (k : ℕ) (t : List ℕ). take k (bits_of 8 (get_or t 0 0))) l (sym p))
    ∙ number-part (bits_of 8 (get_or d 0 0)) 0 n (8 - n) (length-bits_of 8 (get_or d 0 0) ∙ omega arith) (below-bits_of 8 (get_or d 0 0))
    ∙ ap (λ (x : ℕ). x / 2 ^ (8 - n) % 2 ^ n) (number-bits_of 8 (get_or d 0 0) h)

module _ (words : List ℕ) (c : Counted (checksum_size_in words) words) where
  n : ℕ
  n = checksum_size_in words

  numbers : List ℕ
  numbers = from_two_bytes words

  -- the last n bits of the words, which are the lowest of the last number
  last-bits : number (checksum_in words) ≡ get_or (from_two_bytes words) (3 * checksum_size_in words - 1) 0 % 2048 / 2 ^ 0 % 2 ^ checksum_size_in words
  unfolding n numbers checksum_in word_bits
  last-bits =
      ap number (sym (take_all n (drop (32 * n) (bits 11 numbers)) (omega (arith, length-drop (32 * n) (bits 11 numbers), length-bits 11 numbers, long)))
      ∙ ap (λ (k : ℕ). take n (drop k (bits 11 numbers))) place)
      ∙ window 11 n (3 * n - 1) (11 - n) 0 numbers (get_or numbers (3 * n - 1) 0 ∷ []) [] last (omega (arith, long)) (omega (arith, c.most))
      ∙ ap (λ (x : ℕ). x / 2 ^ 0 % 2 ^ n) (one_number 11 (get_or numbers (3 * n - 1) 0))
    where
      long : length (from_two_bytes words) ≡ 3 * checksum_size_in words
      long = omega (arith, length-from_two_bytes words, c.long)

      place : 32 * checksum_size_in words ≡ (3 * checksum_size_in words - 1) * 11 + (11 - checksum_size_in words)
      place = omega (arith, c.least, c.most)

      last : drop (3 * checksum_size_in words - 1) (from_two_bytes words) ≡ (get_or (from_two_bytes words) (3 * checksum_size_in words - 1) 0 ∷ []) ++ []
      last =
          drop-cons (from_two_bytes words) (3 * checksum_size_in words - 1) 0 (omega (arith, long, c.least))
          ∙ ap (λ (r : List ℕ). get_or (from_two_bytes words) (3 * checksum_size_in words - 1) 0 ∷ r) (drop_of_length-le (from_two_bytes words) {i = suc (3 * checksum_size_in words - 1)} (omega (arith, long)))

  long-in : length (checksum_in words) ≡ checksum_size_in words
  unfolding checksum_in word_bits
  long-in =
      omega (arith, length-drop (32 * checksum_size_in words) (word_bits words), length-bits 11 (from_two_bytes words), length-from_two_bytes words, c.long)

  below_in : Below 2 (checksum_in words)
  unfolding checksum_in word_bits
  below_in = below-drop 2 (32 * checksum_size_in words) (word_bits words) (below-bits 11 (from_two_bytes words))

  pub checked : (d : List ℕ) → d ≡ sha256 (entropy_in words) → get_or d 0 0 < 256
      → is_checked words
      ≡ eqb (get_or (from_two_bytes words) (3 * checksum_size_in words - 1) 0 % 2048 / 2 ^ 0 % 2 ^ checksum_size_in words)
      (get_or d 0 0 / 2 ^ (8 - checksum_size_in words) % 2 ^ checksum_size_in words)
  unfolding is_checked
  checked d p h =
      same_number (checksum_in words) (checksum (entropy_in words)) same-long below_in (below-checksum (entropy_in words))
      ∙ ap₂ eqb last-bits (first-bits (checksum_size_in words) (entropy_in words) d (omega (arith, length-entropy_in words)) c.most p h)
    where
      same-long : length (checksum_in words) ≡ length (checksum (entropy_in words))
      same-long =
          omega (arith, long-in, length-checksum (checksum_size_in words) (entropy_in words) (length-entropy_in words) c.most)
