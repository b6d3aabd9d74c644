-- The word numbers and their reverse, by the laws of crate `phrase_rules`; and the numbers as the digits of one number.
-- Assumes nothing.
use mathlib.Core.Path.{◌≡◌, refl, sym, ap, ap₂, ◌∙◌}
use mathlib.Core.List.{List, [], ◌∷◌, ◌++◌}
use Prim.Native.Nat.{ℕ, zero, suc, ◌+◌, ◌-◌, ◌*◌, ◌/◌, ◌%◌, ◌^◌, ◌≤◌, ◌<◌}
use native.Mathlib.Nat.{mul_comm}
use native.Mathlib.Omega.{arith}
use lib.Arith.{digits_div}
use lib.ListN.{length, take, drop, get_or, take-append-drop, length-drop}
use Rattle.octets.specs.Bytes.{Bytes, written}
use Rattle.sha_rules.specs.Hash.{sha256}
use Rattle.sha_rules.proofs.Blocks.{length-sha256, bytes-sha256}
use Rattle.phrase_rules.specs.Bits.{bits_of, bits, read_on, number}
use Rattle.phrase_rules.specs.Numbers.{checksum_size, checksum, word_numbers, in_two_bytes, numbers_of}
use Rattle.phrase_rules.specs.Reverse.{reverse_refusal, reverse_bytes}
use Rattle.phrase_rules.proofs.Bits.{Below, below-drop, below_at, below-bytes, below-bits_of, length-bits_of, read-append, read-high, number_append, number-below, number-bits_of}
use Rattle.phrase_rules.proofs.Numbers.{checksum-in-byte, length-checksum, length-word_numbers, below-word_numbers, bits-word_numbers, length-numbers_of}
use Rattle.phrase_rules.proofs.Reverse.{Accepted, by-acceptance, reverse-accepts, reverse-generate, generate-reverse, length-entropy_in, bytes-entropy_in}
use Rattle.phrase_reverse.specs.declared.Entropy.{Entropy}
use Rattle.phrase_reverse.specs.Reversed.{Reversed}
use Rattle.claims.specs.Phrases.{IsEntropy, number_at, value_on, value, Numbers, Phrases}

-- ---- the bits of numbers are their digits in base 2 ^ w
read-bits : (w x : ℕ) (s : List ℕ) → Below (2 ^ w) s → read_on x (bits w s) ≡ value_on (2 ^ w) x s
unfolding bits read_on value_on
read-bits w x [] h = refl
read-bits w x (y ∷ s) h =
    read-append x (bits_of w y) (bits w s)
    ∙ read-bits w (read_on x (bits_of w y)) s h.1
    ∙ ap (λ (z : ℕ). value_on (2 ^ w) z s) one
  where
    one : read_on x (bits_of w y) ≡ 2 ^ w * x + y
    one =
        read-high x (bits_of w y)
        ∙ ap₂ (λ (k z : ℕ). x * 2 ^ k + z) (length-bits_of w y) (number-bits_of w y h.0)
        ∙ ap (λ (z : ℕ). z + y) (mul_comm x (2 ^ w))

number-bits : (w : ℕ) (s : List ℕ) → Below (2 ^ w) s → number (bits w s) ≡ value (2 ^ w) s
unfolding number
number-bits w s h = read-bits w 0 s h

-- the first n bits of a byte
high_bits : (n x : ℕ) → n ≤ 8 → x < 256 → number (take n (bits_of 8 x)) ≡ x / 2 ^ (8 - n)
high_bits n x m h =
    sym
    (ap (λ (z : ℕ). z / 2 ^ (8 - n)) whole
    ∙ digits_div (number (take n (bits_of 8 x))) (subst-length (number-below (drop n (bits_of 8 x)) (below-drop 2 n (bits_of 8 x) (below-bits_of 8 x)))))
  where
    rest : length (drop n (bits_of 8 x)) ≡ 8 - n
    rest = omega (arith, length-drop n (bits_of 8 x), length-bits_of 8 x)

    subst-length : number (drop n (bits_of 8 x)) < 2 ^ length (drop n (bits_of 8 x)) → number (drop n (bits_of 8 x)) < 2 ^ (8 - n)
    subst-length l = rw (sym rest) l

    whole : x ≡ number (take n (bits_of 8 x)) * 2 ^ (8 - n) + number (drop n (bits_of 8 x))
    whole =
        sym (number-bits_of 8 x h)
        ∙ ap number (sym (take-append-drop n (bits_of 8 x)))
        ∙ number_append (take n (bits_of 8 x)) (drop n (bits_of 8 x))
        ∙ ap (λ (k : ℕ). number (take n (bits_of 8 x)) * 2 ^ k + number (drop n (bits_of 8 x))) rest

-- ---- numbers in two bytes
two-bytes-at : (s : List ℕ) (k : ℕ) → k < length s → number_at (in_two_bytes s) k ≡ get_or s k 0
unfolding in_two_bytes
two-bytes-at [] k l = absurd (omega arith)
two-bytes-at (x ∷ s) zero l = omega arith
two-bytes-at (x ∷ s) (suc k) l =
    ap₂ (λ (a b : ℕ). get_or (x / 256 ∷ x % 256 ∷ in_two_bytes s) a 0 * 256 + get_or (x / 256 ∷ x % 256 ∷ in_two_bytes s) b 0)
    {x = 2 * suc k} {y = suc (suc (2 * k))} {u = 2 * suc k + 1} {v = suc (suc (2 * k + 1))} (omega arith) (omega arith)
    ∙ two-bytes-at s k (omega arith)

-- beyond the end there is 0
small_at : (s : List ℕ) (k : ℕ) → Below (2 ^ 11) s → get_or s k 0 ≤ 2047
small_at [] k h = omega arith
small_at (x ∷ s) zero h = let l : x < 2 ^ 11 = h.0 in omega arith
small_at (x ∷ s) (suc k) h = small_at s k h.1

-- ---- the numbers of an entropy
module _ (n : ℕ) (e : List ℕ) (i : IsEntropy n e) where
  size : checksum_size e ≡ n
  size = omega (arith, i.long)

  hash-byte : get_or (sha256 e) 0 0 < 256
  hash-byte = below_at (2 ^ 8) (sha256 e) 0 (below-bytes (sha256 e) (bytes-sha256 e)) (omega (arith, length-sha256 e))

  checksum-value : number (checksum e) ≡ get_or (sha256 e) 0 0 / 2 ^ (8 - n)
  checksum-value =
      ap number (checksum-in-byte e (omega (arith, size, i.most)))
      ∙ ap (λ (k : ℕ). number (take k (bits_of 8 (get_or (sha256 e) 0 0)))) size
      ∙ high_bits n (get_or (sha256 e) 0 0) i.most hash-byte

  same-value : value 2048 (word_numbers e) ≡ value 256 e * 2 ^ n + get_or (sha256 e) 0 0 / 2 ^ (8 - n)
  same-value =
      sym (number-bits 11 (word_numbers e) (below-word_numbers n e i.long i.most))
      ∙ ap number (bits-word_numbers n e i.long i.most)
      ∙ number_append (bits 8 e) (checksum e)
      ∙ ap₂ (λ (x y : ℕ). x + y)
      (ap₂ (λ (x k : ℕ). x * 2 ^ k) (number-bits 8 e (below-bytes e i.bytes)) (length-checksum n e i.long i.most))
      checksum-value

  are-numbers : Numbers n e
  unfolding numbers_of
  are-numbers = record {
    count = length-word_numbers n e i.long i.most;
    small = λ k. small_at (word_numbers e) k (below-word_numbers n e i.long i.most);
    same = same-value;
    answer = length-numbers_of n e i.long i.most;
    each = λ k l. two-bytes-at (word_numbers e) k (omega (arith, l, length-word_numbers n e i.long i.most));
  }

-- ---- what ENTROPY gives
module _ (words : List ℕ) (room : ℕ) (b : Bytes words) (e : reverse_refusal words room ≡ 0) where
  abbrev accepted : Accepted words
  accepted = by-acceptance words room e

  pub gives-entropy : IsEntropy (length words / 6) (reverse_bytes words room)
  unfolding reverse_bytes
  gives-entropy = rw e (record {
    least = accepted.count.least;
    most = accepted.count.most;
    long = length-entropy_in words;
    bytes = bytes-entropy_in words b accepted;
  })

-- and what the code's contract has of it
module _ (n : ℕ) (e before after : List ℕ) (r : Entropy) (i : IsEntropy n e) (l : 32 ≤ length before) (d : Reversed (numbers_of e) r before after) where
  gives : reverse_bytes (numbers_of e) (length before) ≡ e
  gives = reverse-generate n e i.least i.most i.long i.bytes (length before) l

  written-there : (r.refusal ≡ 0) × ((r.count ≡ 4 * n) × (after ≡ e ++ drop (4 * n) before))
  written-there = (
    ap (λ (x : Entropy). x.refusal) d.told ∙ reverse-accepts n e i.least i.most i.long i.bytes (length before) l,
    (
      ap (λ (x : Entropy). x.count) d.told ∙ ap length gives ∙ i.long,
      d.left ∙ ap (λ (x : List ℕ). written x before) gives ∙ ap (λ (k : ℕ). e ++ drop k before) i.long,
    ),
  )

pub phrases : Phrases
phrases = record {
  back = λ n e room i l. (
    reverse-accepts n e i.least i.most i.long i.bytes room l,
    reverse-generate n e i.least i.most i.long i.bytes room l,
  );
  written = written-there;
  again = λ words room b e. (gives-entropy words room b e, generate-reverse words room b e);
  numbers = are-numbers;
}
