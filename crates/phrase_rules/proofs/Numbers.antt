-- Facts about the word numbers of an entropy of 4 * n bytes, n being the checksum's size in bits: 3 * n numbers of 11 bits in 6 * n bytes, whose bits
-- are the entropy's and the checksum's again.
-- Assumes nothing.
use mathlib.Core.Path.{◌≡◌, refl, ◌∙◌}
use mathlib.Core.List.{List, [], ◌∷◌, ◌++◌}
use Prim.Native.Nat.{ℕ, ◌+◌, ◌*◌, ◌/◌, ◌%◌, ◌^◌, ◌≤◌, ◌<◌}
use native.Mathlib.Omega.{arith}
use lib.ListN.{length, take, get_or, length-append}
use lib.Seq.{length-take-le, take-append-le}
use Rattle.octets.specs.Bytes.{Bytes}
use Rattle.octets.proofs.Lists.{◌&◌}
use Rattle.sha_rules.specs.Hash.{sha256}
use Rattle.sha_rules.proofs.Blocks.{length-sha256}
use Rattle.phrase_rules.specs.Bits.{bits_of, bits}
use Rattle.phrase_rules.specs.Numbers.{checksum_size, checksum, word_numbers, in_two_bytes, numbers_of}
use Rattle.phrase_rules.specs.Reverse.{from_two_bytes}
use Rattle.phrase_rules.proofs.Bits.{Below, below-append, below-take, below-bits, length-bits_of, length-bits, length_cut, below-cut, bits-cut-all}

-- ---- numbers in two bytes
pub length-in_two_bytes : (s : List ℕ) → length (in_two_bytes s) ≡ 2 * length s
unfolding in_two_bytes
length-in_two_bytes [] = refl
length-in_two_bytes (x ∷ s) = omega (arith, length-in_two_bytes s)

pub bytes-in_two_bytes : (s : List ℕ) → Below (2 ^ 11) s → Bytes (in_two_bytes s)
unfolding in_two_bytes
bytes-in_two_bytes [] h = tt
bytes-in_two_bytes (x ∷ s) h = let l : x < 2 ^ 11 = h.0 in (omega arith, (omega arith, bytes-in_two_bytes s h.1))

pub in_two_bytes-append : (s t : List ℕ) → in_two_bytes (s ++ t) ≡ in_two_bytes s ++ in_two_bytes t
unfolding in_two_bytes
in_two_bytes-append [] t = refl
in_two_bytes-append (x ∷ s) t = refl & refl & in_two_bytes-append s t

-- numbers are read from their bytes again
pub from-in-two-bytes : (s : List ℕ) → from_two_bytes (in_two_bytes s) ≡ s
unfolding in_two_bytes from_two_bytes
from-in-two-bytes [] = refl
from-in-two-bytes (x ∷ s) = omega arith & from-in-two-bytes s

-- and an even number of bytes is that of the numbers read from them
pub in-from-two-bytes : (s : List ℕ) → length s % 2 ≡ 0 → Bytes s → in_two_bytes (from_two_bytes s) ≡ s
unfolding in_two_bytes from_two_bytes
in-from-two-bytes [] l h = refl
in-from-two-bytes (x ∷ []) l h = absurd (omega (arith, l))
in-from-two-bytes (x ∷ y ∷ s) l h = let b : y < 256 = h.1.0 in omega arith & omega arith & in-from-two-bytes s (omega (arith, l)) h.1.1

pub length-from_two_bytes : (s : List ℕ) → length (from_two_bytes s) ≡ length s / 2
unfolding from_two_bytes
length-from_two_bytes [] = refl
length-from_two_bytes (x ∷ []) = refl
length-from_two_bytes (x ∷ y ∷ s) = omega (arith, length-from_two_bytes s)

-- ---- the checksum and the numbers, for an entropy of 4 * n bytes
pub below-checksum : (e : List ℕ) → Below 2 (checksum e)
unfolding checksum
below-checksum e = below-take 2 (checksum_size e) (bits 8 (sha256 e)) (below-bits 8 (sha256 e))

pub below-joined : (e : List ℕ) → Below 2 (bits 8 e ++ checksum e)
below-joined e = below-append 2 (bits 8 e) (checksum e) (below-bits 8 e) (below-checksum e)

-- the checksum is in the first byte of the hash
pub checksum-in-byte : (e : List ℕ) → checksum_size e ≤ 8 → checksum e ≡ take (checksum_size e) (bits_of 8 (get_or (sha256 e) 0 0))
unfolding checksum bits
checksum-in-byte e m = from (sha256 e) (length-sha256 e)
  where
    from : (h : List ℕ) → length h ≡ 32 → take (checksum_size e) (bits 8 h) ≡ take (checksum_size e) (bits_of 8 (get_or h 0 0))
    from [] l = absurd (omega (arith, l))
    from (x ∷ h) l = take-append-le (checksum_size e) (bits_of 8 x) (bits 8 h) (omega (arith, length-bits_of 8 x))

module _ (n : ℕ) (e : List ℕ) (l : length e ≡ 4 * n) (m : n ≤ 8) where
  pub length-checksum : length (checksum e) ≡ n
  unfolding checksum
  length-checksum =
      length-take-le (checksum_size e) (bits 8 (sha256 e)) (omega (arith, length-bits 8 (sha256 e), length-sha256 e)) ∙ omega arith

  -- in bits: 32 * n of entropy and n of checksum are 33 * n
  pub length-joined : length (bits 8 e ++ checksum e) ≡ 3 * checksum_size e * 11
  length-joined = omega (arith, length-append (bits 8 e) (checksum e), length-bits 8 e, length-checksum)

  pub length-word_numbers : length (word_numbers e) ≡ 3 * n
  unfolding word_numbers
  length-word_numbers = length_cut 11 (3 * checksum_size e) (bits 8 e ++ checksum e) ∙ omega arith

  pub below-word_numbers : Below (2 ^ 11) (word_numbers e)
  unfolding word_numbers
  below-word_numbers =
      below-cut 11 (3 * checksum_size e) (bits 8 e ++ checksum e) (omega (arith, length-joined)) (below-joined e)

  pub bits-word_numbers : bits 11 (word_numbers e) ≡ bits 8 e ++ checksum e
  unfolding word_numbers
  bits-word_numbers = bits-cut-all 11 (3 * checksum_size e) (bits 8 e ++ checksum e) length-joined (below-joined e)

  -- the answer: 6 * n bytes
  pub length-numbers_of : length (numbers_of e) ≡ 6 * n
  unfolding numbers_of
  length-numbers_of = omega (arith, length-in_two_bytes (word_numbers e), length-word_numbers)

  pub bytes-numbers_of : Bytes (numbers_of e)
  unfolding numbers_of
  bytes-numbers_of = bytes-in_two_bytes (word_numbers e) below-word_numbers
