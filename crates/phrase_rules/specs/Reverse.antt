-- The reverse of `numbers_of` (RULES 7.12): from the bytes of word numbers, `words`, back to the entropy.
use Rattle.std.specs.Prelude.{◌≡◌, Bool, true, cond, ◌&&◌, List, [], ◌∷◌, ℕ, ◌+◌, ◌*◌, ◌/◌, ◌%◌, ◌≤◌, eqb, leb, length, drop}
use Rattle.octets.specs.Bytes.{same_bytes}
use Rattle.refusals.specs.Refusals.{no_refusal, no_room, wrong_count, number_too_large, wrong_checksum, entropy_room}
use Rattle.phrase_rules.specs.Bits.{bits, cut}
use Rattle.phrase_rules.specs.Numbers.{checksum}

-- the numbers, each from 2 bytes, the high byte first
unfoldable pub from_two_bytes : List ℕ → List ℕ
from_two_bytes [] = []
from_two_bytes (x ∷ []) = []
from_two_bytes (x ∷ y ∷ s) = (x * 256 + y) ∷ from_two_bytes s

-- the checksum's size in bits: one for each 3 numbers, which have 6 bytes
abbrev pub checksum_size_in : List ℕ → ℕ
checksum_size_in words = length words / 6

-- the bits of the numbers: 32 bits of entropy for each bit of the checksum, and after them the checksum
unfoldable pub word_bits : List ℕ → List ℕ
word_bits words = bits 11 (from_two_bytes words)

unfoldable pub entropy_in : List ℕ → List ℕ
entropy_in words = cut 8 (4 * checksum_size_in words) (word_bits words)

unfoldable pub checksum_in : List ℕ → List ℕ
checksum_in words = drop (32 * checksum_size_in words) (word_bits words)

-- ---- what is refused
-- 12, 15, 18, 21 or 24 numbers of 2 bytes: 6 bytes for each bit of a checksum of 4 to 8 bits
abbrev pub is_word_count : List ℕ → Bool
is_word_count words = eqb (length words % 6) 0 && (leb 4 (checksum_size_in words) && leb (checksum_size_in words) 8)

-- the same as facts, for a checksum of n bits
pub record Counted (n : ℕ) (words : List ℕ) : Type 0 where
  pub least : 4 ≤ n
  pub most : n ≤ 8
  pub long : length words ≡ 6 * n

-- no number is over 2047
unfoldable pub in_eleven_bits : List ℕ → Bool
in_eleven_bits [] = true
in_eleven_bits (x ∷ s) = leb x 2047 && in_eleven_bits s

-- the bits after the entropy are its checksum
unfoldable pub is_checked : List ℕ → Bool
is_checked words = same_bytes (checksum_in words) (checksum (entropy_in words))

-- a check, the refusal's number where it fails, and what is said where it holds
abbrev pub must : Bool → ℕ → ℕ → ℕ
must holds otherwise next = cond holds next otherwise

-- the refusal's number or 0 for words of a right count; and for any words and a buffer of `room` bytes
abbrev pub words_refusal : List ℕ → ℕ
words_refusal words =
    must (in_eleven_bits (from_two_bytes words)) number_too_large
    (must (is_checked words) wrong_checksum no_refusal)

unfoldable pub reverse_refusal : List ℕ → ℕ → ℕ
reverse_refusal words room =
    must (leb entropy_room room) no_room
    (must (is_word_count words) wrong_count
    (words_refusal words))

-- the bytes written into the buffer
unfoldable pub reverse_bytes : List ℕ → ℕ → List ℕ
reverse_bytes words room = cond (eqb (reverse_refusal words room) no_refusal) (entropy_in words) []
