-- The word numbers of a recovery phrase (RULES 7.12): the card's numbers and the terminal's ENTROPY undo each other, and the numbers are those of
-- BIP 39. Every length and room is in bytes; n is a checksum's size in bits.
use Rattle.std.specs.Prelude.{ℕ, ◌+◌, ◌-◌, ◌*◌, ◌/◌, ◌^◌, ◌≤◌, ◌<◌, ◌≡◌, List, [], ◌∷◌, ◌++◌, ◌⊎◌, length, drop, get_or}
use Rattle.octets.specs.Bytes.{Bytes}
use Rattle.sha_rules.specs.Hash.{sha256}
use Rattle.phrase_rules.specs.Numbers.{word_numbers, numbers_of}
use Rattle.phrase_rules.specs.Reverse.{reverse_refusal, reverse_bytes}
use Rattle.phrase_reverse.specs.declared.Entropy.{Entropy}
use Rattle.phrase_reverse.specs.Reversed.{Reversed}

-- ---- entropy that a phrase can have: 16, 20, 24, 28 or 32 bytes, 4 for each bit of the checksum
pub record IsEntropy (n : ℕ) (e : List ℕ) : Type 0 where
  pub least : 4 ≤ n
  pub most : n ≤ 8
  pub long : length e ≡ 4 * n
  pub bytes : Bytes e

-- ---- the bytes of words
-- 12, 15, 18, 21 or 24 numbers of 2 bytes
abbrev pub IsCount : List ℕ → Type 0
IsCount words =
    (length words ≡ 24) ⊎ ((length words ≡ 30) ⊎ ((length words ≡ 36) ⊎ ((length words ≡ 42) ⊎ (length words ≡ 48))))

-- number k of them, counted from 0, the high byte first
abbrev pub number_at : List ℕ → ℕ → ℕ
number_at words k = get_or words (2 * k) 0 * 256 + get_or words (2 * k + 1) 0

-- one of them is over 2047
abbrev pub TooLarge : List ℕ → Type 0
TooLarge words = (k : ℕ) × ((2 * k + 1 < length words) × (2047 < number_at words k))

-- they are the numbers of an entropy
abbrev pub IsPhrase : List ℕ → Type 0
IsPhrase words = (n : ℕ) × ((e : List ℕ) × (IsEntropy n e × (words ≡ numbers_of e)))

-- ---- the number whose digits in base b these are, the highest first; x is what the digits before them are
unfoldable pub value_on : ℕ → ℕ → List ℕ → ℕ
value_on b x [] = x
value_on b x (y ∷ s) = value_on b (b * x + y) s

abbrev pub value : ℕ → List ℕ → ℕ
value b s = value_on b 0 s

-- ---- BIP 39 a second time, without lists of bits: 3 * n numbers up to 2047, which are the digits in base 2048 of one number. That is the entropy as
-- one number, with n bits more at its low end: the n high bits of the first byte of its SHA-256. In the answer each number has 2 bytes
pub record Numbers (n : ℕ) (e : List ℕ) : Type 0 where
  pub count : length (word_numbers e) ≡ 3 * n
  pub small : (k : ℕ) → get_or (word_numbers e) k 0 ≤ 2047
  pub same : value 2048 (word_numbers e) ≡ value 256 e * 2 ^ n + get_or (sha256 e) 0 0 / 2 ^ (8 - n)
  pub answer : length (numbers_of e) ≡ 6 * n
  pub each : (k : ℕ) → k < 3 * n → number_at (numbers_of e) k ≡ get_or (word_numbers e) k 0

pub record Phrases : Type 0 where
  -- for every entropy ENTROPY takes its numbers and gives it back
  pub back : (n : ℕ) (e : List ℕ) (room : ℕ) → IsEntropy n e → 32 ≤ room
      → (reverse_refusal (numbers_of e) room ≡ 0) × (reverse_bytes (numbers_of e) room ≡ e)
  -- by the contract of the code: the count is that of its bytes, and they stand at the buffer's start; the bytes past them are as before
  pub written : (n : ℕ) (e before after : List ℕ) (r : Entropy) → IsEntropy n e → 32 ≤ length before → Reversed (numbers_of e) r before after
      → (r.refusal ≡ 0) × ((r.count ≡ 4 * n) × (after ≡ e ++ drop (4 * n) before))
  -- and for all words that ENTROPY takes, what it gives is an entropy whose numbers they are
  pub again : (words : List ℕ) (room : ℕ) → Bytes words → reverse_refusal words room ≡ 0
      → IsEntropy (length words / 6) (reverse_bytes words room) × (numbers_of (reverse_bytes words room) ≡ words)
  -- the numbers
  pub numbers : (n : ℕ) (e : List ℕ) → IsEntropy n e → Numbers n e
