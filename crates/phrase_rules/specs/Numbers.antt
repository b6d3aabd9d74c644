-- BIP 39, "Generating the mnemonic": the word numbers of an entropy of 16, 20, 24, 28 or 32 bytes (RULES 7.12).
use Rattle.std.specs.Prelude.{List, [], ◌∷◌, ◌++◌, ℕ, ◌*◌, ◌/◌, ◌%◌, length, take}
use Rattle.sha_rules.specs.Hash.{sha256}
use Rattle.phrase_rules.specs.Bits.{bits, cut}

-- the checksum's size in bits: a 32nd of the entropy's size in bits (the standard's CS = ENT / 32)
abbrev pub checksum_size : List ℕ → ℕ
checksum_size entropy = length entropy * 8 / 32

-- the checksum: the first bits of the entropy's SHA-256
unfoldable pub checksum : List ℕ → List ℕ
checksum entropy = take (checksum_size entropy) (bits 8 (sha256 entropy))

-- the entropy's bits, the checksum joined to them, cut into numbers of 11 bits: 3 for each bit of the checksum
unfoldable pub word_numbers : List ℕ → List ℕ
word_numbers entropy = cut 11 (3 * checksum_size entropy) (bits 8 entropy ++ checksum entropy)

-- each number in 2 bytes, the high byte first
unfoldable pub in_two_bytes : List ℕ → List ℕ
in_two_bytes [] = []
in_two_bytes (x ∷ s) = x / 256 ∷ x % 256 ∷ in_two_bytes s

unfoldable pub numbers_of : List ℕ → List ℕ
numbers_of entropy = in_two_bytes (word_numbers entropy)
