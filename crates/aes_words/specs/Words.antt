-- Four bytes as a word of 32 bits, the first byte the lowest, and words as their bytes. A column of a state is a word, and so is a word of a key
-- schedule: the bytes are in the order of FIPS 197, section 3.4.
use Rattle.std.specs.Prelude.{ℕ, ◌+◌, ◌*◌, ◌/◌, ◌%◌, List, [], ◌∷◌, ◌++◌}

-- the word of four bytes
unfoldable pub word : ℕ → ℕ → ℕ → ℕ → ℕ
word a b c d = a + 256 * (b + 256 * (c + 256 * d))

-- the four bytes of a word, and the bytes of each word of a list
abbrev pub word_bytes : ℕ → List ℕ
word_bytes x = x % 256 ∷ x / 256 % 256 ∷ x / 65536 % 256 ∷ x / 16777216 % 256 ∷ []

abbrev pub bytes_of : List ℕ → List ℕ
bytes_of [] = []
bytes_of (x ∷ s) = word_bytes x ++ bytes_of s
