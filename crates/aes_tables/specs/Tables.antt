-- The four tables of the engine from tables. MixColumns multiplies a column by a matrix (FIPS 197, 5.1.3); entry b of table r is the matrix's column r
-- times SBOX(b), as a word: what SBOX(b) in row r adds to each byte of the column. Table 0 has 02 01 01 03, and each further table the bytes of the one before turned by a place, the last byte to the front.
use Rattle.std.specs.Prelude.{◌≡◌, ℕ, List}
use Rattle.octets.specs.Bytes.{tabulate}
use Rattle.aes_field.specs.Field.{◌•◌, sub_byte}
use Rattle.aes_words.specs.Words.{word}

-- what x in row 0, 1, 2 or 3 adds to the column
abbrev pub from_row0 : ℕ → ℕ
from_row0 x = word (0x02 • x) x x (0x03 • x)

abbrev pub from_row1 : ℕ → ℕ
from_row1 x = word (0x03 • x) (0x02 • x) x x

abbrev pub from_row2 : ℕ → ℕ
from_row2 x = word x (0x03 • x) (0x02 • x) x

abbrev pub from_row3 : ℕ → ℕ
from_row3 x = word x x (0x03 • x) (0x02 • x)

-- the 256 words of a table
abbrev pub table_of : (ℕ → ℕ) → List ℕ
table_of column = tabulate 256 (λ b. column (sub_byte b))

unfoldable pub table0 : List ℕ
table0 = table_of from_row0

unfoldable pub table1 : List ℕ
table1 = table_of from_row1

unfoldable pub table2 : List ℕ
table2 = table_of from_row2

unfoldable pub table3 : List ℕ
table3 = table_of from_row3

-- four lists that are the four tables
pub record FourTables (s₀ s₁ s₂ s₃ : List ℕ) : Type 0 where
  pub row0 : s₀ ≡ table0
  pub row1 : s₁ ≡ table1
  pub row2 : s₂ ≡ table2
  pub row3 : s₃ ≡ table3
