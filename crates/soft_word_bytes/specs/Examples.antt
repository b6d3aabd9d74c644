-- Words and what they mean: the rows of the table in docs/SOFTCARD.md, "Bytes", and words that are refused. Each is computed.
-- Assumes nothing.
use Rattle.std.specs.Prelude.{◌≡◌, refl, List, [], ◌∷◌, ℕ}
use Rattle.text_decimal.specs.Decimal.{is_digit}
use Rattle.text_hex.specs.Hex.{digit_of}
use Rattle.soft_word_bytes.specs.Meaning.{Meant, taken, form, many, within, pairs, counted, piece_of, onward, meaning}

-- the latest bytes are 7 and 9, and there is room for 4 bytes
abbrev typed : List ℕ → Meant
typed w = meaning (7 ∷ 9 ∷ []) w 4

pub record Examples : Type 0 where
  -- 00a4
  pub digits : typed (48 ∷ 48 ∷ 97 ∷ 52 ∷ []) ≡ taken (0x00 ∷ 0xA4 ∷ [])
  -- 11*3
  pub repeated : typed (49 ∷ 49 ∷ 42 ∷ 51 ∷ []) ≡ taken (0x11 ∷ 0x11 ∷ 0x11 ∷ [])
  -- FE+3
  pub rising : typed (70 ∷ 69 ∷ 43 ∷ 51 ∷ []) ≡ taken (0xFE ∷ 0xFF ∷ 0x00 ∷ [])
  -- last
  pub latest : typed (108 ∷ 97 ∷ 115 ∷ 116 ∷ []) ≡ taken (7 ∷ 9 ∷ [])
  -- 01.11*2
  pub joins : typed (48 ∷ 49 ∷ 46 ∷ 49 ∷ 49 ∷ 42 ∷ 50 ∷ []) ≡ taken (0x01 ∷ 0x11 ∷ 0x11 ∷ [])
  -- -
  pub none : typed (45 ∷ []) ≡ taken []
  -- 00A
  pub half : typed (48 ∷ 48 ∷ 65 ∷ []) ≡ form
  -- 00*
  pub uncounted : typed (48 ∷ 48 ∷ 42 ∷ []) ≡ form
  -- 01.
  pub nothing : typed (48 ∷ 49 ∷ 46 ∷ []) ≡ form
  -- 00*5
  pub over : typed (48 ∷ 48 ∷ 42 ∷ 53 ∷ []) ≡ many
  -- last.last.00
  pub together : typed (108 ∷ 97 ∷ 115 ∷ 116 ∷ 46 ∷ 108 ∷ 97 ∷ 115 ∷ 116 ∷ 46 ∷ 48 ∷ 48 ∷ []) ≡ many
  -- 00*5.G
  pub first : typed (48 ∷ 48 ∷ 42 ∷ 53 ∷ 46 ∷ 71 ∷ []) ≡ many

pub examples : Examples
unfolding meaning onward within piece_of pairs counted digit_of is_digit
examples = record { digits = refl; repeated = refl; rising = refl; latest = refl; joins = refl; none = refl; half = refl; uncounted = refl; nothing = refl; over = refl; together = refl; first = refl }
