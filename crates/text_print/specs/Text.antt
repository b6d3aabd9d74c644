-- What is written of bytes and of lengths, in ASCII.
use Rattle.std.specs.Prelude.{ℕ, ◌/◌, ◌%◌, true, cond, List, [], ◌∷◌, ◌++◌, eqb, length, codes}
use Rattle.std.specs.List.{flat_map}
use Rattle.std.specs.Fmt.{decimal, digit_glyph}

-- each byte as two hexadecimal digits, the higher first, in capitals
abbrev pub hex : List ℕ → List ℕ
hex s = flat_map (λ b. digit_glyph true (b / 16) ∷ digit_glyph true (b % 16) ∷ []) s

-- a length, with its unit
abbrev pub length_text : ℕ → List ℕ
length_text n = decimal n ++ cond (eqb n 1) (codes " byte") (codes " bytes")

-- bytes with their number before them; where there are none, the number alone
abbrev pub bytes_text : List ℕ → List ℕ
bytes_text s = length_text (length s) ++ cond (eqb (length s) 0) [] (codes ": " ++ hex s)
