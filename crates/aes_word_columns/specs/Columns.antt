-- The bytes of one column after a round's steps, from the bytes that ShiftRows brings into it (FIPS 197, 5.1; RULES 7.1).
use Rattle.std.specs.Prelude.{ℕ, ◌/◌, ◌%◌, List, [], ◌∷◌}
use Rattle.aes_field.specs.Field.{sub_byte}
use Rattle.aes_rules.specs.Cipher.{mix_row}

-- MixColumns of the column p, q, u, v
abbrev pub mixed_column : ℕ → ℕ → ℕ → ℕ → List ℕ
mixed_column p q u v = mix_row p q u v ∷ mix_row q u v p ∷ mix_row u v p q ∷ mix_row v p q u ∷ []

-- SBOX of a's byte in row 0, of b's in row 1, of c's in row 2 and of d's in row 3
abbrev pub sub0 : ℕ → ℕ
sub0 a = sub_byte (a % 256)

abbrev pub sub1 : ℕ → ℕ
sub1 b = sub_byte (b / 256 % 256)

abbrev pub sub2 : ℕ → ℕ
sub2 c = sub_byte (c / 65536 % 256)

abbrev pub sub3 : ℕ → ℕ
sub3 d = sub_byte (d / 16777216 % 256)
