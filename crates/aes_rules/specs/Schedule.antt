-- FIPS 197, section 5.2: KEYEXPANSION for a key of 32 bytes, 8 words of 4 bytes (RULES 7.1). The schedule grows by a word at a time, from the
-- key's 8 words to 60; it is a list of bytes, so word i begins at byte 4 * i.
use Rattle.std.specs.Prelude.{ℕ, zero, suc, ◌-◌, ◌/◌, ◌%◌, Bool, true, false, List, [], ◌∷◌, ◌++◌, map, eqb, length, take, drop}
use Rattle.octets.specs.Bytes.{xor_bytes}
use Rattle.aes_field.specs.Field.{x_times, sub_byte}

unfoldable pub rot_word : List ℕ → List ℕ
rot_word t = drop 1 t ++ take 1 t

unfoldable pub sub_word : List ℕ → List ℕ
sub_word t = map sub_byte t

-- table 5: the first byte of Rcon[j] is x^(j-1); its other three are zero
abbrev pub x_power : ℕ → ℕ
x_power zero = 1
x_power (suc n) = x_times (x_power n)

unfoldable pub rcon : ℕ → List ℕ
rcon j = x_power (j - 1) ∷ 0 ∷ 0 ∷ 0 ∷ []

-- algorithm 2: the word `temp` before word i, as word i takes it
abbrev pub choose : Bool → List ℕ → List ℕ → List ℕ
choose true x y = x
choose false x y = y

abbrev pub changed : ℕ → List ℕ → List ℕ
changed i temp =
    choose (eqb (i % 8) 0) (xor_bytes (sub_word (rot_word temp)) (rcon (i / 8))) (choose (eqb (i % 8) 4) (sub_word temp) temp)

-- the word that begins at byte m of a schedule, and the word after a schedule: word i - 8 with the changed word i - 1 added
abbrev pub word_at : List ℕ → ℕ → List ℕ
word_at w m = take 4 (drop m w)

unfoldable pub next_word : List ℕ → List ℕ
next_word w = xor_bytes (word_at w (length w - 32)) (changed (length w / 4) (word_at w (length w - 4)))

abbrev pub expand : ℕ → List ℕ → List ℕ
expand zero key = key
expand (suc n) key = expand n key ++ next_word (expand n key)

unfoldable pub key_expansion : List ℕ → List ℕ
key_expansion key = expand 52 key
