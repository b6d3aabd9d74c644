-- The word before each fourth word, as that word takes it: turned, through the S-box and with the round constant, or through the S-box alone.
-- Assumes nothing.
use mathlib.Core.Path.{◌≡◌, refl, ap₂, ◌∙◌}
use mathlib.Core.List.{[], ◌∷◌}
use Prim.Native.Nat.{ℕ, ◌-◌, ◌*◌, ◌/◌, ◌%◌, ◌^◌, ◌<◌}
use native.Mathlib.Omega.{arith}
use borrow.Author.Tests.{eq-eqb, ne_eqb}
use lib.Bits.{bit_xor}
use Rattle.octets.specs.Bytes.{xor_bytes}
use Rattle.octets.proofs.Table.{agree-below}
use Rattle.octets.proofs.Lists.{◌&◌}
use Rattle.aes_field.specs.Field.{x_times}
use Rattle.aes_rules.specs.Schedule.{rot_word, sub_word, x_power, rcon, changed}
use Rattle.aes_words.specs.Words.{word_bytes}
use Rattle.aes_words.proofs.Words.{xor-word-bytes}
use Rattle.aes_word_columns.specs.Columns.{sub0, sub1, sub2, sub3}

-- a shifted 1 is the power of x that Rcon holds, computed for each round constant that AES-256 uses
abbrev shifted : ℕ → ℕ
shifted j = 1 * 2 ^ (j - 1) % 4294967296

pub rcon-word : (j : ℕ) → j < 8 → word_bytes (shifted j) ≡ rcon j
unfolding rcon x_times
rcon-word j h =
    agree-below (λ j. shifted j % 256) (λ j. x_power (j - 1)) 8 tt j h
    & agree-below (λ j. shifted j / 256 % 256) (λ j. 0) 8 tt j h
    & agree-below (λ j. shifted j / 65536 % 256) (λ j. 0) 8 tt j h
    & agree-below (λ j. shifted j / 16777216 % 256) (λ j. 0) 8 tt j h
    & refl

pub changed-eighth : (n x y r : ℕ) → n % 8 ≡ 0 → word_bytes y ≡ sub1 x ∷ sub2 x ∷ sub3 x ∷ sub0 x ∷ [] → word_bytes r ≡ rcon (n / 8)
    → word_bytes (bit_xor y r) ≡ changed n (word_bytes x)
unfolding sub_word rot_word
changed-eighth n x y r h ey er = xor-word-bytes y r ∙ ap₂ xor_bytes ey er ∙ rw (eq-eqb (n % 8) 0 h) refl

pub changed-fourth : (n x y : ℕ) → n % 4 ≡ 0 → (n % 8 ≡ 0 → ⊥) → word_bytes y ≡ sub0 x ∷ sub1 x ∷ sub2 x ∷ sub3 x ∷ []
    → word_bytes y ≡ changed n (word_bytes x)
unfolding sub_word
changed-fourth n x y f h ey = ey ∙ rw (ne_eqb (n % 8) 0 h, eq-eqb (n % 8) 4 fourth) refl
  where
    fourth : n % 8 ≡ 4
    fourth = omega arith
