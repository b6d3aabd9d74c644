-- A byte's products by 9, 11, 13 and 14 as sums of the byte and of what three doublings give (FIPS 197, 4.2; RULES 7.1).
use Rattle.std.specs.Prelude.{◌≡◌, ℕ}
use Rattle.aes_field.specs.Field.{◌⊕◌, x_times, ◌•◌}

-- twice, four times and eight times b
abbrev pub twice : ℕ → ℕ
twice b = x_times b

abbrev pub four_times : ℕ → ℕ
four_times b = x_times (twice b)

abbrev pub eight_times : ℕ → ℕ
eight_times b = x_times (four_times b)

pub record ByDoublings (b : ℕ) : Type 0 where
  pub nine : 0x09 • b ≡ b ⊕ eight_times b
  pub eleven : 0x0b • b ≡ b ⊕ twice b ⊕ eight_times b
  pub thirteen : 0x0d • b ≡ b ⊕ four_times b ⊕ eight_times b
  pub fourteen : 0x0e • b ≡ twice b ⊕ four_times b ⊕ eight_times b
