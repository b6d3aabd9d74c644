-- FIPS 197, section 5.3: INVCIPHER, with 14 rounds (RULES 7.1), over the same states and schedules as CIPHER.
use Rattle.std.specs.Prelude.{ℕ, zero, suc, ◌+◌, ◌-◌, ◌%◌, List, map}
use Rattle.aes_field.specs.Field.{◌⊕◌, ◌•◌, inv_sub_byte}
use Rattle.aes_rules.specs.Cipher.{at, state, columns, add_round_key, round_key}

-- 5.3.1: row r is shifted to the right by r columns
unfoldable pub inv_shift_rows : List ℕ → List ℕ
inv_shift_rows s = state (λ r c. at s r ((c + 4 - r) % 4))

-- 5.3.2
unfoldable pub inv_sub_bytes : List ℕ → List ℕ
inv_sub_bytes s = map inv_sub_byte s

-- 5.3.3: the inverse of MixColumns' matrix has the first row 0e 0b 0d 09
unfoldable pub inv_mix_row : ℕ → ℕ → ℕ → ℕ → ℕ
inv_mix_row a b c d = 0x0e • a ⊕ 0x0b • b ⊕ 0x0d • c ⊕ 0x09 • d

unfoldable pub inv_mix_columns : List ℕ → List ℕ
inv_mix_columns s = columns inv_mix_row s

-- 5.3, algorithm 3: a round, the rounds r down to 1, and the whole, whose last round has no InvMixColumns
unfoldable pub inv_round : List ℕ → ℕ → List ℕ → List ℕ
inv_round w r s = inv_mix_columns (add_round_key (inv_sub_bytes (inv_shift_rows s)) (round_key w r))

abbrev pub inv_rounds : List ℕ → ℕ → List ℕ → List ℕ
inv_rounds w zero s = s
inv_rounds w (suc r) s = inv_rounds w r (inv_round w (suc r) s)

unfoldable pub inv_cipher : List ℕ → List ℕ → List ℕ
inv_cipher w s = add_round_key (inv_sub_bytes (inv_shift_rows (inv_rounds w 13 (add_round_key s (round_key w 14))))) (round_key w 0)
