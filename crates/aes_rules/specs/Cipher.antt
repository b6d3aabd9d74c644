-- FIPS 197, section 5.1: CIPHER, with 14 rounds (RULES 7.1). A state is a list of 16 bytes in the order of the input (section 3.4); a key
-- schedule is a list of 240 bytes, round key after round key.
use Rattle.std.specs.Prelude.{ℕ, zero, suc, ◌+◌, ◌*◌, ◌/◌, ◌%◌, List, map, get_or, take, drop}
use Rattle.octets.specs.Bytes.{tabulate, xor_bytes}
use Rattle.aes_field.specs.Field.{◌⊕◌, ◌•◌, sub_byte}

-- 3.4: the byte in row r and column c of a state, and the state that has the byte f r c there
abbrev pub at : List ℕ → ℕ → ℕ → ℕ
at s r c = get_or s (r + 4 * c) 0

abbrev pub state : (ℕ → ℕ → ℕ) → List ℕ
state f = tabulate 16 (λ i. f (i % 4) (i / 4))

-- 5.1.1
unfoldable pub sub_bytes : List ℕ → List ℕ
sub_bytes s = map sub_byte s

-- 5.1.2: row r is shifted to the left by r columns
unfoldable pub shift_rows : List ℕ → List ℕ
shift_rows s = state (λ r c. at s r ((c + r) % 4))

-- 4.3: each column multiplied by a matrix whose row r is its first row turned to the right r times; m is the product of the first row
-- with a column
abbrev pub columns : (ℕ → ℕ → ℕ → ℕ → ℕ) → List ℕ → List ℕ
columns m s = state (λ r c. m (at s r c) (at s ((r + 1) % 4) c) (at s ((r + 2) % 4) c) (at s ((r + 3) % 4) c))

-- 5.1.3: the matrix of MixColumns has the first row 02 03 01 01
unfoldable pub mix_row : ℕ → ℕ → ℕ → ℕ → ℕ
mix_row a b c d = 0x02 • a ⊕ 0x03 • b ⊕ c ⊕ d

unfoldable pub mix_columns : List ℕ → List ℕ
mix_columns s = columns mix_row s

-- 5.1.4
unfoldable pub add_round_key : List ℕ → List ℕ → List ℕ
add_round_key s k = xor_bytes s k

-- the 16 bytes of a schedule that round r uses
abbrev pub round_key : List ℕ → ℕ → List ℕ
round_key w r = take 16 (drop (r * 16) w)

-- 5.1, algorithm 1: a round, the rounds 1 to r, and the whole, whose last round has no MixColumns
unfoldable pub round : List ℕ → ℕ → List ℕ → List ℕ
round w r s = add_round_key (mix_columns (shift_rows (sub_bytes s))) (round_key w r)

abbrev pub rounds : List ℕ → ℕ → List ℕ → List ℕ
rounds w zero s = s
rounds w (suc r) s = round w (suc r) (rounds w r s)

unfoldable pub cipher : List ℕ → List ℕ → List ℕ
cipher w s = add_round_key (shift_rows (sub_bytes (rounds w 13 (add_round_key s (round_key w 0))))) (round_key w 14)
