-- Each step of a round takes a block to a block, and is undone by its inverse. Facts about a column hold in all rows because the matrix's
-- rows are one row, turned.
-- Assumes nothing.
use mathlib.Core.Path.{◌≡◌, refl, sym, ap, ap₂, ◌∙◌}
use mathlib.Core.List.{List, [], ◌∷◌, map}
use Prim.Native.Nat.{ℕ, ◌+◌, ◌-◌, ◌*◌, ◌/◌, ◌%◌, ◌<◌}
use native.Mathlib.Omega.{arith}
use lib.ListN.{get_or, length-map}
use Rattle.octets.specs.Bytes.{Bytes, Block}
use Rattle.octets.proofs.Lists.{◌&◌, get_d_tabulate, tabulate-ext, tabulated, bytes-at, bytes-tabulate, bytes-map, xor_block, xor-bytes-undo}
use Rattle.aes_field.specs.Field.{sub_byte, inv_sub_byte}
use Rattle.aes_field.proofs.Sbox.{sub-byte-byte, inv-sub-byte-byte, inv-sub-byte-sub-byte, sub-byte-inv-sub-byte}
use Rattle.aes_rules.specs.Cipher.{at, state, sub_bytes, shift_rows, columns, mix_row, mix_columns, add_round_key}
use Rattle.aes_rules.specs.InvCipher.{inv_shift_rows, inv_sub_bytes, inv_mix_row, inv_mix_columns}
use Rattle.aes_rules.proofs.Columns.{mix-row-byte, inv-mix-row-byte, inv-mix-mix, mix-inv-mix}

-- ---- states
state-block : (f : ℕ → ℕ → ℕ) → ((r c : ℕ) → f r c < 256) → Block (state f)
state-block f h = record { long = refl; bytes = bytes-tabulate 16 (λ i. f (i % 4) (i / 4)) (λ i. h (i % 4) (i / 4)) }

at-state : (f : ℕ → ℕ → ℕ) (r c : ℕ) → r < 4 → c < 4 → at (state f) r c ≡ f r c
at-state f r c p q =
    get_d_tabulate 16 (λ i. f (i % 4) (i / 4)) (r + 4 * c) (omega arith)
    ∙ ap₂ f {x = (r + 4 * c) % 4} {y = r} {u = (r + 4 * c) / 4} {v = c} (omega arith) (omega arith)

-- a state is known by its rows and columns
state-is : (f : ℕ → ℕ → ℕ) (s : List ℕ) → Block s → ((r c : ℕ) → r < 4 → c < 4 → f r c ≡ at s r c) → state f ≡ s
state-is f s h e =
    tabulate-ext 16 (λ i. f (i % 4) (i / 4)) (λ i. get_or s i 0)
    (λ i l. e (i % 4) (i / 4) (omega arith) (omega arith) ∙ ap (λ (k : ℕ). get_or s k 0) {x = i % 4 + 4 * (i / 4)} {y = i} (omega arith))
    ∙ sym (tabulated 16 s h.long)

-- ---- SubBytes
map-undone : (f g : ℕ → ℕ) → ((x : ℕ) → x < 256 → g (f x) ≡ x) → (s : List ℕ) → Bytes s → map g (map f s) ≡ s
map-undone f g e [] h = refl
map-undone f g e (x ∷ s) h = e x h.0 & map-undone f g e s h.1

pub sub-bytes-block : (s : List ℕ) → Block s → Block (sub_bytes s)
unfolding sub_bytes
sub-bytes-block s h = record { long = length-map s sub_byte ∙ h.long; bytes = bytes-map sub_byte sub-byte-byte s h.bytes }

pub inv-sub-bytes-block : (s : List ℕ) → Block s → Block (inv_sub_bytes s)
unfolding inv_sub_bytes
inv-sub-bytes-block s h =
    record { long = length-map s inv_sub_byte ∙ h.long; bytes = bytes-map inv_sub_byte inv-sub-byte-byte s h.bytes }

pub inv-sub-bytes-sub-bytes : (s : List ℕ) → Block s → inv_sub_bytes (sub_bytes s) ≡ s
unfolding sub_bytes inv_sub_bytes
inv-sub-bytes-sub-bytes s h = map-undone sub_byte inv_sub_byte inv-sub-byte-sub-byte s h.bytes

pub sub-bytes-inv-sub-bytes : (s : List ℕ) → Block s → sub_bytes (inv_sub_bytes s) ≡ s
unfolding sub_bytes inv_sub_bytes
sub-bytes-inv-sub-bytes s h = map-undone inv_sub_byte sub_byte sub-byte-inv-sub-byte s h.bytes

-- ---- ShiftRows
pub shift-rows-block : (s : List ℕ) → Block s → Block (shift_rows s)
unfolding shift_rows
shift-rows-block s h = state-block (λ r c. at s r ((c + r) % 4)) (λ r c. bytes-at s h.bytes (r + 4 * ((c + r) % 4)))

pub inv-shift-rows-block : (s : List ℕ) → Block s → Block (inv_shift_rows s)
unfolding inv_shift_rows
inv-shift-rows-block s h = state-block (λ r c. at s r ((c + 4 - r) % 4)) (λ r c. bytes-at s h.bytes (r + 4 * ((c + 4 - r) % 4)))

pub inv-shift-rows-shift-rows : (s : List ℕ) → Block s → inv_shift_rows (shift_rows s) ≡ s
unfolding shift_rows inv_shift_rows
inv-shift-rows-shift-rows s h = sym (tabulated 16 s h.long)

pub shift-rows-inv-shift-rows : (s : List ℕ) → Block s → shift_rows (inv_shift_rows s) ≡ s
unfolding shift_rows inv_shift_rows
shift-rows-inv-shift-rows s h = sym (tabulated 16 s h.long)

-- ---- MixColumns
module _ (m : ℕ → ℕ → ℕ → ℕ → ℕ) (byte : (a b c d : ℕ) → a < 256 → b < 256 → c < 256 → d < 256 → m a b c d < 256) where
  columns-block : (s : List ℕ) → Block s → Block (columns m s)
  columns-block s h =
      state-block (λ r c. m (at s r c) (at s ((r + 1) % 4) c) (at s ((r + 2) % 4) c) (at s ((r + 3) % 4) c))
      (λ r c. byte (at s r c) (at s ((r + 1) % 4) c) (at s ((r + 2) % 4) c) (at s ((r + 3) % 4) c)
      (row r c) (row ((r + 1) % 4) c) (row ((r + 2) % 4) c) (row ((r + 3) % 4) c))
    where
      row : (r c : ℕ) → at s r c < 256
      row r c = bytes-at s h.bytes (r + 4 * c)

module _ (m n : ℕ → ℕ → ℕ → ℕ → ℕ)
    (undone : (a b c d : ℕ) → a < 256 → b < 256 → c < 256 → d < 256 → n (m a b c d) (m b c d a) (m c d a b) (m d a b c) ≡ a)
    (s : List ℕ) (h : Block s) where
  -- the product of m's row r with column c
  abbrev product : ℕ → ℕ → ℕ
  product r c = m (at s r c) (at s ((r + 1) % 4) c) (at s ((r + 2) % 4) c) (at s ((r + 3) % 4) c)

  -- row r + k of the product, for a row r: the column turned k times
  turned : (r c p q u v : ℕ) → r < 4 → c < 4 → (r + 1) % 4 ≡ p → (r + 2) % 4 ≡ q → (r + 3) % 4 ≡ u → r ≡ v
      → at (columns m s) r c ≡ m (at s v c) (at s p c) (at s q c) (at s u c)
  turned r c p q u v hr hc ep eq eu ev =
      at-state product r c hr hc
      ∙ ap₂ (λ (x y : ℕ). m (at s x c) (at s y c) (at s ((r + 2) % 4) c) (at s ((r + 3) % 4) c)) ev ep
      ∙ ap₂ (λ (x y : ℕ). m (at s v c) (at s p c) (at s x c) (at s y c)) eq eu

  columns-undone : columns n (columns m s) ≡ s
  columns-undone = state-is (λ r c. n (at t r c) (at t ((r + 1) % 4) c) (at t ((r + 2) % 4) c) (at t ((r + 3) % 4) c)) s h each
    where
      t : List ℕ
      t = columns m s

      row : (r c : ℕ) → at s r c < 256
      row r c = bytes-at s h.bytes (r + 4 * c)

      each : (r c : ℕ) → r < 4 → c < 4 → n (at t r c) (at t ((r + 1) % 4) c) (at t ((r + 2) % 4) c) (at t ((r + 3) % 4) c) ≡ at s r c
      each r c p q =
          let r1 : ℕ = (r + 1) % 4 in
          let r2 : ℕ = (r + 2) % 4 in
          let r3 : ℕ = (r + 3) % 4 in
          ap₂ (λ (x y : ℕ). n x y (at t r2 c) (at t r3 c))
          (turned r c r1 r2 r3 r p q refl refl refl refl) (turned r1 c r2 r3 r r1 (omega arith) q (omega arith) (omega arith) (omega arith) refl)
          ∙ ap₂ (λ (x y : ℕ). n (m (at s r c) (at s r1 c) (at s r2 c) (at s r3 c)) (m (at s r1 c) (at s r2 c) (at s r3 c) (at s r c)) x y)
          (turned r2 c r3 r r1 r2 (omega arith) q (omega arith) (omega arith) (omega arith) refl)
          (turned r3 c r r1 r2 r3 (omega arith) q (omega arith) (omega arith) (omega arith) refl)
          ∙ undone (at s r c) (at s r1 c) (at s r2 c) (at s r3 c) (row r c) (row r1 c) (row r2 c) (row r3 c)

pub mix-columns-block : (s : List ℕ) → Block s → Block (mix_columns s)
unfolding mix_columns
mix-columns-block = columns-block mix_row mix-row-byte

pub inv-mix-columns-block : (s : List ℕ) → Block s → Block (inv_mix_columns s)
unfolding inv_mix_columns
inv-mix-columns-block = columns-block inv_mix_row inv-mix-row-byte

pub inv-mix-columns-mix-columns : (s : List ℕ) → Block s → inv_mix_columns (mix_columns s) ≡ s
unfolding mix_columns inv_mix_columns
inv-mix-columns-mix-columns = columns-undone mix_row inv_mix_row inv-mix-mix

pub mix-columns-inv-mix-columns : (s : List ℕ) → Block s → mix_columns (inv_mix_columns s) ≡ s
unfolding mix_columns inv_mix_columns
mix-columns-inv-mix-columns = columns-undone inv_mix_row mix_row mix-inv-mix

-- ---- AddRoundKey
pub add-round-key-block : (s k : List ℕ) → Block s → Bytes k → Block (add_round_key s k)
unfolding add_round_key
add-round-key-block s k h g = xor_block s k h g

pub add-round-key-twice : (s k : List ℕ) → add_round_key (add_round_key s k) k ≡ s
unfolding add_round_key
add-round-key-twice s k = xor-bytes-undo s k
