-- The steps of a round byte by byte: what is at each place of a step's result, for code that computes it place by place.
-- Assumes nothing.
use mathlib.Core.Path.{◌≡◌, refl, sym, ap, ap₂, ◌∙◌}
use mathlib.Core.List.{List, [], ◌∷◌, map}
use Prim.Native.Nat.{ℕ, ◌+◌, ◌-◌, ◌*◌, ◌/◌, ◌%◌, ◌<◌}
use native.Mathlib.Nat.{add-zero}
use native.Mathlib.Omega.{arith}
use lib.ListN.{length, take, drop, get_or, length-map, length-take, length-drop}
use lib.Seq.{get_or-take, get_or-drop}
use Rattle.octets.specs.Bytes.{overwrite, tabulate}
use Rattle.octets.proofs.Lists.{◌&◌, tabulated, tabulate-ext, length-tabulate, get_d_tabulate, get_d_map}
use Rattle.octets.proofs.Filling.{Filled, filled-part}
use Rattle.aes_rules.specs.Cipher.{at, shift_rows, columns}
use Rattle.aes_rules.specs.InvCipher.{inv_shift_rows}

place : (s : List ℕ) (i j : ℕ) → i ≡ j → get_or s i 0 ≡ get_or s j 0
place s i j e = ap (λ (k : ℕ). get_or s k 0) e

-- ---- ShiftRows and its inverse
pub shift-rows-made : (s : List ℕ) → tabulate 16 (λ i. get_or s ((i + 4 * (i % 4)) % 16) 0) ≡ shift_rows s
unfolding shift_rows
shift-rows-made s = tabulate-ext 16 (λ i. get_or s ((i + 4 * (i % 4)) % 16) 0) (λ i. at s (i % 4) ((i / 4 + i % 4) % 4))
    (λ i h. place s ((i + 4 * (i % 4)) % 16) (i % 4 + 4 * ((i / 4 + i % 4) % 4)) (omega arith))

pub inv-shift-rows-made : (s : List ℕ) → tabulate 16 (λ i. get_or s ((i + 12 * (i % 4)) % 16) 0) ≡ inv_shift_rows s
unfolding inv_shift_rows
inv-shift-rows-made s = tabulate-ext 16 (λ i. get_or s ((i + 12 * (i % 4)) % 16) 0) (λ i. at s (i % 4) ((i / 4 + 4 - i % 4) % 4))
    (λ i h. place s ((i + 12 * (i % 4)) % 16) (i % 4 + 4 * ((i / 4 + 4 - i % 4) % 4)) (omega arith))

-- ---- SubBytes and its inverse, and any step that does the same with each byte
pub each-made : (f : ℕ → ℕ) (s : List ℕ) → length s ≡ 16 → tabulate 16 (λ i. f (get_or s i 0)) ≡ map f s
each-made f s l =
    sym
    (tabulated 16 (map f s) (length-map s f ∙ l)
    ∙ tabulate-ext 16 (λ k. get_or (map f s) k 0) (λ k. f (get_or s k 0)) (λ k h. get_d_map f s k (omega (arith, l))))

-- ---- a column of MixColumns or of its inverse, which begins at byte i: the column turned k times gives the byte i + k
module _ (m : ℕ → ℕ → ℕ → ℕ → ℕ) (s : List ℕ) where
  abbrev turned : ℕ → ℕ → ℕ → ℕ → ℕ
  turned a b c d = m (get_or s a 0) (get_or s b 0) (get_or s c 0) (get_or s d 0)

  from_place : (k a b c d : ℕ) → k < 16 → a ≡ k % 4 + 4 * (k / 4) → b ≡ (k % 4 + 1) % 4 + 4 * (k / 4) → c ≡ (k % 4 + 2) % 4 + 4 * (k / 4)
      → d ≡ (k % 4 + 3) % 4 + 4 * (k / 4) → turned a b c d ≡ get_or (columns m s) k 0
  from_place k a b c d h ea eb ec ed =
      ap₂ (λ (x y : ℕ). turned x y c d) ea eb
      ∙ ap₂ (turned (k % 4 + 4 * (k / 4)) ((k % 4 + 1) % 4 + 4 * (k / 4))) ec ed
      ∙ sym (get_d_tabulate 16 (λ i. m (at s (i % 4) (i / 4)) (at s ((i % 4 + 1) % 4) (i / 4)) (at s ((i % 4 + 2) % 4) (i / 4)) (at s ((i % 4 + 3) % 4) (i / 4))) k h)

  module _ (i : ℕ) (h : i < 16) (column : i % 4 ≡ 0) where
    column-at-0 : turned i (i + 1) (i + 2) (i + 3) ≡ get_or (columns m s) i 0
    column-at-0 = from_place i i (i + 1) (i + 2) (i + 3) h (omega arith) (omega arith) (omega arith) (omega arith)

    column-at-1 : turned (i + 1) (i + 2) (i + 3) i ≡ get_or (columns m s) (i + 1) 0
    column-at-1 = from_place (i + 1) (i + 1) (i + 2) (i + 3) i (omega arith) (omega arith) (omega arith) (omega arith) (omega arith)

    column-at-2 : turned (i + 2) (i + 3) i (i + 1) ≡ get_or (columns m s) (i + 2) 0
    column-at-2 = from_place (i + 2) (i + 2) (i + 3) i (i + 1) (omega arith) (omega arith) (omega arith) (omega arith) (omega arith)

    column-at-3 : turned (i + 3) i (i + 1) (i + 2) ≡ get_or (columns m s) (i + 3) 0
    column-at-3 = from_place (i + 3) (i + 3) i (i + 1) (i + 2) (omega arith) (omega arith) (omega arith) (omega arith) (omega arith)

    part : (k : ℕ) → k < 4 → get_or (take 4 (drop i (columns m s))) k 0 ≡ get_or (columns m s) (i + k) 0
    part k l = get_or-take 4 (drop i (columns m s)) k 0 l ∙ get_or-drop i (columns m s) k 0

    column-of : take 4 (drop i (columns m s)) ≡ turned i (i + 1) (i + 2) (i + 3) ∷ turned (i + 1) (i + 2) (i + 3) i ∷ turned (i + 2) (i + 3) i (i + 1) ∷ turned (i + 3) i (i + 1) (i + 2) ∷ []
    column-of =
        tabulated 4 (take 4 (drop i (columns m s))) (simp (length-take, length-drop) (omega (arith, length-tabulate 16 (λ i. 0))))
        ∙ ((part 0 (omega arith) ∙ place (columns m s) (i + 0) i (add-zero i) ∙ sym column-at-0)
        & (part 1 (omega arith) ∙ sym column-at-1)
        & (part 2 (omega arith) ∙ sym column-at-2)
        & (part 3 (omega arith) ∙ sym column-at-3)
        & refl)

  -- a turn of a loop that fills the result column by column
  pub column-filled : (r column : List ℕ) (i j : ℕ) → Filled 16 (columns m s) r i → i < 16 → i % 4 ≡ 0 → j ≡ i + 4
      → column ≡ turned i (i + 1) (i + 2) (i + 3) ∷ turned (i + 1) (i + 2) (i + 3) i ∷ turned (i + 2) (i + 3) i (i + 1) ∷ turned (i + 3) i (i + 1) (i + 2) ∷ []
      → Filled 16 (columns m s) (overwrite r i column) j
  column-filled r column i j f h e ej got =
      let l : length column ≡ 4 = ap length got in
      filled-part column j f (omega (arith, l, ej)) (omega arith) (got ∙ sym (column-of i h e) ∙ ap (λ (k : ℕ). take k (drop i (columns m s))) (sym l))
