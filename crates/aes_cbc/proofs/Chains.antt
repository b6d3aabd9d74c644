-- Facts about any chain over blocks of 16 bytes: it is cut at any block border, it is worked in place block by block, and it keeps lengths.
-- Assumes nothing.
use mathlib.Core.Path.{◌≡◌, refl, sym, ap, ap₂, ◌∙◌}
use mathlib.Core.List.{List, ◌++◌, append_assoc, append-nil}
use Prim.Native.Nat.{ℕ, zero, suc, ◌+◌, ◌-◌, ◌*◌, ◌/◌, ◌≤◌}
use native.Mathlib.Nat.{zero-add, suc-add, zero-mul}
use native.Mathlib.Omega.{arith}
use lib.ListN.{length, take, drop, length-append, length-drop}
use lib.Seq.{take_at, drop_at, take_all, take-add, drop-drop, length-take-le}
use Rattle.octets.specs.Bytes.{Bytes, Block}
use Rattle.octets.proofs.Lists.{bytes_take, bytes_drop, bytes-append}
use Rattle.aes_cbc.specs.Mode.{chain}

pub first_block : (xs : List ℕ) → Bytes xs → 16 ≤ length xs → Block (take 16 xs)
first_block xs h l = record { long = length-take-le 16 xs l; bytes = bytes_take 16 xs h }

module _ (out next : List ℕ → List ℕ → List ℕ) where
  -- ---- worked in place: r is written over the block at i, and what is left to do is the rest of the chain

  turn-at : (prev p buf y : List ℕ) (i k L : ℕ) → k ≡ 16 → i + 16 ≤ length buf → length buf ≡ L → length y ≡ 16
      → y ≡ out prev (take k (drop i buf)) → p ≡ next prev (take k (drop i buf))
      → take (i + 16) (take i buf ++ (y ++ drop k (drop i buf))) ++ chain out next ((L - (i + 16)) / 16) p (drop (i + 16) (take i buf ++ (y ++ drop k (drop i buf))))
      ≡ take i buf ++ chain out next ((L - i) / 16) prev (drop i buf)
  turn-at prev p buf y i k L hk fits hl ly ey ep =
      ap₂ (λ (a b : List ℕ). a ++ chain out next n p b) (ap (take (i + 16)) group ∙ take_at front (drop k (drop i buf)) (i + 16) long)
      (ap (drop (i + 16)) group ∙ drop_at front (drop k (drop i buf)) (i + 16) long)
      ∙ append_assoc (take i buf) y (chain out next n p (drop k (drop i buf)))
      ∙ ap (λ (b : List ℕ). take i buf ++ b) step
      ∙ ap (λ (m : ℕ). take i buf ++ chain out next m prev (drop i buf)) more
    where
      n : ℕ
      n = (L - (i + 16)) / 16

      front : List ℕ
      front = take i buf ++ y

      group : take i buf ++ (y ++ drop k (drop i buf)) ≡ front ++ drop k (drop i buf)
      group = sym (append_assoc (take i buf) y (drop k (drop i buf)))

      long : length front ≡ i + 16
      long = omega (arith, length-append (take i buf) y, length-take-le i buf (omega arith))

      more : suc ((L - (i + 16)) / 16) ≡ (L - i) / 16
      more = omega arith

      step : y ++ chain out next n p (drop k (drop i buf)) ≡ chain out next (suc n) prev (drop i buf)
      step =
          ap₂ (λ (a b : List ℕ). a ++ chain out next n b (drop k (drop i buf))) ey ep
          ∙ ap (λ (m : ℕ). out prev (take m (drop i buf)) ++ chain out next n (next prev (take m (drop i buf))) (drop m (drop i buf))) hk

  -- the block after it begins at j
  pub turn : (prev p buf y : List ℕ) (i j k L : ℕ) → j ≡ i + 16 → k ≡ 16 → j ≤ length buf → length buf ≡ L → length y ≡ 16
      → y ≡ out prev (take k (drop i buf)) → p ≡ next prev (take k (drop i buf))
      → take j (take i buf ++ (y ++ drop k (drop i buf))) ++ chain out next ((L - j) / 16) p (drop j (take i buf ++ (y ++ drop k (drop i buf))))
      ≡ take i buf ++ chain out next ((L - i) / 16) prev (drop i buf)
  turn prev p buf y i j k L ej hk fits hl ly ey ep =
      let b : List ℕ = take i buf ++ (y ++ drop k (drop i buf)) in
      ap (λ (m : ℕ). take m b ++ chain out next ((L - m) / 16) p (drop m b)) ej
      ∙ turn-at prev p buf y i k L hk (omega (arith, ej)) hl ly ey ep

  pub turned : (prev buf : List ℕ) (i n : ℕ) → length buf ≤ i → n ≡ 0 → take i buf ++ chain out next n prev (drop i buf) ≡ buf
  turned prev buf i n h e =
      ap (λ (m : ℕ). take i buf ++ chain out next m prev (drop i buf)) e ∙ append-nil (take i buf) ∙ take_all i buf h

  -- ---- cut at a block border: what the first block after n blocks is chained to, and the chain in two parts
  abbrev pub chained : ℕ → List ℕ → List ℕ → List ℕ
  chained zero prev xs = prev
  chained (suc n) prev xs = chained n (next prev (take 16 xs)) (drop 16 xs)

  pub chain-cut : (n m : ℕ) (prev xs : List ℕ)
      → chain out next (n + m) prev xs ≡ chain out next n prev xs ++ chain out next m (chained n prev xs) (drop (n * 16) xs)
  chain-cut zero m prev xs = ap₂ (λ (k j : ℕ). chain out next k prev (drop j xs)) (zero-add m) (sym (zero-mul 16))
  chain-cut (suc n) m prev xs =
      let b : List ℕ = take 16 xs in
      let rest : 16 + n * 16 ≡ suc n * 16 = omega arith in
      ap (λ (k : ℕ). chain out next k prev xs) (suc-add n m)
      ∙ ap (λ (y : List ℕ). out prev b ++ y) (chain-cut n m (next prev b) (drop 16 xs))
      ∙ sym (append_assoc (out prev b) (chain out next n (next prev b) (drop 16 xs)) (chain out next m (chained n (next prev b) (drop 16 xs)) (drop (n * 16) (drop 16 xs))))
      ∙ ap (λ (y : List ℕ). (out prev b ++ chain out next n (next prev b) (drop 16 xs)) ++ chain out next m (chained n (next prev b) (drop 16 xs)) y)
      (drop-drop (n * 16) 16 xs ∙ ap (λ (k : ℕ). drop k xs) rest)

  -- ---- over blocks: the chain has as many bytes as the blocks that it takes
  module _ (out-block : (prev b : List ℕ) → Block prev → Block b → Block (out prev b))
      (next-block : (prev b : List ℕ) → Block prev → Block b → Block (next prev b)) where
    pub length-chain : (n : ℕ) (prev xs : List ℕ) → Block prev → Bytes xs → n * 16 ≤ length xs → length (chain out next n prev xs) ≡ n * 16
    length-chain zero prev xs hp hx l = refl
    length-chain (suc n) prev xs hp hx l =
        let b : List ℕ = take 16 xs in
        let hb : Block b = first_block xs hx (omega arith) in
        let tail : List ℕ = chain out next n (next prev b) (drop 16 xs) in
        let lt : length tail ≡ n * 16 = length-chain n (next prev b) (drop 16 xs) (next-block prev b hp hb) (bytes_drop 16 xs hx) (omega (arith, length-drop 16 xs)) in
        omega (arith, length-append (out prev b) tail, (out-block prev b hp hb).long)

    pub bytes-chain : (n : ℕ) (prev xs : List ℕ) → Block prev → Bytes xs → n * 16 ≤ length xs → Bytes (chain out next n prev xs)
    bytes-chain zero prev xs hp hx l = tt
    bytes-chain (suc n) prev xs hp hx l =
        let b : List ℕ = take 16 xs in
        let hb : Block b = first_block xs hx (omega arith) in
        bytes-append (out prev b) (chain out next n (next prev b) (drop 16 xs)) (out-block prev b hp hb).bytes
        (bytes-chain n (next prev b) (drop 16 xs) (next-block prev b hp hb) (bytes_drop 16 xs hx) (omega (arith, length-drop 16 xs)))

    -- a second chain that undoes each block of the first, and is chained as the first is, undoes the first
    module _ (out' next' : List ℕ → List ℕ → List ℕ)
        (undone : (prev b : List ℕ) → Block prev → Block b → out' prev (out prev b) ≡ b)
        (alike : (prev b : List ℕ) → Block prev → Block b → next' prev (out prev b) ≡ next prev b) where
      pub chain-undone : (n : ℕ) (prev xs : List ℕ) → Block prev → Bytes xs → n * 16 ≤ length xs
          → chain out' next' n prev (chain out next n prev xs) ≡ take (n * 16) xs
      chain-undone zero prev xs hp hx l = refl
      chain-undone (suc n) prev xs hp hx l =
          let b : List ℕ = take 16 xs in
          let hb : Block b = first_block xs hx (omega arith) in
          let o : List ℕ = out prev b in
          let ho : Block o = out-block prev b hp hb in
          let tail : List ℕ = chain out next n (next prev b) (drop 16 xs) in
          let all : 16 + n * 16 ≡ suc n * 16 = omega arith in
          ap₂ (λ (x y : List ℕ). out' prev x ++ chain out' next' n (next' prev x) y) (take_at o tail 16 ho.long) (drop_at o tail 16 ho.long)
          ∙ ap₂ (λ (x y : List ℕ). x ++ chain out' next' n y tail) (undone prev b hp hb) (alike prev b hp hb)
          ∙ ap (λ (x : List ℕ). b ++ x)
          (chain-undone n (next prev b) (drop 16 xs) (next-block prev b hp hb) (bytes_drop 16 xs hx) (omega (arith, length-drop 16 xs)))
          ∙ sym (take-add 16 (n * 16) xs)
          ∙ ap (λ (m : ℕ). take m xs) all
