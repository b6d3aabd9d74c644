-- The last block of a chain, block by block, and the MAC of a head block and whole blocks after it.
-- Assumes nothing.
use mathlib.Core.Path.{◌≡◌, refl, sym, ap, ap₂, ◌∙◌}
use mathlib.Core.List.{List, [], ◌++◌, append-nil}
use Prim.Native.Nat.{ℕ, zero, suc, ◌+◌, ◌-◌, ◌*◌, ◌/◌, ◌<◌}
use native.Mathlib.Nat.{zero-mul, not-suc-le-zero, le_of_suc-le-suc}
use native.Mathlib.Omega.{arith}
use lib.ListN.{length, take, drop, get_or, length-append}
use lib.Seq.{take_at, drop_at, drop-drop}
use Rattle.std.specs.Simd.{first_chunks}
use Rattle.octets.specs.Bytes.{xor_bytes}
use Rattle.octets.proofs.Lists.{xor-zeros}
use Rattle.aes_cbc.specs.Mode.{chain, encrypt_block, cbc_encrypt, last_block, zero_block, cbc_mac}

-- ---- last_block
pub last-block-behind : (iv c ys : List ℕ) → length iv ≡ 16 → length c ≡ 16 → last_block iv (c ++ ys) ≡ last_block c ys
unfolding last_block
last-block-behind iv c ys hi hc =
    ap (λ (n : ℕ). drop n (iv ++ (c ++ ys))) long
    ∙ sym (drop-drop (length ys) (length iv) (iv ++ (c ++ ys)))
    ∙ ap (drop (length ys)) (drop_at iv (c ++ ys) (length iv) refl)
  where
    long : length (c ++ ys) ≡ length iv + length ys
    long = omega (arith, length-append c ys)

-- block n of the first m blocks
chunk-at : (m n : ℕ) (xs d : List ℕ) → n < m → get_or (first_chunks 16 m xs) n d ≡ take 16 (drop (n * 16) xs)
chunk-at zero n xs d l = absurd (not-suc-le-zero l)
chunk-at (suc m) zero xs d l = ap (λ (k : ℕ). take 16 (drop k xs)) (sym (zero-mul 16))
chunk-at (suc m) (suc n) xs d l =
    chunk-at m n (drop 16 xs) d (le_of_suc-le-suc l)
    ∙ ap (take 16) (drop-drop (n * 16) 16 xs ∙ ap (λ (k : ℕ). drop k xs) further)
  where
    further : 16 + n * 16 ≡ suc n * 16
    further = omega arith

module _ (ciph : List ℕ → List ℕ) where
  abbrev encrypted : ℕ → List ℕ → List ℕ → List ℕ
  encrypted = chain (encrypt_block ciph) (encrypt_block ciph)

  -- a turn of a loop that keeps only the last block: c is the ciphertext of block n
  pub mac-turn : (prev c xs : List ℕ) (blocks : List (List ℕ)) (n m : ℕ) → n < m → length prev ≡ 16 → length c ≡ 16
      → blocks ≡ first_chunks 16 m xs → c ≡ encrypt_block ciph prev (get_or blocks n [])
      → last_block c (encrypted (m - (n + 1)) c (drop ((n + 1) * 16) xs)) ≡ last_block prev (encrypted (m - n) prev (drop (n * 16) xs))
  mac-turn prev c xs blocks n m l hp hc eb ec =
      sym
      (ap (λ (k : ℕ). last_block prev (encrypted k prev (drop (n * 16) xs))) (sym more)
      ∙ ap (λ (y : List ℕ). last_block prev (y ++ encrypted left y (drop 16 (drop (n * 16) xs)))) (sym here)
      ∙ last-block-behind prev c (encrypted left c (drop 16 (drop (n * 16) xs))) hp hc
      ∙ ap (λ (y : List ℕ). last_block c (encrypted left c y)) (drop-drop 16 (n * 16) xs ∙ ap (λ (k : ℕ). drop k xs) next))
    where
      left : ℕ
      left = m - (n + 1)

      more : suc left ≡ m - n
      more = omega arith

      next : n * 16 + 16 ≡ (n + 1) * 16
      next = omega arith

      here : c ≡ encrypt_block ciph prev (take 16 (drop (n * 16) xs))
      here = ec ∙ ap (encrypt_block ciph prev) (ap (λ (bs : List (List ℕ)). get_or bs n []) eb ∙ chunk-at m n xs [] l)

  pub mac-turned : (prev xs : List ℕ) (i n : ℕ) → length prev ≡ 16 → n ≡ 0 → last_block prev (encrypted n prev (drop i xs)) ≡ prev
  unfolding last_block
  mac-turned prev xs i n h e =
      ap (λ (m : ℕ). last_block prev (encrypted m prev (drop i xs))) e ∙ sym (drop-none)
    where
      drop-none : prev ≡ prev ++ []
      drop-none = sym (append-nil prev)

  -- ---- cbc_mac of a head block and whole blocks
  pub mac-headed : (head first xs r : List ℕ) → length head ≡ 16 → length first ≡ 16 → first ≡ ciph head
      → r ≡ last_block first (cbc_encrypt ciph first xs) → r ≡ cbc_mac ciph (head ++ xs)
  unfolding cbc_mac cbc_encrypt
  mac-headed head first xs r hh hf ef er =
      er
      ∙ sym (last-block-behind zero_block first (encrypted (length xs / 16) first xs) refl hf)
      ∙ ap₂ (λ (a b : List ℕ). last_block zero_block (a ++ encrypted (length xs / 16) a b)) start (sym (drop_at head xs 16 hh))
      ∙ ap (λ (m : ℕ). last_block zero_block (encrypted m zero_block (head ++ xs))) blocks
    where
      start : first ≡ encrypt_block ciph zero_block (take 16 (head ++ xs))
      start = ef ∙ ap ciph (sym (xor-zeros head 16)) ∙ ap (λ (b : List ℕ). ciph (xor_bytes b zero_block)) (sym (take_at head xs 16 hh))

      blocks : suc (length xs / 16) ≡ length (head ++ xs) / 16
      blocks = omega (arith, length-append head xs)
