-- Two chains in step: what is left of the MAC over the ciphertext that is still to be made, block by block; and the length of a cipher's block.
-- Assumes nothing.
use mathlib.Core.Path.{◌≡◌, refl, sym, ap, ap₂, ◌∙◌}
use mathlib.Core.List.{List, ◌++◌, append_assoc}
use Prim.Native.Nat.{ℕ, suc, ◌+◌, ◌-◌, ◌/◌, ◌≤◌}
use native.Mathlib.Omega.{arith}
use lib.ListN.{length, take, drop, length-append}
use lib.Seq.{take_at, drop_at, length-take-le}
use Rattle.octets.specs.Bytes.{xor_bytes}
use Rattle.octets.proofs.Lists.{length-xor-bytes}
use Rattle.aes_rules.specs.Cipher.{sub_bytes, shift_rows, add_round_key, round_key, rounds, cipher}
use Rattle.aes_cbc.specs.Mode.{chain, encrypt_block, cbc_encrypt, last_block, cbc_mac}
use Rattle.aes_cbc.proofs.Mac.{last-block-behind, mac-turned, mac-headed}

length-shifted : (s : List ℕ) → length (shift_rows s) ≡ 16
unfolding shift_rows
length-shifted s = refl

pub length-cipher : (w s : List ℕ) → length (cipher w s) ≡ 16
unfolding cipher add_round_key
length-cipher w s =
    let t : List ℕ = sub_bytes (rounds w 13 (add_round_key s (round_key w 0))) in
    length-xor-bytes (shift_rows t) (round_key w 14) ∙ length-shifted t

-- `enc` enciphers, `mac` is the cipher of the MAC
module _ (enc mac : List ℕ → List ℕ) where
  abbrev encrypted : (List ℕ → List ℕ) → ℕ → List ℕ → List ℕ → List ℕ
  encrypted ciph = chain (encrypt_block ciph) (encrypt_block ciph)

  -- the MAC that comes of it: n blocks of xs are still to be enciphered, chained to `prev`, and `waiting` goes into the MAC's cipher next
  abbrev pub rest : ℕ → List ℕ → List ℕ → List ℕ → List ℕ
  rest n prev waiting xs = last_block (mac waiting) (encrypted mac n (mac waiting) (encrypted enc n prev xs))

  -- one block more: its ciphertext c, and m, which the block that waited became, make the next one that waits
  block : (n : ℕ) (prev c waiting m next xs : List ℕ) → length c ≡ 16 → length m ≡ 16 → length (mac next) ≡ 16
      → c ≡ encrypt_block enc prev (take 16 xs) → m ≡ mac waiting → next ≡ xor_bytes c m
      → rest n c next (drop 16 xs) ≡ rest (suc n) prev waiting xs
  block n prev c waiting m next xs lc lm ld ec em en =
      sym
      (ap₂ (λ (a b : List ℕ). last_block a (encrypted mac (suc n) a (b ++ encrypted enc n b (drop 16 xs)))) (sym em) (sym ec)
      ∙ ap₂ (λ (a b : List ℕ). last_block m (encrypt_block mac m a ++ encrypted mac n (encrypt_block mac m a) b)) (take_at c tail 16 lc) (drop_at c tail 16 lc)
      ∙ ap (λ (d : List ℕ). last_block m (d ++ encrypted mac n d tail)) (ap mac (sym en))
      ∙ last-block-behind m (mac next) (encrypted mac n (mac next) tail) lm ld)
    where
      tail : List ℕ
      tail = encrypted enc n c (drop 16 xs)

  in-step-at : (prev c waiting m next buf y : List ℕ) (i k L : ℕ) → k ≡ 16 → i + 16 ≤ length buf → length buf ≡ L
      → length c ≡ 16 → length m ≡ 16 → length (mac next) ≡ 16
      → c ≡ encrypt_block enc prev (take k (drop i buf)) → m ≡ mac waiting → next ≡ xor_bytes c m → y ≡ c
      → rest ((L - (i + 16)) / 16) c next (drop (i + 16) (take i buf ++ (y ++ drop k (drop i buf)))) ≡ rest ((L - i) / 16) prev waiting (drop i buf)
  in-step-at prev c waiting m next buf y i k L hk fits hl lc lm ld ec em en ey =
      ap (rest n c next) behind
      ∙ block n prev c waiting m next (drop i buf) lc lm ld (ec ∙ ap (λ (j : ℕ). encrypt_block enc prev (take j (drop i buf))) hk) em en
      ∙ ap (λ (j : ℕ). rest j prev waiting (drop i buf)) more
    where
      n : ℕ
      n = (L - (i + 16)) / 16

      more : suc n ≡ (L - i) / 16
      more = omega arith

      long : length (take i buf ++ y) ≡ i + 16
      long = omega (arith, length-append (take i buf) y, length-take-le i buf (omega arith), ap length ey, lc)

      behind : drop (i + 16) (take i buf ++ (y ++ drop k (drop i buf))) ≡ drop 16 (drop i buf)
      behind =
          ap (drop (i + 16)) (sym (append_assoc (take i buf) y (drop k (drop i buf))))
          ∙ drop_at (take i buf ++ y) (drop k (drop i buf)) (i + 16) long
          ∙ ap (λ (j : ℕ). drop j (drop i buf)) hk

  -- a turn of the loop, which writes y, the ciphertext, over the block at i; the block after it begins at j
  pub in_step : (prev c waiting m next buf y : List ℕ) (i j k L : ℕ) → j ≡ i + 16 → k ≡ 16 → j ≤ length buf → length buf ≡ L
      → length c ≡ 16 → length m ≡ 16 → length (mac next) ≡ 16
      → c ≡ encrypt_block enc prev (take k (drop i buf)) → m ≡ mac waiting → next ≡ xor_bytes c m → y ≡ c
      → rest ((L - j) / 16) c next (drop j (take i buf ++ (y ++ drop k (drop i buf)))) ≡ rest ((L - i) / 16) prev waiting (drop i buf)
  in_step prev c waiting m next buf y i j k L ej hk fits hl lc lm ld ec em en ey =
      ap (λ (n : ℕ). rest ((L - n) / 16) c next (drop n (take i buf ++ (y ++ drop k (drop i buf))))) ej
      ∙ in-step-at prev c waiting m next buf y i k L hk (omega (arith, ej)) hl lc lm ld ec em en ey

  -- in the end the MAC is what the block that waits becomes
  pub in-step-end : (n : ℕ) (prev waiting xs : List ℕ) → length (mac waiting) ≡ 16 → n ≡ 0 → rest n prev waiting xs ≡ mac waiting
  in-step-end n prev waiting xs h e = mac-turned mac (mac waiting) (encrypted enc n prev xs) 0 n h e

  -- and that is the MAC of the head block and the ciphertext joined
  pub sealed-mac : (iv head xs ys r : List ℕ) → length head ≡ 16 → length (mac head) ≡ 16 → length ys ≡ length xs → ys ≡ cbc_encrypt enc iv xs
      → r ≡ rest (length xs / 16) iv head xs → r ≡ cbc_mac mac (head ++ ys)
  unfolding cbc_encrypt
  sealed-mac iv head xs ys r hh hm hl ey er =
      mac-headed mac head (mac head) ys r hh hm refl
      (er ∙ ap₂ (λ (j : ℕ) (t : List ℕ). last_block (mac head) (encrypted mac j (mac head) t)) (ap (λ (j : ℕ). j / 16) (sym hl)) (sym ey))
