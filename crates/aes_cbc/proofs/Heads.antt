-- CBC-MACs over the same whole blocks after two head blocks: they are equal only if the head blocks are, because the cipher permutes blocks.
-- Assumes nothing.
use mathlib.Core.Path.{◌≡◌, refl, sym, ap, ◌∙◌}
use mathlib.Core.List.{List, ◌++◌, append-nil}
use Prim.Native.Nat.{ℕ, zero, suc, ◌*◌, ◌/◌, ◌%◌, ◌≤◌}
use native.Mathlib.Omega.{arith}
use lib.ListN.{length, take, drop, length-drop}
use Rattle.octets.specs.Bytes.{Bytes, Block, xor_bytes}
use Rattle.octets.proofs.Lists.{bytes_drop, xor_block, xor-bytes-cancel}
use Rattle.aes_rules.specs.Aes.{Permutes}
use Rattle.aes_cbc.specs.Mode.{chain, encrypt_block, cbc_encrypt, last_block, cbc_mac}
use Rattle.aes_cbc.proofs.Chains.{first_block}
use Rattle.aes_cbc.proofs.Mac.{last-block-behind, mac-headed}

module _ (ciph inv : List ℕ → List ℕ) (p : Permutes ciph inv) where
  -- ---- the cipher, and one step of the chain, take no two blocks to one
  ciph-injective : (a b : List ℕ) → Block a → Block b → ciph a ≡ ciph b → a ≡ b
  ciph-injective a b ha hb e = sym (p.inv_ciph a ha) ∙ ap inv e ∙ p.inv_ciph b hb

  step-injective : (x a b : List ℕ) → Block x → Block a → Block b → encrypt_block ciph a x ≡ encrypt_block ciph b x → a ≡ b
  step-injective x a b hx ha hb e =
      sym (xor-bytes-cancel x a (hx.long ∙ sym ha.long))
      ∙ ap (xor_bytes x) (ciph-injective (xor_bytes x a) (xor_bytes x b) (xor_block x a hx ha.bytes) (xor_block x b hx hb.bytes) e)
      ∙ xor-bytes-cancel x b (hx.long ∙ sym hb.long)

  -- ---- nor does the last block of a chain over n blocks, from the block that it begins with
  abbrev encrypted : ℕ → List ℕ → List ℕ → List ℕ
  encrypted = chain (encrypt_block ciph) (encrypt_block ciph)

  last-injective : (n : ℕ) (a b xs : List ℕ) → Block a → Block b → Bytes xs → n * 16 ≤ length xs
      → last_block a (encrypted n a xs) ≡ last_block b (encrypted n b xs) → a ≡ b
  unfolding last_block
  last-injective zero a b xs ha hb hx l e = sym (append-nil a) ∙ e ∙ append-nil b
  last-injective (suc n) a b xs ha hb hx l e =
      let x : List ℕ = take 16 xs in
      let hf : Block x = first_block xs hx (omega arith) in
      let c : List ℕ = encrypt_block ciph a x in
      let d : List ℕ = encrypt_block ciph b x in
      let hc : Block c = p.block (xor_bytes x a) (xor_block x a hf ha.bytes) in
      let hd : Block d = p.block (xor_bytes x b) (xor_block x b hf hb.bytes) in
      step-injective x a b hf ha hb
      (last-injective n c d (drop 16 xs) hc hd (bytes_drop 16 xs hx) (omega (arith, length-drop 16 xs))
      (sym (last-block-behind a c (encrypted n c (drop 16 xs)) ha.long hc.long)
      ∙ e
      ∙ last-block-behind b d (encrypted n d (drop 16 xs)) hb.long hd.long))

  -- ---- nor does the MAC, from its head block on
  pub mac-injective : (a b xs : List ℕ) → Block a → Block b → Bytes xs → length xs % 16 ≡ 0
      → cbc_mac ciph (a ++ xs) ≡ cbc_mac ciph (b ++ xs) → a ≡ b
  unfolding cbc_encrypt
  mac-injective a b xs ha hb hx whole e =
      let hc : Block (ciph a) = p.block a ha in
      let hd : Block (ciph b) = p.block b hb in
      ciph-injective a b ha hb
      (last-injective (length xs / 16) (ciph a) (ciph b) xs hc hd hx (omega arith)
      (mac-headed ciph a (ciph a) xs (last_block (ciph a) (cbc_encrypt ciph (ciph a) xs)) ha.long hc.long refl refl
      ∙ e
      ∙ sym (mac-headed ciph b (ciph b) xs (last_block (ciph b) (cbc_encrypt ciph (ciph b) xs)) hb.long hd.long refl refl)))
