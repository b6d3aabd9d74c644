-- The laws of CBC, over any cipher function that permutes blocks and for every number of whole blocks: lengths are kept, decryption undoes
-- encryption, and encryption undoes decryption; and CBC-MAC is a block. AES-256 is such a function, so they hold of it under every key.
-- Assumes nothing.
use mathlib.Core.Path.{◌≡◌, refl, ap, ◌∙◌}
use mathlib.Core.List.{List, ◌++◌}
use Prim.Native.Nat.{ℕ, ◌*◌, ◌/◌, ◌%◌}
use native.Mathlib.Omega.{arith}
use lib.ListN.{length, length-append, length-drop}
use lib.Seq.{take_all}
use Rattle.octets.specs.Bytes.{Bytes, Block, xor_bytes}
use Rattle.octets.proofs.Lists.{xor_block, xor-bytes-undo, bytes-append, bytes_drop, bytes-replicate}
use Rattle.aes_rules.specs.Aes.{aes256, inv_aes256, Key, Permutes}
use Rattle.aes_rules.proofs.Permutation.{aes-permutes}
use Rattle.aes_cbc.specs.Mode.{chain, encrypt_block, decrypt_block, itself, cbc_encrypt, cbc_decrypt, last_block, zero_block, cbc_mac}
use Rattle.aes_cbc.proofs.Chains.{length-chain, bytes-chain, chain-undone}

module _ (ciph inv : List ℕ → List ℕ) (p : Permutes ciph inv) where
  -- ---- one block
  encrypt-block : (prev b : List ℕ) → Block prev → Block b → Block (encrypt_block ciph prev b)
  encrypt-block prev b hp hb = p.block (xor_bytes b prev) (xor_block b prev hb hp.bytes)

  decrypt-block : (prev b : List ℕ) → Block prev → Block b → Block (decrypt_block inv prev b)
  decrypt-block prev b hp hb = xor_block (inv b) prev (p.inv_block b hb) hp.bytes

  itself-block : (prev b : List ℕ) → Block prev → Block b → Block (itself prev b)
  itself-block prev b hp hb = hb

  decrypt-encrypt-block : (prev b : List ℕ) → Block prev → Block b → decrypt_block inv prev (encrypt_block ciph prev b) ≡ b
  decrypt-encrypt-block prev b hp hb =
      ap (λ (x : List ℕ). xor_bytes x prev) (p.inv_ciph (xor_bytes b prev) (xor_block b prev hb hp.bytes)) ∙ xor-bytes-undo b prev

  encrypt-decrypt-block : (prev b : List ℕ) → Block prev → Block b → encrypt_block ciph prev (decrypt_block inv prev b) ≡ b
  encrypt-decrypt-block prev b hp hb = ap ciph (xor-bytes-undo (inv b) prev) ∙ p.ciph_inv b hb

  -- ---- whole blocks
  module _ (iv xs : List ℕ) (hi : Block iv) (hx : Bytes xs) (whole : length xs % 16 ≡ 0) where
    abbrev n : ℕ
    n = length xs / 16

    pub length-cbc-encrypt : length (cbc_encrypt ciph iv xs) ≡ length xs
    unfolding cbc_encrypt
    length-cbc-encrypt =
        length-chain (encrypt_block ciph) (encrypt_block ciph) encrypt-block encrypt-block n iv xs hi hx (omega arith) ∙ omega arith

    pub length-cbc-decrypt : length (cbc_decrypt inv iv xs) ≡ length xs
    unfolding cbc_decrypt
    length-cbc-decrypt =
        length-chain (decrypt_block inv) itself decrypt-block itself-block n iv xs hi hx (omega arith) ∙ omega arith

    pub bytes-cbc-encrypt : Bytes (cbc_encrypt ciph iv xs)
    unfolding cbc_encrypt
    bytes-cbc-encrypt =
        bytes-chain (encrypt_block ciph) (encrypt_block ciph) encrypt-block encrypt-block n iv xs hi hx (omega arith)

    pub bytes-cbc-decrypt : Bytes (cbc_decrypt inv iv xs)
    unfolding cbc_decrypt
    bytes-cbc-decrypt = bytes-chain (decrypt_block inv) itself decrypt-block itself-block n iv xs hi hx (omega arith)

    pub cbc-decrypt-encrypt : cbc_decrypt inv iv (cbc_encrypt ciph iv xs) ≡ xs
    unfolding cbc_decrypt cbc_encrypt
    cbc-decrypt-encrypt =
        ap (λ (k : ℕ). chain (decrypt_block inv) itself (k / 16) iv (cbc_encrypt ciph iv xs)) length-cbc-encrypt
        ∙ chain-undone (encrypt_block ciph) (encrypt_block ciph) encrypt-block encrypt-block (decrypt_block inv) itself decrypt-encrypt-block
        (λ prev b hp hb. refl) n iv xs hi hx (omega arith)
        ∙ take_all (n * 16) xs (omega arith)

    pub cbc-encrypt-decrypt : cbc_encrypt ciph iv (cbc_decrypt inv iv xs) ≡ xs
    unfolding cbc_decrypt cbc_encrypt
    cbc-encrypt-decrypt =
        ap (λ (k : ℕ). chain (encrypt_block ciph) (encrypt_block ciph) (k / 16) iv (cbc_decrypt inv iv xs)) length-cbc-decrypt
        ∙ chain-undone (decrypt_block inv) itself decrypt-block itself-block (encrypt_block ciph) (encrypt_block ciph) encrypt-decrypt-block
        encrypt-decrypt-block n iv xs hi hx (omega arith)
        ∙ take_all (n * 16) xs (omega arith)

  -- ---- CBC-MAC
  zero-block : Block zero_block
  zero-block = record { long = refl; bytes = bytes-replicate 16 0 (omega arith) }

  pub cbc-mac-block : (xs : List ℕ) → Bytes xs → length xs % 16 ≡ 0 → Block (cbc_mac ciph xs)
  unfolding cbc_mac last_block
  cbc-mac-block xs hx whole =
      let ys : List ℕ = cbc_encrypt ciph zero_block xs in
      let hy : Bytes ys = bytes-cbc-encrypt zero_block xs zero-block hx whole in
      record {
        long = length-drop (length ys) (zero_block ++ ys) ∙ omega (arith, length-append zero_block ys);
        bytes = bytes_drop (length ys) (zero_block ++ ys) (bytes-append zero_block ys zero-block.bytes hy);
      }

-- ---- AES-256 in CBC mode, under every key
module _ (key iv xs : List ℕ) (hk : Key key) (hi : Block iv) (hx : Bytes xs) (whole : length xs % 16 ≡ 0) where
  pub aes-cbc-decrypt-encrypt : cbc_decrypt (inv_aes256 key) iv (cbc_encrypt (aes256 key) iv xs) ≡ xs
  aes-cbc-decrypt-encrypt = cbc-decrypt-encrypt (aes256 key) (inv_aes256 key) (aes-permutes key hk) iv xs hi hx whole

  pub aes-cbc-encrypt-decrypt : cbc_encrypt (aes256 key) iv (cbc_decrypt (inv_aes256 key) iv xs) ≡ xs
  aes-cbc-encrypt-decrypt = cbc-encrypt-decrypt (aes256 key) (inv_aes256 key) (aes-permutes key hk) iv xs hi hx whole
