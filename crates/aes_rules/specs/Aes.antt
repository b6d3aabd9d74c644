-- AES-256 under a key of 32 bytes, on blocks of 16 bytes (RULES 7.1): the cipher and its inverse; and what the modes of operation ask of any pair
-- of functions on blocks.
use Rattle.std.specs.Prelude.{◌≡◌, List, ℕ, length}
use Rattle.octets.specs.Bytes.{Bytes, Block}
use Rattle.aes_rules.specs.Cipher.{cipher}
use Rattle.aes_rules.specs.Schedule.{key_expansion}
use Rattle.aes_rules.specs.InvCipher.{inv_cipher}

-- FIPS 197, section 5: AES-256 of a block, and its inverse
unfoldable pub aes256 : List ℕ → List ℕ → List ℕ
aes256 key s = cipher (key_expansion key) s

unfoldable pub inv_aes256 : List ℕ → List ℕ → List ℕ
inv_aes256 key s = inv_cipher (key_expansion key) s

-- a key of AES-256: 32 bytes
pub record Key (key : List ℕ) : Type 0 where
  pub long : length key ≡ 32
  pub bytes : Bytes key

-- two functions that take blocks to blocks and undo each other: CIPH and CIPH⁻¹ of SP 800-38A, section 5.3
pub record Permutes (ciph inv : List ℕ → List ℕ) : Type 0 where
  pub block : (s : List ℕ) → Block s → Block (ciph s)
  pub inv_block : (s : List ℕ) → Block s → Block (inv s)
  pub inv_ciph : (s : List ℕ) → Block s → inv (ciph s) ≡ s
  pub ciph_inv : (s : List ℕ) → Block s → ciph (inv s) ≡ s
