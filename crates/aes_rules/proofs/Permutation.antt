-- AES-256 under a key of 32 bytes is a permutation of the blocks, with its inverse: what the modes of operation need of it.
-- Assumes nothing.
use mathlib.Core.List.{List}
use Prim.Native.Nat.{ℕ}
use Rattle.octets.specs.Bytes.{Bytes}
use Rattle.aes_rules.specs.Schedule.{key_expansion}
use Rattle.aes_rules.specs.Aes.{aes256, inv_aes256, Key, Permutes}
use Rattle.aes_rules.proofs.Expansion.{key-expansion-bytes}
use Rattle.aes_rules.proofs.Inverse.{cipher-block, inv-cipher-block, inv-cipher-cipher, cipher-inv-cipher}

pub aes-permutes : (key : List ℕ) → Key key → Permutes (aes256 key) (inv_aes256 key)
unfolding aes256 inv_aes256
aes-permutes key h =
    let w : List ℕ = key_expansion key in
    let hw : Bytes w = key-expansion-bytes key h.bytes in
    record {
      block = cipher-block w hw;
      inv_block = inv-cipher-block w hw;
      inv_ciph = inv-cipher-cipher w hw;
      ciph_inv = cipher-inv-cipher w hw;
    }
