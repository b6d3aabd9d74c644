-- Cipher block chaining, SP 800-38A, section 6.2 (RULES 7.3), over whole blocks of 16 bytes, for any cipher function on blocks and its inverse;
-- and the CBC-MAC over it, ISO/IEC 9797-1, MAC algorithm 1 (RULES 7.4). Lengths are in bytes. Bytes after the last whole block are left out; the
-- laws and the code speak of lists of whole blocks, where there are none.
use Rattle.std.specs.Prelude.{ℕ, zero, suc, ◌/◌, List, [], ◌++◌, length, take, drop, replicate}
use Rattle.octets.specs.Bytes.{xor_bytes}

-- a chain over n blocks of xs (RULES 7.3): the block b, chained to `prev`, gives the block out prev b, and the next block is chained to next prev b
abbrev pub chain : (out next : List ℕ → List ℕ → List ℕ) → ℕ → List ℕ → List ℕ → List ℕ
chain out next zero prev xs = []
chain out next (suc n) prev xs = out prev (take 16 xs) ++ chain out next n (next prev (take 16 xs)) (drop 16 xs)

-- encryption: C_j = CIPH (P_j ⊕ C_{j-1}), with C_0 = IV
abbrev pub encrypt_block : (List ℕ → List ℕ) → List ℕ → List ℕ → List ℕ
encrypt_block ciph prev p = ciph (xor_bytes p prev)

unfoldable pub cbc_encrypt : (List ℕ → List ℕ) → List ℕ → List ℕ → List ℕ
cbc_encrypt ciph iv xs = chain (encrypt_block ciph) (encrypt_block ciph) (length xs / 16) iv xs

-- decryption: P_j = CIPH⁻¹ (C_j) ⊕ C_{j-1}, with C_0 = IV
abbrev pub decrypt_block : (List ℕ → List ℕ) → List ℕ → List ℕ → List ℕ
decrypt_block inv prev c = xor_bytes (inv c) prev

abbrev pub itself : List ℕ → List ℕ → List ℕ
itself prev c = c

unfoldable pub cbc_decrypt : (List ℕ → List ℕ) → List ℕ → List ℕ → List ℕ
cbc_decrypt inv iv xs = chain (decrypt_block inv) itself (length xs / 16) iv xs

-- the last block of ys, or the IV where ys is empty: the last 16 bytes of the IV and ys joined
unfoldable pub last_block : List ℕ → List ℕ → List ℕ
last_block iv ys = drop (length ys) (iv ++ ys)

-- CBC-MAC: the last block of the encryption with an IV of zeros (RULES 7.4)
abbrev pub zero_block : List ℕ
zero_block = replicate 16 0

unfoldable pub cbc_mac : (List ℕ → List ℕ) → List ℕ → List ℕ
cbc_mac ciph xs = last_block zero_block (cbc_encrypt ciph zero_block xs)
