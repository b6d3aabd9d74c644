-- How long sealed and opened bytes are, for any session: the cipher gives 16 bytes whatever the key, so nothing is asked of keys or IV.
-- Assumes nothing.
use mathlib.Core.Path.{◌≡◌, refl, sym, ◌∙◌}
use mathlib.Core.List.{List, [], ◌∷◌, ◌++◌}
use mathlib.Core.Option.{some}
use Prim.Native.Nat.{ℕ, zero, suc, ◌+◌, ◌*◌, ◌-◌, ◌/◌, ◌≤◌}
use native.Mathlib.Omega.{arith}
use lib.ListN.{length, take, drop, length-append, length-drop}
use Rattle.octets.specs.Bytes.{xor_bytes, same_bytes}
use Rattle.octets.proofs.Lists.{length-xor-bytes}
use Rattle.aes_rules.specs.Cipher.{shift_rows, add_round_key, cipher}
use Rattle.aes_rules.specs.InvCipher.{inv_shift_rows, inv_sub_bytes, inv_cipher}
use Rattle.aes_rules.specs.Aes.{aes256, inv_aes256}
use Rattle.aes_cbc.specs.Mode.{chain, encrypt_block, decrypt_block, itself, cbc_encrypt, cbc_decrypt, zero_block, last_block, cbc_mac}
use Rattle.aes_padding.specs.Padding.{padded_bytes, pad, unpad}
use Rattle.aes_padding.proofs.Laws.{padded-whole, padded-larger, padded-next, length-pad, unpad-shorter}
use Rattle.channel_rules.specs.declared.Session.{Session}
use Rattle.channel_rules.specs.Message.{response_head, ciphertext, mac_of, field_mac, seal_field, field_form, open_field}
use Rattle.channel_rules.specs.Terminal.{sealed_response}
use Rattle.channel_rules.proofs.Fields.{provided-some, provided-is, form-is}

-- ---- one block
add-length : (s k : List ℕ) → length (add_round_key s k) ≡ length s
unfolding add_round_key
add-length s k = length-xor-bytes s k

shift-length : (s : List ℕ) → length (shift_rows s) ≡ 16
unfolding shift_rows
shift-length s = refl

inv-shift-length : (s : List ℕ) → length (inv_sub_bytes (inv_shift_rows s)) ≡ 16
unfolding inv_sub_bytes inv_shift_rows
inv-shift-length s = refl

aes-length : (key s : List ℕ) → length (aes256 key s) ≡ 16
unfolding aes256 cipher
aes-length key s = simp (add-length, shift-length)

inv-aes-length : (key s : List ℕ) → length (inv_aes256 key s) ≡ 16
unfolding inv_aes256 inv_cipher
inv-aes-length key s = simp (add-length, inv-shift-length)

-- ---- chains
chain_length : (out next : List ℕ → List ℕ → List ℕ) → ((a b : List ℕ) → length (out a b) ≡ 16) → (n : ℕ) (prev xs : List ℕ)
    → length (chain out next n prev xs) ≡ n * 16
chain_length out next h zero prev xs = refl
chain_length out next h (suc n) prev xs =
    let rest = chain_length out next h n (next prev (take 16 xs)) (drop 16 xs) in
    omega (arith, length-append (out prev (take 16 xs)) (chain out next n (next prev (take 16 xs)) (drop 16 xs)), h prev (take 16 xs))

encrypted-length : (key iv xs : List ℕ) → length (cbc_encrypt (aes256 key) iv xs) ≡ length xs / 16 * 16
unfolding cbc_encrypt
encrypted-length key iv xs =
    chain_length (encrypt_block (aes256 key)) (encrypt_block (aes256 key)) (λ a b. aes-length key (xor_bytes b a)) (length xs / 16) iv xs

decrypted-length : (key iv xs : List ℕ) → length (cbc_decrypt (inv_aes256 key) iv xs) ≡ length xs / 16 * 16
unfolding cbc_decrypt
decrypted-length key iv xs =
    chain_length (decrypt_block (inv_aes256 key)) itself (λ a b. length-xor-bytes (inv_aes256 key b) a ∙ inv-aes-length key b)
    (length xs / 16) iv xs

-- ---- sealing
ciphertext-length : (s : Session) (d : List ℕ) → length (ciphertext s d) ≡ padded_bytes (length d)
unfolding ciphertext
ciphertext-length s d =
    omega (arith, encrypted-length s.enc_key s.iv (pad d), length-pad d, padded-whole (length d))

mac-length : (s : Session) (head c : List ℕ) → length (mac_of s head c) ≡ 16
unfolding mac_of cbc_mac last_block
mac-length s head c =
    let ys = cbc_encrypt (aes256 s.mac_key) zero_block (head ++ c) in
    omega (arith, length-drop (length ys) (zero_block ++ ys), length-append zero_block ys)

-- a sealed response: the MAC, the padded plaintext's length, and 9000
pub sealed-length : (s : Session) (p : List ℕ) → length (sealed_response s p) ≡ 18 + padded_bytes (length p)
unfolding sealed_response seal_field
sealed-length s p =
    omega (
      arith,
      length-append (field_mac s response_head p ++ ciphertext s p) (144 ∷ 0 ∷ []),
      length-append (field_mac s response_head p) (ciphertext s p),
      mac-length s (response_head (length (ciphertext s p))) (ciphertext s p),
      ciphertext-length s p,
    )

-- data of at most 223 bytes make a response of at most 242
pub sealed-most : (s : Session) (p : List ℕ) → length p ≤ 223 → length (sealed_response s p) ≤ 242
sealed-most s p h = omega (arith, sealed-length s p, padded-next (length p) 224 refl (omega arith))

-- ---- opening: at most 223 bytes
pub opened-most : (s : Session) (head : ℕ → List ℕ) (field d : List ℕ) → open_field s head field ≡ some d → length d ≤ 223
unfolding open_field
opened-most s head field d e =
    let form = provided-some (field_form (length field)) _ d e in
    let most = (form-is (length field) form).high in
    let inner = sym (provided-is (field_form (length field)) _ form) ∙ e in
    let mac = provided-some (same_bytes (mac_of s (head (length field - 16)) (drop 16 field)) (take 16 field)) _ d inner in
    let plain = cbc_decrypt (inv_aes256 s.enc_key) s.iv (drop 16 field) in
    let unpads = sym (provided-is _ (unpad plain) mac) ∙ inner in
    omega (
      arith,
      most,
      unpad-shorter d plain unpads,
      padded-larger (length d),
      decrypted-length s.enc_key s.iv (drop 16 field),
      length-drop 16 field,
    )
