-- CBC over a joined to b, both whole blocks: it is CBC over a, and then over b from the last ciphertext block of a on, or from the first IV where
-- a is empty.
-- Assumes nothing.
use mathlib.Core.Path.{◌≡◌, refl, sym, ap, ap₂, ◌∙◌}
use mathlib.Core.List.{List, [], ◌∷◌, ◌++◌, append-nil, append_assoc}
use Prim.Native.Nat.{ℕ, zero, suc, ◌+◌, ◌*◌, ◌/◌, ◌%◌, ◌≤◌}
use native.Mathlib.Omega.{arith}
use lib.ListN.{length, take, drop, length-append, length-drop, take-append-drop}
use lib.Seq.{drop_at, take-append-le, drop-append-le, length-take-le}
use Rattle.octets.specs.Bytes.{Bytes, Block, xor_bytes}
use Rattle.octets.proofs.Lists.{bytes_drop, xor_block}
use Rattle.aes_rules.specs.Aes.{Permutes}
use Rattle.aes_cbc.specs.Mode.{chain, encrypt_block, decrypt_block, itself, cbc_encrypt, cbc_decrypt, last_block}
use Rattle.aes_cbc.proofs.Chains.{first_block, chained, chain-cut}
use Rattle.aes_cbc.proofs.Mac.{last-block-behind}

-- ---- a chain over the blocks of a does not look past them
module _ (out next : List ℕ → List ℕ → List ℕ) where
  chain-front : (n : ℕ) (prev a b : List ℕ) → length a ≡ n * 16 → chain out next n prev (a ++ b) ≡ chain out next n prev a
  chain-front zero prev a b l = refl
  chain-front (suc n) prev a b l =
      ap₂ (λ (x y : List ℕ). out prev x ++ chain out next n (next prev x) y) (take-append-le 16 a b (omega (arith, l))) (drop-append-le 16 a b (omega (arith, l)))
      ∙ ap (λ (y : List ℕ). out prev (take 16 a) ++ y)
      (chain-front n (next prev (take 16 a)) (drop 16 a) b (omega (arith, length-drop 16 a, l)))

  chained-front : (n : ℕ) (prev a b : List ℕ) → length a ≡ n * 16 → chained out next n prev (a ++ b) ≡ chained out next n prev a
  chained-front zero prev a b l = refl
  chained-front (suc n) prev a b l =
      ap₂ (λ (x y : List ℕ). chained out next n (next prev x) y) (take-append-le 16 a b (omega (arith, l))) (drop-append-le 16 a b (omega (arith, l)))
      ∙ chained-front n (next prev (take 16 a)) (drop 16 a) b (omega (arith, length-drop 16 a, l))

  chain-joined : (n m : ℕ) (prev a b : List ℕ) → length a ≡ n * 16
      → chain out next (n + m) prev (a ++ b) ≡ chain out next n prev a ++ chain out next m (chained out next n prev a) b
  chain-joined n m prev a b l =
      chain-cut out next n m prev (a ++ b)
      ∙ ap₂ (λ (x y : List ℕ). x ++ chain out next m y (drop (n * 16) (a ++ b))) (chain-front n prev a b l) (chained-front n prev a b l)
      ∙ ap (λ (y : List ℕ). chain out next n prev a ++ chain out next m (chained out next n prev a) y) (drop_at a b (n * 16) l)

-- ---- whole blocks
blocks-joined : (a b : List ℕ) → length a % 16 ≡ 0 → length b % 16 ≡ 0 → length (a ++ b) / 16 ≡ length a / 16 + length b / 16
blocks-joined a b wa wb = omega (arith, length-append a b)

-- ---- encrypting: the next block is chained to the last block that was written
module _ (ciph inv : List ℕ → List ℕ) (p : Permutes ciph inv) where
  encrypted-last : (n : ℕ) (prev a : List ℕ) → Block prev → Bytes a → n * 16 ≤ length a
      → chained (encrypt_block ciph) (encrypt_block ciph) n prev a ≡ last_block prev (chain (encrypt_block ciph) (encrypt_block ciph) n prev a)
  unfolding last_block
  encrypted-last zero prev a hp ha l = sym (append-nil prev)
  encrypted-last (suc n) prev a hp ha l =
      let x : List ℕ = take 16 a in
      let c : List ℕ = encrypt_block ciph prev x in
      let hc : Block c = p.block (xor_bytes x prev) (xor_block x prev (first_block a ha (omega arith)) hp.bytes) in
      encrypted-last n c (drop 16 a) hc (bytes_drop 16 a ha) (omega (arith, length-drop 16 a))
      ∙ sym (last-block-behind prev c (chain (encrypt_block ciph) (encrypt_block ciph) n c (drop 16 a)) hp.long hc.long)

  pub encrypt-joined : (iv a b : List ℕ) → Block iv → Bytes a → length a % 16 ≡ 0 → length b % 16 ≡ 0
      → cbc_encrypt ciph iv (a ++ b) ≡ cbc_encrypt ciph iv a ++ cbc_encrypt ciph (last_block iv (cbc_encrypt ciph iv a)) b
  unfolding cbc_encrypt
  encrypt-joined iv a b hi ha wa wb =
      let e : List ℕ → List ℕ → List ℕ = encrypt_block ciph in
      let n : ℕ = length a / 16 in
      ap (λ (k : ℕ). chain e e k iv (a ++ b)) (blocks-joined a b wa wb)
      ∙ chain-joined e e n (length b / 16) iv a b (omega arith)
      ∙ ap (λ (y : List ℕ). chain e e n iv a ++ chain e e (length b / 16) y b) (encrypted-last n iv a hi ha (omega arith))

-- ---- decrypting: the next block is chained to the last block that was read
decrypted-last : (inv : List ℕ → List ℕ) (n : ℕ) (prev a : List ℕ) → length prev ≡ 16 → length a ≡ n * 16
    → chained (decrypt_block inv) itself n prev a ≡ last_block prev a
unfolding last_block
decrypted-last inv zero prev [] hp l = sym (append-nil prev)
decrypted-last inv zero prev (x ∷ a) hp l = absurd (omega (arith, l))
decrypted-last inv (suc n) prev a hp l =
    decrypted-last inv n (take 16 a) (drop 16 a) (length-take-le 16 a (omega (arith, l))) (omega (arith, length-drop 16 a, l))
    ∙ sym (last-block-behind prev (take 16 a) (drop 16 a) hp (length-take-le 16 a (omega (arith, l))))
    ∙ ap (last_block prev) (take-append-drop 16 a)

pub decrypt-joined : (inv : List ℕ → List ℕ) (iv a b : List ℕ) → length iv ≡ 16 → length a % 16 ≡ 0 → length b % 16 ≡ 0
    → cbc_decrypt inv iv (a ++ b) ≡ cbc_decrypt inv iv a ++ cbc_decrypt inv (last_block iv a) b
unfolding cbc_decrypt
decrypt-joined inv iv a b hi wa wb =
    let d : List ℕ → List ℕ → List ℕ = decrypt_block inv in
    let n : ℕ = length a / 16 in
    ap (λ (k : ℕ). chain d itself k iv (a ++ b)) (blocks-joined a b wa wb)
    ∙ chain-joined d itself n (length b / 16) iv a b (omega arith)
    ∙ ap (λ (y : List ℕ). chain d itself n iv a ++ chain d itself (length b / 16) y b) (decrypted-last inv n iv a hi (omega arith))

-- ---- last_block: the IV where there are no blocks, else the last 16 bytes
pub last-of-none : (iv : List ℕ) → last_block iv [] ≡ iv
unfolding last_block
last-of-none iv = append-nil iv

pub last-of-some : (iv a c : List ℕ) → length iv ≡ 16 → length c ≡ 16 → last_block iv (a ++ c) ≡ c
unfolding last_block
last-of-some iv a c hi hc =
    ap (drop (length (a ++ c))) (sym (append_assoc iv a c)) ∙ drop_at (iv ++ a) c (length (a ++ c)) (omega (arith, length-append iv a, length-append a c))
