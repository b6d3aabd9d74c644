-- A field that was sealed opens to its data, and a field that opens is the sealing of its data: for every data length that a field holds.
-- Assumes nothing.
use mathlib.Core.Path.{◌≡◌, refl, sym, ap, ap₂, ◌∙◌}
use mathlib.Core.Bool.{Bool, true, false, ◌&&◌}
use mathlib.Core.List.{List, ◌++◌}
use mathlib.Core.Option.{Option, some}
use Prim.Native.Nat.{ℕ, ◌+◌, ◌-◌, ◌%◌, ◌≤◌}
use native.Mathlib.Omega.{arith}
use borrow.Author.Tests.{le-leb, leb-true, eq-eqb, eqb-true}
use lib.Dec.{leb, eqb}
use lib.ListN.{length, take, drop, length-append, length-drop, take-append-drop}
use lib.Seq.{take_at, drop_at}
use Rattle.refusals.specs.Refusals.{data_most}
use Rattle.octets.specs.Bytes.{Bytes, Block, same_bytes}
use Rattle.octets.proofs.Lists.{bytes-append, bytes_drop, same_refl, same-eq}
use Rattle.aes_rules.specs.Aes.{aes256, inv_aes256, Permutes}
use Rattle.aes_rules.proofs.Permutation.{aes-permutes}
use Rattle.aes_cbc.specs.Mode.{cbc_encrypt, cbc_decrypt}
use Rattle.aes_cbc.proofs.Laws.{length-cbc-encrypt, bytes-cbc-encrypt, length-cbc-decrypt, aes-cbc-decrypt-encrypt, aes-cbc-encrypt-decrypt, cbc-mac-block}
use Rattle.aes_padding.specs.Padding.{padded_bytes, pad, unpad}
use Rattle.aes_padding.proofs.Laws.{padded-whole, padded-larger, padded-next, length-pad, bytes-pad, unpad-pad, pad-unpad}
use Rattle.channel_rules.specs.declared.Session.{Session}
use Rattle.channel_rules.specs.Message.{Keyed, ciphertext, mac_of, field_mac, seal_field, field_form, provided, opened, open_field}

-- ---- tests
both : (a b : Bool) → a ≡ true → b ≡ true → (a && b) ≡ true
both a b p q = ap₂ ◌&&◌ p q

pub provided-some : (b : Bool) (x : Option (List ℕ)) (d : List ℕ) → provided b x ≡ some d → b ≡ true
provided-some true x d e = refl
provided-some false x d e = let z : ◌≡◌ {A = ℕ} 0 1 = cc in absurd (omega arith)

pub provided-is : (b : Bool) (x : Option (List ℕ)) → b ≡ true → provided b x ≡ x
provided-is b x e = ap (λ (t : Bool). provided t x) e

left : (a b : Bool) → (a && b) ≡ true → a ≡ true
left true b e = refl
left false b e = e

right : (a b : Bool) → (a && b) ≡ true → b ≡ true
right true b e = e
right false b e = let z : ◌≡◌ {A = ℕ} 0 1 = cc in absurd (omega arith)

-- ---- field_form
pub form_of : (n : ℕ) → 32 ≤ n → n ≤ 240 → n % 16 ≡ 0 → field_form n ≡ true
form_of n l h w = both (leb 32 n && leb n 240) (eqb (n % 16) 0) (both (leb 32 n) (leb n 240) (le-leb 32 n l) (le-leb n 240 h)) (eq-eqb (n % 16) 0 w)

pub record Form (n : ℕ) : Type 0 where
  pub low : 32 ≤ n
  pub high : n ≤ 240
  pub whole : n % 16 ≡ 0

pub form-is : (n : ℕ) → field_form n ≡ true → Form n
form-is n e =
    let p : (leb 32 n && leb n 240) ≡ true = left (leb 32 n && leb n 240) (eqb (n % 16) 0) e in
    record {
      low = leb-true 32 n (left (leb 32 n) (leb n 240) p);
      high = leb-true n 240 (right (leb 32 n) (leb n 240) p);
      whole = eqb-true (n % 16) 0 (right (leb 32 n && leb n 240) (eqb (n % 16) 0) e);
    }

module _ (s : Session) (k : Keyed s) where
  enc : Permutes (aes256 s.enc_key) (inv_aes256 s.enc_key)
  enc = aes-permutes s.enc_key k.enc

  -- ---- ciphertext
  module _ (d : List ℕ) (hd : Bytes d) where
    padded-is-whole : length (pad d) % 16 ≡ 0
    padded-is-whole = ap (λ (n : ℕ). n % 16) (length-pad d) ∙ padded-whole (length d)

    pub length-ciphertext : length (ciphertext s d) ≡ padded_bytes (length d)
    unfolding ciphertext
    length-ciphertext =
        length-cbc-encrypt (aes256 s.enc_key) (inv_aes256 s.enc_key) enc s.iv (pad d) k.iv (bytes-pad d hd) padded-is-whole ∙ length-pad d

    pub bytes-ciphertext : Bytes (ciphertext s d)
    unfolding ciphertext
    bytes-ciphertext =
        bytes-cbc-encrypt (aes256 s.enc_key) (inv_aes256 s.enc_key) enc s.iv (pad d) k.iv (bytes-pad d hd) padded-is-whole

    pub decrypted : cbc_decrypt (inv_aes256 s.enc_key) s.iv (ciphertext s d) ≡ pad d
    unfolding ciphertext
    decrypted = aes-cbc-decrypt-encrypt s.enc_key s.iv (pad d) k.enc k.iv (bytes-pad d hd) padded-is-whole

  -- ---- mac_of
  pub mac-block : (head c : List ℕ) → Block head → Bytes c → length c % 16 ≡ 0 → Block (mac_of s head c)
  unfolding mac_of
  mac-block head c hh hc whole =
      cbc-mac-block (aes256 s.mac_key) (inv_aes256 s.mac_key) (aes-permutes s.mac_key k.mac) (head ++ c)
      (bytes-append head c hh.bytes hc) (omega (arith, length-append head c, hh.long))

  -- ---- what was sealed opens
  module _ (head : ℕ → List ℕ) (d : List ℕ) (hd : Bytes d) (hh : Block (head (length (ciphertext s d)))) where
    whole : length (ciphertext s d) % 16 ≡ 0
    whole = ap (λ (n : ℕ). n % 16) (length-ciphertext d hd) ∙ padded-whole (length d)

    pub field-mac-block : Block (field_mac s head d)
    field-mac-block = mac-block (head (length (ciphertext s d))) (ciphertext s d) hh (bytes-ciphertext d hd) whole

    pub length-field : length (seal_field s head d) ≡ 16 + padded_bytes (length d)
    unfolding seal_field
    length-field = omega (arith, length-append (field_mac s head d) (ciphertext s d), field-mac-block.long, length-ciphertext d hd)

    pub bytes-field : Bytes (seal_field s head d)
    unfolding seal_field
    bytes-field = bytes-append (field_mac s head d) (ciphertext s d) field-mac-block.bytes (bytes-ciphertext d hd)

    pub take-field : take 16 (seal_field s head d) ≡ field_mac s head d
    unfolding seal_field
    take-field = take_at (field_mac s head d) (ciphertext s d) 16 field-mac-block.long

    pub drop-field : drop 16 (seal_field s head d) ≡ ciphertext s d
    unfolding seal_field
    drop-field = drop_at (field_mac s head d) (ciphertext s d) 16 field-mac-block.long

    pub open-seal : length d ≤ data_most → open_field s head (seal_field s head d) ≡ some d
    unfolding open_field
    open-seal short =
        let f : List ℕ = seal_field s head d in
        let c : List ℕ = ciphertext s d in
        let n : length f - 16 ≡ length c = omega (arith, length-field, length-ciphertext d hd) in
        provided-is (field_form (length f)) (opened s (head (length f - 16)) f)
        (form_of (length f) (omega (arith, length-field, padded-larger (length d), padded-whole (length d)))
        (omega (arith, length-field, padded-next (length d) 224 refl (omega arith))) (omega (arith, length-field, padded-whole (length d))))
        ∙ ap₂ (λ (m : ℕ) (y : List ℕ). provided (same_bytes (mac_of s (head m) y) (take 16 f)) (unpad (cbc_decrypt (inv_aes256 s.enc_key) s.iv y))) n drop-field
        ∙ ap (λ (x : List ℕ). provided (same_bytes (field_mac s head d) x) (unpad (cbc_decrypt (inv_aes256 s.enc_key) s.iv c))) take-field
        ∙ provided-is (same_bytes (field_mac s head d) (field_mac s head d)) (unpad (cbc_decrypt (inv_aes256 s.enc_key) s.iv c)) (same_refl (field_mac s head d))
        ∙ ap unpad (decrypted d hd)
        ∙ unpad-pad d

  -- ---- what opens was sealed
  module _ (head : ℕ → List ℕ) (f d : List ℕ) (hf : Bytes f) (e : open_field s head f ≡ some d) where
    well-formed : Form (length f)
    unfolding open_field
    well-formed = form-is (length f) (provided-some (field_form (length f)) (opened s (head (length f - 16)) f) d e)

    inner : opened s (head (length f - 16)) f ≡ some d
    unfolding open_field
    inner =
        sym (provided-is (field_form (length f)) (opened s (head (length f - 16)) f) (provided-some (field_form (length f)) (opened s (head (length f - 16)) f) d e)) ∙ e

    abbrev mac-test : Bool
    mac-test = same_bytes (mac_of s (head (length f - 16)) (drop 16 f)) (take 16 f)

    abbrev plain : List ℕ
    plain = cbc_decrypt (inv_aes256 s.enc_key) s.iv (drop 16 f)

    pub genuine : mac_of s (head (length f - 16)) (drop 16 f) ≡ take 16 f
    genuine = same-eq (mac_of s (head (length f - 16)) (drop 16 f)) (take 16 f) (provided-some mac-test (unpad plain) d inner)

    plain-is : plain ≡ pad d
    plain-is = pad-unpad d plain (sym (provided-is mac-test (unpad plain) (provided-some mac-test (unpad plain) d inner)) ∙ inner)

    rest-whole : length (drop 16 f) % 16 ≡ 0
    rest-whole = omega (arith, length-drop 16 f, well-formed.low, well-formed.whole)

    rest-is : drop 16 f ≡ ciphertext s d
    unfolding ciphertext
    rest-is =
        sym (aes-cbc-encrypt-decrypt s.enc_key s.iv (drop 16 f) k.enc k.iv (bytes_drop 16 f hf) rest-whole)
        ∙ ap (cbc_encrypt (aes256 s.enc_key) s.iv) plain-is

    pub seal-open : f ≡ seal_field s head d
    unfolding seal_field
    seal-open =
        sym (take-append-drop 16 f)
        ∙ ap₂ (λ (x y : List ℕ). x ++ y) (sym genuine ∙ ap₂ (λ (m : ℕ) (y : List ℕ). mac_of s (head m) y) (sym (length-drop 16 f) ∙ ap length rest-is) rest-is) rest-is

    pub opened-short : length d ≤ data_most
    opened-short =
        let l : length (pad d) ≡ length (drop 16 f) = ap length (sym plain-is)
        ∙ length-cbc-decrypt (aes256 s.enc_key) (inv_aes256 s.enc_key) enc s.iv (drop 16 f) k.iv (bytes_drop 16 f hf) rest-whole in
        omega (arith, length-pad d, padded-larger (length d), length-drop 16 f, well-formed.high)
