-- How many bytes the templates of specs/Answers.antt take.
-- Assumes nothing.
use mathlib.Core.Path.{◌≡◌, refl, sym, ap, ap₂, ◌∙◌}
use mathlib.Core.List.{List, [], ◌∷◌, ◌++◌, append_assoc}
use Prim.Native.Nat.{ℕ, ◌+◌, ◌≤◌}
use native.Mathlib.Omega.{arith}
use lib.ListN.{length, length-append}
use Rattle.template_rules.specs.Template.{field_head, field, field_bytes}
use Rattle.template_rules.specs.Der.{der_content, der_integer}
use Rattle.template_rules.proofs.HeadFacts.{field-length, short-field, field-bytes-short, field-bytes-le}
use Rattle.template_rules.proofs.DerFacts.{der-length}
use Rattle.template_answers.specs.Answers.{application_bytes, application_fields, pair, signature, exported_public, exported_pair}

-- ---- application_fields, application_info
five : (a b c d e : List ℕ) → length (a ++ b ++ c ++ d ++ e) ≡ length a + length b + length c + length d + length e
five a b c d e = simp length-append

pub application-length : (uid key : List ℕ) (free : ℕ) (key_uid : List ℕ)
    → length (application_fields uid key free key_uid) ≡ application_bytes (length uid) (length key) (length key_uid)
application-length uid key free key_uid =
    omega (
      arith,
      five (field 0x8F uid) (field 0x80 key) (field 0x02 (2 ∷ 0 ∷ [])) (field 0x02 (free ∷ [])) (field 0x8E key_uid),
      field-length 0x8F uid,
      field-length 0x80 key,
      field-length 0x8E key_uid,
    )

module _ (uid key key_uid : ℕ) (u : uid ≤ 16) (k : key ≤ 65) (j : key_uid ≤ 32) where
  application-bytes-is : application_bytes uid key key_uid ≡ uid + key + key_uid + 13
  application-bytes-is =
      omega
      (arith, field-bytes-short uid (omega arith), field-bytes-short key (omega arith), field-bytes-short key_uid (omega arith))

  pub application-bytes-le : application_bytes uid key key_uid ≤ 126
  application-bytes-le = omega (arith, application-bytes-is)

-- inner length 94 without a key, 126 with one (RULES 9.5)
pub application-bytes-none : application_bytes 16 65 0 ≡ 94
application-bytes-none = refl

pub application-bytes-key : application_bytes 16 65 32 ≡ 126
application-bytes-key = refl

-- ---- pair
pub integer-length : (n : List ℕ) → length n ≤ 32 → length (der_integer n) ≤ 35
integer-length n h =
    let l = der-length n in
    omega (arith, l.1, short-field 0x02 (der_content n) (omega (arith, l.1)))

pub pair-length : (r s : List ℕ) → length (pair r s) ≡ field_bytes (length (der_content r)) + field_bytes (length (der_content s))
pair-length r s =
    length-append (der_integer r) (der_integer s) ∙ ap₂ ◌+◌ (field-length 0x02 (der_content r)) (field-length 0x02 (der_content s))

pub pair-length-le : (r s : List ℕ) → length r ≤ 32 → length s ≤ 32 → length (pair r s) ≤ 70
pair-length-le r s p q = omega (arith, length-append (der_integer r) (der_integer s), integer-length r p, integer-length s q)

-- ---- signature
pub signature-bytes-le : (key both : ℕ) → key ≤ 65 → both ≤ 70 → field_bytes key + field_bytes both ≤ 139
signature-bytes-le key both k b = omega (arith, field-bytes-short key (omega arith), field-bytes-short both (omega arith))

pub signature-inner : (key r s : List ℕ)
    → length (field 0x80 key ++ field 0x30 (pair r s)) ≡ field_bytes (length key) + field_bytes (length (pair r s))
signature-inner key r s =
    length-append (field 0x80 key) (field 0x30 (pair r s)) ∙ ap₂ ◌+◌ (field-length 0x80 key) (field-length 0x30 (pair r s))

-- the parts of the sequence of r and s, and those of SIGN's answer, as they are written one after the other
pub pair_parts : (r s : List ℕ) (n : ℕ) → n ≡ length (pair r s)
    → field_head 0x30 n ++ der_integer r ++ der_integer s ≡ field 0x30 (pair r s)
pair_parts r s n e = append_assoc (field_head 0x30 n) (der_integer r) (der_integer s) ∙ ap (λ (k : ℕ). field_head 0x30 k ++ pair r s) e

pub signature-parts : (key r s : List ℕ) (n : ℕ) → n ≡ field_bytes (length key) + field_bytes (length (pair r s))
    → field_head 0xA0 n ++ field 0x80 key ++ field 0x30 (pair r s) ≡ signature key r s
signature-parts key r s n e =
    append_assoc (field_head 0xA0 n) (field 0x80 key) (field 0x30 (pair r s))
    ∙ ap (λ (k : ℕ). field_head 0xA0 k ++ (field 0x80 key ++ field 0x30 (pair r s))) (e ∙ sym (signature-inner key r s))

-- no answer to SIGN is longer than 142 bytes
pub signature-length-le : (key r s : List ℕ) → length key ≤ 65 → length r ≤ 32 → length s ≤ 32 → length (signature key r s) ≤ 142
signature-length-le key r s k p q =
    let inner = field 0x80 key ++ field 0x30 (pair r s) in
    let small = signature-bytes-le (length key) (length (pair r s)) k (pair-length-le r s p q) in
    omega (arith, field-length 0xA0 inner, field-bytes-le (length inner), signature-inner key r s, small)

-- ---- exported_public, exported_pair: inner length 67, or 101 with the private key (RULES 9.5)
pub exported-bytes-le : (key private : ℕ) → key ≤ 65 → private ≤ 32 → field_bytes key + field_bytes private ≤ 101
exported-bytes-le key private k p = omega (arith, field-bytes-short key (omega arith), field-bytes-short private (omega arith))

pub exported-inner : (key private : List ℕ)
    → length (field 0x80 key ++ field 0x81 private) ≡ field_bytes (length key) + field_bytes (length private)
exported-inner key private =
    length-append (field 0x80 key) (field 0x81 private) ∙ ap₂ ◌+◌ (field-length 0x80 key) (field-length 0x81 private)

-- the parts as they are written one after the other
pub exported-public-parts : (key : List ℕ) (n : ℕ) → n ≡ field_bytes (length key) → field_head 0xA1 n ++ field 0x80 key ≡ exported_public key
exported-public-parts key n e = ap (λ (k : ℕ). field_head 0xA1 k ++ field 0x80 key) (e ∙ sym (field-length 0x80 key))

pub exported-pair-parts : (key private : List ℕ) (n : ℕ) → n ≡ field_bytes (length key) + field_bytes (length private)
    → field_head 0xA1 n ++ field 0x80 key ++ field 0x81 private ≡ exported_pair key private
exported-pair-parts key private n e =
    append_assoc (field_head 0xA1 n) (field 0x80 key) (field 0x81 private)
    ∙ ap (λ (k : ℕ). field_head 0xA1 k ++ (field 0x80 key ++ field 0x81 private)) (e ∙ sym (exported-inner key private))

-- no answer to EXPORT is longer than 103 bytes
pub exported-public-length-le : (key : List ℕ) → length key ≤ 65 → length (exported_public key) ≤ 69
exported-public-length-le key k =
    let inner = field 0x80 key in
    let l = short-field 0x80 key (omega arith) in
    omega (arith, l, short-field 0xA1 inner (omega (arith, l)))

pub exported-pair-length-le : (key private : List ℕ) → length key ≤ 65 → length private ≤ 32 → length (exported_pair key private) ≤ 103
exported-pair-length-le key private k p =
    let inner = field 0x80 key ++ field 0x81 private in
    let small = exported-bytes-le (length key) (length private) k p in
    let l = exported-inner key private in
    omega (arith, l, small, short-field 0xA1 inner (omega (arith, l, small)))
