-- Every template that a command answers, of values no longer than a card's, is the encoding of its trees; so WALK counts their leaves.
-- Assumes nothing.
use mathlib.Core.Path.{◌≡◌, refl, ap, ◌∙◌}
use mathlib.Core.Bool.{Bool}
use mathlib.Core.List.{List, [], ◌∷◌, ◌++◌, append_assoc, append-nil}
use Prim.Native.Nat.{ℕ, ◌≤◌, ◌<◌}
use native.Mathlib.Nat.{add-zero}
use native.Mathlib.Omega.{arith}
use lib.ListN.{length}
use Rattle.template_rules.specs.Template.{field}
use Rattle.template_rules.specs.Der.{der_integer}
use Rattle.template_rules.proofs.HeadFacts.{short-field}
use Rattle.template_rules.proofs.DerFacts.{der-length}
use Rattle.card.specs.State.{version}
use Rattle.template_answers.specs.Answers.{pre_initialised, application_fields, application_info, key_byte, status, pair, signature, exported_public, exported_pair}
use Rattle.template_answers.proofs.AnswerFacts.{application-length, application-bytes-le, pair-length-le, signature-bytes-le, signature-inner, exported-bytes-le, exported-inner}
use Rattle.laws_walk.specs.Trees.{Trees, none, leaf, template, encode, leaves, Lawful, Shallow, Encodes}
use Rattle.laws_walk.specs.Answers.{pre_initialised_trees, application_trees, status_trees, pair_trees, signature_trees, exported_public_trees, exported_pair_trees}

-- ---- one after the other, from the left and from the right
two : (a b : List ℕ) → a ++ (b ++ []) ≡ a ++ b
two a b = simp append-nil

three : (a b c : List ℕ) → a ++ (b ++ (c ++ [])) ≡ a ++ b ++ c
three a b c = simp (append_assoc, append-nil)

five : (a b c d e : List ℕ) → a ++ (b ++ (c ++ (d ++ (e ++ [])))) ≡ a ++ b ++ c ++ d ++ e
five a b c d e = simp (append_assoc, append-nil)

-- ---- a template that is alone at the top, whose trees are written as v
lone : (tag : ℕ) (is : Trees) (v : List ℕ) (n : ℕ) → Lawful (template tag is none) → Shallow 2 is → encode is ≡ v → leaves is ≡ n
    → Encodes (template tag is none) (field tag v) n
lone tag is v n l sh e c = record {
  lawful = l;
  shallow = (omega arith, sh, tt);
  encoded = append-nil (field tag (encode is)) ∙ ap (field tag) e;
  counted = add-zero (leaves is) ∙ c;
}

pub encodes-pre-initialised : (key : List ℕ) → length key < 256 → Encodes (pre_initialised_trees key) (pre_initialised key) 1
encodes-pre-initialised key h =
    record { lawful = (refl, h, tt); shallow = tt; encoded = append-nil (field 0x80 key); counted = refl }

pub encodes-application-info : (uid key : List ℕ) (free : ℕ) (key_uid : List ℕ) → length uid ≤ 16 → length key ≤ 65 → length key_uid ≤ 32
    → Encodes (application_trees uid key free key_uid) (application_info uid key free key_uid) 5
encodes-application-info uid key free key_uid u k j =
    let small = application-bytes-le (length uid) (length key) (length key_uid) u k j in
    let same = five (field 0x8F uid) (field 0x80 key) (field 0x02 version) (field 0x02 (free ∷ [])) (field 0x8E key_uid) in
    lone 0xA4 (leaf 0x8F uid (leaf 0x80 key (leaf 0x02 version (leaf 0x02 (free ∷ []) (leaf 0x8E key_uid none)))))
    (application_fields uid key free key_uid) 5 (
      refl,
      omega (arith, ap length same, application-length uid key free key_uid, small),
      (refl, omega arith, (refl, omega arith, (refl, omega arith, (refl, omega arith, (refl, omega arith, tt))))),
      tt,
    )
    tt same refl

pub encodes-status : (pin puk : ℕ) (key : Bool) → Encodes (status_trees pin puk key) (status pin puk key) 3
encodes-status pin puk key =
    lone 0xA3 (leaf 0x02 (pin ∷ []) (leaf 0x02 (puk ∷ []) (leaf 0x01 (key_byte key ∷ []) none)))
    (field 0x02 (pin ∷ []) ++ field 0x02 (puk ∷ []) ++ field 0x01 (key_byte key ∷ [])) 3
    (refl, omega arith, (refl, omega arith, (refl, omega arith, (refl, omega arith, tt))), tt)
    tt refl refl

pub encodes-signature : (key r s : List ℕ) → length key ≤ 65 → length r ≤ 32 → length s ≤ 32
    → Encodes (signature_trees key r s) (signature key r s) 3
encodes-signature key r s k p q =
    let both = pair-length-le r s p q in
    let small = signature-bytes-le (length key) (length (pair r s)) k both in
    let inner = two (der_integer r) (der_integer s) in
    let same = two (field 0x80 key) (field 0x30 (encode (pair_trees r s))) ∙ ap (λ (x : List ℕ). field 0x80 key ++ field 0x30 x) inner in
    lone 0xA0 (leaf 0x80 key (template 0x30 (pair_trees r s) none))
    (field 0x80 key ++ field 0x30 (pair r s)) 3 (
      refl,
      omega (arith, ap length same, signature-inner key r s, small),
      (
        refl,
        omega arith,
        (
          refl,
          omega (arith, ap length inner, both),
          (refl, omega (arith, (der-length r).1), (refl, omega (arith, (der-length s).1), tt)),
          tt,
        ),
      ),
      tt,
    )
    (omega arith, tt, tt) same refl

pub encodes-exported-public : (key : List ℕ) → length key ≤ 65 → Encodes (exported_public_trees key) (exported_public key) 1
encodes-exported-public key k =
    let same = append-nil (field 0x80 key) in
    lone 0xA1 (leaf 0x80 key none) (field 0x80 key) 1
    (refl, omega (arith, ap length same, short-field 0x80 key (omega arith)), (refl, omega arith, tt), tt)
    tt same refl

pub encodes-exported-pair : (key private : List ℕ) → length key ≤ 65 → length private ≤ 32
    → Encodes (exported_pair_trees key private) (exported_pair key private) 2
encodes-exported-pair key private k p =
    let small = exported-bytes-le (length key) (length private) k p in
    let same = two (field 0x80 key) (field 0x81 private) in
    lone 0xA1 (leaf 0x80 key (leaf 0x81 private none)) (field 0x80 key ++ field 0x81 private) 2
    (refl, omega (arith, ap length same, exported-inner key private, small), (refl, omega arith, (refl, omega arith, tt)), tt)
    tt same refl
