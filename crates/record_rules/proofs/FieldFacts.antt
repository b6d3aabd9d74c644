-- Facts about the bytes of fields: joined lists of fields, and the length of a field's bytes.
-- Assumes nothing.
use mathlib.Core.Path.{◌≡◌, refl, sym, ap, ◌∙◌}
use mathlib.Core.List.{List, [], ◌∷◌, ◌++◌, append_assoc, append-nil}
use Prim.Native.Nat.{ℕ, ◌+◌, ◌<◌}
use native.Mathlib.Numerals.{add-one}
use native.Mathlib.Omega.{arith}
use lib.ListN.{length, take, get_or, length-append}
use lib.Seq.{take-suc}
use Rattle.card.specs.declared.Slot.{Slot}
use Rattle.record_rules.specs.Fields.{Field, record_field, encode, encode_all, slots_bytes}
use Rattle.record_rules.specs.Lengths.{record_field_bytes}

-- ---- encode_all
pub encode-append : (fs gs : List Field) → encode_all (fs ++ gs) ≡ encode_all fs ++ encode_all gs
unfolding encode_all
encode-append [] gs = refl
encode-append (f ∷ fs) gs =
    ap (λ (x : List ℕ). encode f.tag f.content ++ x) (encode-append fs gs)
    ∙ sym (append_assoc (encode f.tag f.content) (encode_all fs) (encode_all gs))

pub encode_one : (t : ℕ) (x : List ℕ) → encode_all (record_field t x ∷ []) ≡ encode t x
unfolding encode_all
encode_one t x = append-nil (encode t x)

pub length-encode-one : (t : ℕ) (x : List ℕ) → length (encode_all (record_field t x ∷ [])) ≡ record_field_bytes (length x)
length-encode-one t x = ap length (encode_one t x) ∙ omega arith

-- how many bytes they are
abbrev pub total : List Field → ℕ
total [] = 0
total (f ∷ more) = record_field_bytes (length f.content) + total more

pub length-all : (fs : List Field) → length (encode_all fs) ≡ total fs
unfolding encode_all
length-all [] = refl
length-all (f ∷ fs) = omega (arith, length-append (encode f.tag f.content) (encode_all fs), length-all fs)

-- ---- slots_bytes
pub slots-append : (s t : List Slot) → slots_bytes (s ++ t) ≡ slots_bytes s ++ slots_bytes t
unfolding slots_bytes
slots-append [] t = refl
slots-append (x ∷ s) t =
    ap (λ (r : List ℕ). (x.filled ∷ x.key) ++ r) (slots-append s t)
    ∙ sym (append_assoc (x.filled ∷ x.key) (slots_bytes s) (slots_bytes t))

-- one slot more, at a place k
pub slots-suc : (s : List Slot) (k : ℕ) (d : Slot) → k < length s
    → slots_bytes (take (k + 1) s) ≡ slots_bytes (take k s) ++ ((get_or s k d).filled ∷ (get_or s k d).key)
unfolding slots_bytes
slots-suc s k d h =
    ap slots_bytes (ap (λ (n : ℕ). take n s) (add-one k) ∙ take-suc s k d h)
    ∙ slots-append (take k s) (get_or s k d ∷ [])
    ∙ ap (λ (r : List ℕ). slots_bytes (take k s) ++ r) (append-nil ((get_or s k d).filled ∷ (get_or s k d).key))
