-- Fields written one after the other are written as one list of fields.
-- Assumes nothing.
use mathlib.Core.Path.{◌≡◌, refl, sym, ap, ap₂, ◌∙◌}
use mathlib.Core.List.{List, [], ◌∷◌, ◌++◌}
use Prim.Native.Nat.{ℕ, ◌+◌, ◌*◌, ◌/◌, ◌%◌, ◌≤◌, ◌<◌}
use native.Mathlib.Omega.{arith}
use lib.ListN.{length, take, get_or, length-append}
use Rattle.octets.specs.Bytes.{overwrite}
use Rattle.octets.proofs.Lists.{overwrite-next, length-overwrite, take-overwrite}
use Rattle.card.specs.declared.Slot.{Slot}
use Rattle.card.specs.Sizes.{key_bytes, slot_bytes}
use Rattle.record_rules.specs.Lengths.{head_bytes}
use Rattle.record_rules.specs.Fields.{Field, record_field, encode_all, slots_bytes}
use Rattle.record_rules.proofs.FieldFacts.{encode-append, encode_one, length-encode-one, slots-suc}
use Rattle.record_fields.specs.Put.{Put}

-- ---- one field: its head and then its content
pub put_one : (t : ℕ) (x : List ℕ) (at : ℕ) (b m a : List ℕ) → at + head_bytes + length x ≤ length b
    → m ≡ overwrite b at (t ∷ length x / 256 ∷ length x % 256 ∷ []) → a ≡ overwrite m (at + head_bytes) x
    → Put (record_field t x ∷ []) at b (at + head_bytes + length x) a
put_one t x at b m a fits p q = record {
  place = omega (arith, length-encode-one t x);
  bytes =
      q ∙ ap (λ (l : List ℕ). overwrite l (at + head_bytes) x) p
      ∙ overwrite-next b at (at + head_bytes) (t ∷ length x / 256 ∷ length x % 256 ∷ []) x refl fits
      ∙ ap (overwrite b at) (sym (encode_one t x));
}

-- ---- two lists of fields
pub put_then : {fs gs : List Field} {at : ℕ} {b : List ℕ} {n : ℕ} {m : List ℕ} {r : ℕ} {a : List ℕ}
    → Put fs at b n m → Put gs n m r a → r ≤ length b → Put (fs ++ gs) at b r a
put_then {fs} {gs} {at} {b} {n} {m} {r} {a} p q fits = record {
  place = omega (arith, p.place, q.place, both_long);
  bytes =
      q.bytes ∙ ap (λ (l : List ℕ). overwrite l n (encode_all gs)) p.bytes
      ∙ overwrite-next b at n (encode_all fs) (encode_all gs) p.place (omega (arith, q.place))
      ∙ ap (overwrite b at) (sym (encode-append fs gs));
}
  where
    both_long : length (encode_all (fs ++ gs)) ≡ length (encode_all fs) + length (encode_all gs)
    both_long = ap length (encode-append fs gs) ∙ length-append (encode_all fs) (encode_all gs)

-- ---- the buffer keeps its length
pub put-length : {fs : List Field} {at : ℕ} {b : List ℕ} {r : ℕ} {a : List ℕ}
    → Put fs at b r a → r ≤ length b → length a ≡ length b
put-length {fs} {at} {b} {r} {a} p fits =
    ap length p.bytes ∙ length-overwrite b at (encode_all fs) (omega (arith, p.place))

-- ---- the slots' content: one slot more
pub slots_next : (s : List Slot) (k : ℕ) (d : Slot) (out m : List ℕ) → k < length s → length (get_or s k d).key ≡ key_bytes
    → slot_bytes * k + slot_bytes ≤ length out → take (slot_bytes * k) out ≡ slots_bytes (take k s)
    → m ≡ overwrite out (slot_bytes * k) ((get_or s k d).filled ∷ (get_or s k d).key)
    → take (slot_bytes * (k + 1)) m ≡ slots_bytes (take (k + 1) s)
slots_next s k d out m h long fits done put =
    ap₂ (λ (n : ℕ) (l : List ℕ). take n l) wide put
    ∙ take-overwrite out (slot_bytes * k) one (omega (arith, long))
    ∙ ap (λ (l : List ℕ). l ++ one) done
    ∙ sym (slots-suc s k d h)
  where
    one : List ℕ
    one = (get_or s k d).filled ∷ (get_or s k d).key

    wide : slot_bytes * (k + 1) ≡ slot_bytes * k + length one
    wide = omega (arith, long)
