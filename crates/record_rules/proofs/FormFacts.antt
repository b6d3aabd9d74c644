-- The forms of the record: what the test over a list of forms says; that the record of a card, in a form that holds it, describes that card
-- reset; and that it is renewed to what WRITE writes. The laws are over the form. Assumes nothing.
use mathlib.Core.Path.{◌≡◌, refl, sym, ap, ap₂, ◌∙◌}
use mathlib.Core.Bool.{Bool, true, false, ◌&&◌, ◌||◌, not, cond, false≢true}
use mathlib.Core.Logic.{⊎_elim}
use mathlib.Core.List.{List, [], ◌∷◌, ◌++◌, append_assoc}
use Prim.Native.Nat.{ℕ, suc, ◌*◌, ◌-◌}
use native.Mathlib.Omega.{arith}
use lib.Dec.{eqb}
use lib.ListN.{length, take, drop, length-append, take-append-drop}
use lib.Seq.{take_all, take-append_seam}
use borrow.Author.Tests.{eqb-true, not-true}
use Rattle.octets.specs.Bytes.{same_bytes}
use Rattle.octets.proofs.Lists.{same_refl, same-eq}
use Rattle.card.specs.declared.Card.{Card}
use Rattle.card.specs.Sizes.{slot_bytes, slot_count}
use Rattle.card.specs.State.{reset_of, tap_bytes}
use Rattle.card.specs.Shape.{Shaped}
use Rattle.card.specs.Slots.{all_of, some_of, is_zero, is_free}
use Rattle.card.specs.Sound.{is_sound}
use Rattle.card.proofs.Tests.{both, all_done}
use Rattle.card.proofs.Rules.{Before, After, sound-cases}
use Rattle.record_rules.specs.declared.Form.{Form}
use Rattle.record_rules.specs.Fields.{Field, record_field, encode, encode_all, slots_bytes, identity_fields, key_fields, slots_tag, tap_tag, tap_fields, owner_fields, fields_in, written_form, record_of}
use Rattle.record_rules.specs.Parse.{field24, behind, before, content, fit, card_of}
use Rattle.record_rules.specs.Forms.{slot_count_before, forms, is_written, leaves_nothing, holds, widened, ended, unless, renewed, is_in_form, Listed, first, later, InForm}
use Rattle.record_rules.proofs.FieldFacts.{encode-append, encode_one}
use Rattle.record_rules.proofs.ParseFacts.{first_content, content-all, behind-all}
use Rattle.record_rules.proofs.SlotFacts.{slots-fit}
use Rattle.record_rules.proofs.RecordFacts.{table, slots-sound, card-record}

-- ---- the test over a list of forms: some form of the list has the bytes as the card's record
module _ (s : List ℕ) (c : Card) where
  pub found : (fs : List Form) → some_of (is_in_form s c) fs ≡ true → InForm s c fs
  unfolding some_of
  found [] e = absurd (false≢true e)
  found (f ∷ fs) e = by_first (is_in_form s c f) refl e (found fs)
    where
      by_first : (b : Bool) → is_in_form s c f ≡ b → (b || some_of (is_in_form s c) fs) ≡ true
          → (some_of (is_in_form s c) fs ≡ true → InForm s c fs) → InForm s c (f ∷ fs)
      by_first true t h more =
          let p = both (holds f c) (same_bytes (encode_all (fields_in f c)) s) t in
          record { form = f; listed = first fs; held = p.0; bytes = same-eq (encode_all (fields_in f c)) s p.1 }
      by_first false t h more =
          let r = more h in
          record { form = r.form; listed = later f fs r.listed; held = r.held; bytes = r.bytes }

  finds : (f : Form) (fs : List Form) → Listed f fs → is_in_form s c f ≡ true → some_of (is_in_form s c) fs ≡ true
  unfolding some_of
  finds f fs (first more) e = rw e
  finds f fs (later g more l) e = by_first (is_in_form s c g) (finds f more l e)
    where
      by_first : (b : Bool) → some_of (is_in_form s c) more ≡ true → (b || some_of (is_in_form s c) more) ≡ true
      by_first true h = refl
      by_first false h = h

  pub passes : (fs : List Form) → InForm s c fs → some_of (is_in_form s c) fs ≡ true
  passes fs r = finds r.form fs r.listed (rw (r.held, r.bytes, same_refl s))

-- ---- what a form holds and writes of a card is what it holds and writes of the card reset
pub held-reset : (f : Form) (c : Card) → holds f (reset_of c) ≡ holds f c
unfolding holds
held-reset f c = refl

pub fields-reset : (f : Form) (c : Card) → fields_in f (reset_of c) ≡ fields_in f c
unfolding fields_in
fields-reset f c = refl

-- ---- a card that a form holds: the form is the one that WRITE writes, or the card is initialised; the slots that the form leaves out are free,
-- and where it has no field 34 there is no tap record
pub record Held (f : Form) (c : Card) : Type 0 where
  pub free : all_of is_free (drop f.slots c.pairing.slots) ≡ true
  pub untapped : f.tapped ≡ false → c.tap.len ≡ 0
  pub whole : is_zero c.initialised ≡ true → (f.slots ≡ slot_count) × (f.tapped ≡ true)

module _ (f : Form) (c : Card) where
  of-written : Shaped c → is_written f ≡ true → Held f c
  of-written w e =
      let p = both (eqb f.slots slot_count) f.tapped e in
      let n = eqb-true f.slots slot_count p.0 in
      record {
        free = all_done is_free c.pairing.slots f.slots (omega (arith, n, w.slots));
        untapped = λ z. absurd (false≢true (sym z ∙ p.1));
        whole = λ z. (n, p.1);
      }

  of_other : (not (is_zero c.initialised) && leaves_nothing f c) ≡ true → Held f c
  of_other e =
      let p = both (not (is_zero c.initialised)) (leaves_nothing f c) e in
      let q = both (all_of is_free (drop f.slots c.pairing.slots)) (f.tapped || is_zero c.tap.len) p.1 in
      record {
        free = q.0;
        untapped = λ z. eqb-true c.tap.len 0 (by-tapped f.tapped z q.1);
        whole = λ z. absurd (false≢true (sym (not-true (is_zero c.initialised) p.0) ∙ z));
      }
    where
      by-tapped : (b : Bool) → b ≡ false → (b || is_zero c.tap.len) ≡ true → is_zero c.tap.len ≡ true
      by-tapped true z h = absurd (false≢true (sym z))
      by-tapped false z h = h

  pub held : Shaped c → holds f c ≡ true → Held f c
  unfolding holds
  held w e = by_form (is_written f) refl e
    where
      by_form : (b : Bool) → is_written f ≡ b → (b || (not (is_zero c.initialised) && leaves_nothing f c)) ≡ true → Held f c
      by_form true t h = of-written w t
      by_form false t h = of_other h

-- ---- the first fields of a list
pub before-all : (fs : List Field) (k : ℕ) → before k (encode_all fs) ≡ encode_all (take k fs)
before-all fs k =
    let whole = ap encode_all (sym (take-append-drop k fs)) ∙ encode-append (take k fs) (drop k fs) in
    ap₂ (λ (n : ℕ) (s : List ℕ). take n s)
    {x = length (encode_all fs) - length (behind k (encode_all fs))}
    {y = length (encode_all (take k fs))}
    (omega (arith, ap length whole, length-append (encode_all (take k fs)) (encode_all (drop k fs)), ap length (behind-all fs k)))
    whole
    ∙ take-append_seam (encode_all (take k fs)) (encode_all (drop k fs))

pub widened-all : (fs : List Field)
    → widened (encode_all fs)
    ≡ encode_all (take field24 fs) ++ (encode slots_tag (fit (slot_bytes * slot_count) (first_content (drop field24 fs))) ++ encode_all (drop (suc field24) fs))
unfolding widened
widened-all fs = rw (before-all fs field24, content-all fs field24, behind-all fs (suc field24))

-- the fields of an initialised card
pub table-after : (f : Form) (c : Card) → After c → fields_in f c ≡ table f c
unfolding fields_in
table-after f c a = rw a.flag

-- ---- a card that a form holds, and its record in this form
module _ (f : Form) (c : Card) (w : Shaped c) (e : is_sound c ≡ true) (h : holds f c ≡ true) where
  -- it describes the card
  pub form-back : card_of (encode_all (fields_in f c)) ≡ reset_of c
  form-back = card-record f c w e (held f c w h).free (held f c w h).untapped

  -- renewed it is what WRITE writes: before INIT
  today-before : Before c → record_of c ≡ renewed f (encode_all (fields_in f c))
  unfolding record_of
  today-before b =
      let p = (held f c w h).whole (ap is_zero b.flag) in
      written f.slots f.tapped p.0 p.1
    where
      written : (n : ℕ) (t : Bool) → n ≡ slot_count → t ≡ true
          → record_of c ≡ renewed (record { slots = n; tapped = t }) (encode_all (fields_in (record { slots = n; tapped = t }) c))
      written n t p q = rw (p, q)

  -- after it: with all the slots
  abbrev full : Form
  full = record { slots = slot_count; tapped = f.tapped }

  slots-all : After c → slots_bytes (take slot_count c.pairing.slots) ≡ fit (slot_bytes * slot_count) (slots_bytes (take f.slots c.pairing.slots))
  slots-all a =
      ap slots_bytes (take_all slot_count c.pairing.slots (omega (arith, w.slots)))
      ∙ sym (slots-fit 1 f.slots slot_count c.pairing.slots w.keys (slots-sound c a) (held f c w h).free w.slots)

  widens : After c → encode_all (fields_in full c) ≡ unless (eqb f.slots slot_count) widened (encode_all (fields_in f c))
  unfolding encode_all
  widens a = by_slots (eqb f.slots slot_count) refl
    where
      by_slots : (b : Bool) → eqb f.slots slot_count ≡ b → encode_all (fields_in full c) ≡ unless b widened (encode_all (fields_in f c))
      by_slots true t =
          ap (λ (n : ℕ). encode_all (fields_in (record { slots = n; tapped = f.tapped }) c)) (sym (eqb-true f.slots slot_count t))
      by_slots false t =
          ap encode_all (table-after full c a)
          ∙ encode-append (take field24 (table f c)) (record_field slots_tag (slots_bytes (take slot_count c.pairing.slots)) ∷ drop (suc field24) (table f c))
          ∙ ap (λ (x : List ℕ). encode_all (take field24 (table f c)) ++ (encode slots_tag x ++ encode_all (drop (suc field24) (table f c)))) (slots-all a)
          ∙ sym (widened-all (table f c))
          ∙ sym (ap (λ (l : List Field). widened (encode_all l)) (table-after f c a))

  -- and with field 34
  ends : After c → record_of c ≡ unless f.tapped ended (encode_all (fields_in full c))
  unfolding record_of
  ends a = by-tapped f.tapped (held f c w h).untapped
    where
      by-tapped : (t : Bool) → (t ≡ false → c.tap.len ≡ 0)
          → record_of c ≡ unless t ended (encode_all (fields_in (record { slots = slot_count; tapped = t }) c))
      by-tapped true n = refl
      by-tapped false n =
          let g : Form = record { slots = slot_count; tapped = false } in
          ap encode_all (table-after written_form c a)
          ∙ encode-append (table g c) (tap_fields c.tap)
          ∙ ap₂ (λ (x y : List ℕ). x ++ y)
          (ap encode_all (sym (table-after g c a)))
          (encode_one tap_tag (tap_bytes c.tap) ∙ ap (λ (n : ℕ). encode tap_tag (take n c.tap.bytes)) (n refl))

  pub form-today : record_of c ≡ renewed f (encode_all (fields_in f c))
  form-today =
      ⊎_elim today-before (λ a. ends a ∙ ap (unless f.tapped ended) (widens a)) (sound-cases c e)

-- ---- what holds of each form of a list holds of one that is listed
module _ (P : Form → Type 0) where
  abbrev EachForm : List Form → Type 0
  EachForm [] = Unit {0}
  EachForm (f ∷ fs) = P f × EachForm fs

  pub of-each : (f : Form) (fs : List Form) → Listed f fs → EachForm fs → P f
  of-each f fs (first more) e = e.0
  of-each f fs (later g more l) e = of-each f more l e.1

-- ---- an initialised card without a tap record, whose slots past the first five are free: each form holds it
module _ (c : Card) (i : c.initialised ≡ 1) (z : c.tap.len ≡ 0) where
  holds_plain : (f : Form) → all_of is_free (drop f.slots c.pairing.slots) ≡ true → holds f c ≡ true
  unfolding holds
  holds_plain f free = rw (i, free, z) (either (is_written f) f.tapped)
    where
      either : (a b : Bool) → (a || (b || true)) ≡ true
      either true b = refl
      either false true = refl
      either false false = refl

  pub holds-each : (f : Form) → Listed f forms → all_of is_free (drop slot_count_before c.pairing.slots) ≡ true → Shaped c → holds f c ≡ true
  holds-each f l free w =
      let none = all_done is_free c.pairing.slots slot_count (omega (arith, w.slots)) in
      holds_plain f (of-each (λ (g : Form). all_of is_free (drop g.slots c.pairing.slots) ≡ true) f forms l (none, (none, (free, (free, tt)))))

-- ---- the record of a sound card, in whichever form, is that of the card reset, and describes it
module _ (s : List ℕ) (c : Card) (r : InForm s c forms) where
  pub reset-in-form : InForm s (reset_of c) forms
  reset-in-form = record {
    form = r.form;
    listed = r.listed;
    held = held-reset r.form c ∙ r.held;
    bytes = ap encode_all (fields-reset r.form c) ∙ r.bytes;
  }

  pub card-in-form : Shaped c → is_sound c ≡ true → card_of s ≡ reset_of c
  card-in-form w e = ap card_of (sym r.bytes) ∙ form-back r.form c w e r.held
