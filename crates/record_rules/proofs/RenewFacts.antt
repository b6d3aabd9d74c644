-- What WRITE makes of a record of a sound card, form by form, in literal bytes. Assumes nothing.
use mathlib.Core.Path.{◌≡◌, refl, sym, ap, subst, ◌∙◌}
use mathlib.Core.Bool.{true, false}
use mathlib.Core.Logic.{⊎_elim}
use mathlib.Core.List.{List, [], ◌∷◌, ◌++◌, append_assoc}
use Prim.Native.Nat.{ℕ, suc, ◌*◌, ◌/◌, ◌%◌}
use native.Mathlib.Omega.{arith}
use lib.ListN.{length, take, drop, length-append}
use Rattle.card.specs.declared.Card.{Card}
use Rattle.card.specs.Sizes.{slot_bytes, slot_count}
use Rattle.card.specs.State.{zeros}
use Rattle.card.specs.Shape.{Shaped}
use Rattle.card.specs.Slots.{is_zero}
use Rattle.card.specs.Sound.{is_sound}
use Rattle.card.proofs.Rules.{After, sound-cases}
use Rattle.record_rules.specs.declared.Form.{Form}
use Rattle.record_rules.specs.Fields.{Field, record_field, encode, encode_all, slots_bytes, slots_tag, fields_in, record_of}
use Rattle.record_rules.specs.Parse.{field24, fit}
use Rattle.record_rules.specs.Forms.{slot_count_before, forms, holds, widened, renewed, Listed, InForm}
use Rattle.record_rules.specs.Renewal as made
use Rattle.record_rules.specs.Renewal.{Widened, Renewal}
use Rattle.record_rules.proofs.FieldFacts.{encode-append, length-all}
use Rattle.record_rules.proofs.ParseFacts.{fit-pad}
use Rattle.record_rules.proofs.SlotFacts.{slots-first}
use Rattle.record_rules.proofs.RecordFacts.{table, slots-sound}
use Rattle.record_rules.proofs.FormFacts.{held, widened-all, table-after, form-today, of-each}

-- a card that a form with five slots holds is initialised
after-before : (f : Form) (c : Card) → f.slots ≡ slot_count_before → Shaped c → is_sound c ≡ true → holds f c ≡ true → After c
after-before f c n w e h = ⊎_elim (λ b. absurd (five-eight (sym n ∙ ((held f c w h).whole (ap is_zero b.flag)).0))) (λ a. a) (sound-cases c e)
  where
    five-eight : slot_count_before ≡ slot_count → ⊥
    five-eight p = omega arith

-- ---- its record in a form with five slots, and with all of them
module _ (f : Form) (c : Card) (w : Shaped c) (e : is_sound c ≡ true) (h : holds f c ≡ true) (n : f.slots ≡ slot_count_before) where
  abbrev front : List ℕ
  front = encode_all (take field24 (table f c))

  abbrev slots : List ℕ
  slots = slots_bytes (take f.slots c.pairing.slots)

  abbrev back : List ℕ
  back = encode_all (drop (suc field24) (table f c))

  after : After c
  after = after-before f c n w e h

  place : length front ≡ 155
  place = length-all (take field24 (table f c)) ∙ omega (arith, w.uid, w.public_key, w.pin, w.puk, w.secret)

  long : length slots ≡ 165
  long =
      slots-first 1 f.slots slot_count c.pairing.slots w.keys (slots-sound c after) (held f c w h).free w.slots (omega (arith, n))
      ∙ ap (λ (k : ℕ). slot_bytes * k) n

  split : encode_all (fields_in f c) ≡ front ++ (0x24 ∷ 0x00 ∷ 0xA5 ∷ slots ++ back)
  unfolding encode_all
  split =
      ap encode_all (table-after f c after)
      ∙ encode-append (take field24 (table f c)) (record_field slots_tag slots ∷ drop (suc field24) (table f c))
      ∙ ap (λ (k : ℕ). front ++ (0x24 ∷ k / 256 ∷ k % 256 ∷ slots ++ back)) long

  filled : fit (slot_bytes * slot_count) slots ≡ slots ++ zeros 99
  filled = fit-pad slots 99 (slot_bytes * slot_count) (omega (arith, long))

  wide : widened (encode_all (fields_in f c)) ≡ front ++ (0x24 ∷ 0x01 ∷ 0x08 ∷ slots ++ (zeros 99 ++ back))
  wide =
      ap (λ (l : List Field). widened (encode_all l)) (table-after f c after)
      ∙ widened-all (table f c)
      ∙ ap (λ (x : List ℕ). front ++ (encode slots_tag x ++ back)) filled
      ∙ ap (λ (k : ℕ). front ++ (0x24 ∷ k / 256 ∷ k % 256 ∷ (slots ++ zeros 99) ++ back))
      {x = length (slots ++ zeros 99)}
      {y = 264}
      (omega (arith, long, length-append slots (zeros 99)))
      ∙ ap (λ (x : List ℕ). front ++ (0x24 ∷ 0x01 ∷ 0x08 ∷ x)) (append_assoc slots (zeros 99) back)

  widens : Widened (encode_all (fields_in f c)) (widened (encode_all (fields_in f c)))
  widens = record { front = front; slots = slots; back = back; place = place; long = long; old = split; new = wide }

-- ---- each of the forms
abbrev RenewsTo : Form → Type 0
RenewsTo f = (c : Card) → Shaped c → is_sound c ≡ true → holds f c ≡ true → Renewal (encode_all (fields_in f c)) (renewed f (encode_all (fields_in f c)))

each-form : (f : Form) → Listed f forms → RenewsTo f
each-form f l = of-each RenewsTo f forms l (
  λ c w e h. made.stays refl,
  (
    λ c w e h. made.tapped refl,
    (
      λ c w e h. made.widened (widens (record { slots = slot_count_before; tapped = true }) c w e h refl),
      (
        λ c w e h. made.both _ (widens (record { slots = slot_count_before; tapped = false }) c w e h refl) refl,
        tt,
      ),
    ),
  ),
)

pub renewal : (s : List ℕ) (c : Card) → Shaped c → is_sound c ≡ true → InForm s c forms → Renewal s (record_of c)
renewal s c w e r =
    let t = each-form r.form r.listed c w e r.held in
    subst (λ (x : List ℕ). Renewal x (record_of c)) r.bytes
    (subst (λ (x : List ℕ). Renewal (encode_all (fields_in r.form c)) x) (sym (form-today r.form c w e r.held)) t)
