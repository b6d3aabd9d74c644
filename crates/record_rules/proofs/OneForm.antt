-- Bytes are a card's record in one form alone: field 24's length tells how many slots it holds, and the record's end whether field 34 is there.
-- Assumes nothing.
use mathlib.Core.Path.{◌≡◌, refl, sym, ap, ap₂, ◌∙◌}
use mathlib.Core.Bool.{Bool, true, false, cond}
use mathlib.Core.Logic.{⊎_elim}
use mathlib.Core.List.{List, []}
use Prim.Native.Nat.{ℕ, ◌*◌, ◌≤◌}
use native.Mathlib.Omega.{arith}
use lib.ListN.{length, take}
use Rattle.card.specs.declared.Card.{Card}
use Rattle.card.specs.declared.Tap.{Tap}
use Rattle.card.specs.Sizes.{slot_bytes, slot_count}
use Rattle.card.specs.State.{tap_bytes}
use Rattle.card.specs.Shape.{Shaped}
use Rattle.card.specs.Slots.{is_zero}
use Rattle.card.specs.Sound.{is_sound}
use Rattle.card.proofs.Rules.{Before, After, sound-cases}
use Rattle.record_rules.specs.declared.Form.{Form}
use Rattle.record_rules.specs.Fields.{encode_all, slots_bytes, tap_tag, tap_fields, fields_in}
use Rattle.record_rules.specs.Parse.{field24, field34, behind, content}
use Rattle.record_rules.specs.Forms.{forms, holds, Listed}
use Rattle.record_rules.proofs.FieldFacts.{length-encode-one}
use Rattle.record_rules.proofs.ParseFacts.{content-all, behind-all}
use Rattle.record_rules.proofs.SlotFacts.{slots-first}
use Rattle.record_rules.proofs.RecordFacts.{table, slots-sound}
use Rattle.record_rules.proofs.FormFacts.{held, table-after, of-each}

-- no form has more slots than the card
pub form-slots : (f : Form) → Listed f forms → f.slots ≤ slot_count
form-slots f l = of-each (λ (g : Form). g.slots ≤ slot_count) f forms l (omega arith, (omega arith, (omega arith, (omega arith, tt))))

-- field 34 is there or not
tap-or-none : (t : Tap) (a b : Bool) → encode_all (cond a (tap_fields t) []) ≡ encode_all (cond b (tap_fields t) []) → a ≡ b
unfolding encode_all
tap-or-none t true true e = refl
tap-or-none t false false e = refl
tap-or-none t true false e = absurd (omega (arith, ap length e, length-encode-one tap_tag (tap_bytes t)))
tap-or-none t false true e = absurd (omega (arith, ap length e, length-encode-one tap_tag (tap_bytes t)))

module _ (c : Card) (w : Shaped c) (e : is_sound c ≡ true) where
  -- the length of field 24
  slots_length : (f : Form) → After c → holds f c ≡ true → f.slots ≤ slot_count
      → length (slots_bytes (take f.slots c.pairing.slots)) ≡ slot_bytes * f.slots
  slots_length f a h m =
      slots-first 1 f.slots slot_count c.pairing.slots w.keys (slots-sound c a) (held f c w h).free w.slots m

  module _ (f g : Form) (h : holds f c ≡ true) (k : holds g c ≡ true) where
    same-before : Before c → f ≡ g
    same-before b =
        let p = (held f c w h).whole (ap is_zero b.flag) in
        let q = (held g c w k).whole (ap is_zero b.flag) in
        ap₂ {C = Form} (λ (n : ℕ) (t : Bool). record { slots = n; tapped = t }) (p.0 ∙ sym q.0) (p.1 ∙ sym q.1)

    same_after : f.slots ≤ slot_count → g.slots ≤ slot_count → encode_all (fields_in f c) ≡ encode_all (fields_in g c) → After c → f ≡ g
    same_after m n p a =
        let q = ap encode_all (sym (table-after f c a)) ∙ p ∙ ap encode_all (table-after g c a) in
        let slots = sym (content-all (table f c) field24) ∙ ap (λ (s : List ℕ). content s field24) q ∙ content-all (table g c) field24 in
        let tapped = sym (behind-all (table f c) field34) ∙ ap (behind field34) q ∙ behind-all (table g c) field34 in
        ap₂ {C = Form} (λ (n : ℕ) (t : Bool). record { slots = n; tapped = t })
        {x = f.slots}
        {y = g.slots}
        (omega (arith, ap length slots, slots_length f a h m, slots_length g a k n))
        (tap-or-none c.tap f.tapped g.tapped tapped)

    pub same-form : f.slots ≤ slot_count → g.slots ≤ slot_count → encode_all (fields_in f c) ≡ encode_all (fields_in g c) → f ≡ g
    same-form m n p = ⊎_elim same-before (same_after m n p) (sound-cases c e)
