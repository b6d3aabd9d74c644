-- Field 34 in a record of a sound card, in whichever form: its content is the card's tap record, and, where that is not empty, it ends the
-- record. Assumes nothing.
use mathlib.Core.Path.{◌≡◌, refl, sym, ap, subst, ◌∙◌}
use mathlib.Core.Bool.{Bool, true, false}
use mathlib.Core.Logic.{⊎_elim}
use mathlib.Core.List.{List, [], ◌∷◌, ◌++◌, append_assoc}
use Prim.Native.Nat.{ℕ, ◌-◌, ◌/◌, ◌%◌, ◌≤◌}
use native.Mathlib.Omega.{arith}
use lib.ListN.{length, take, drop, length-append, take-append-drop}
use lib.Seq.{drop_at, take_all, length-take-le}
use borrow.Author.Tests.{eqb-true}
use Rattle.card.specs.declared.Card.{Card}
use Rattle.card.specs.State.{tap_bytes}
use Rattle.card.specs.Shape.{Shaped}
use Rattle.card.specs.Slots.{is_zero, all_zero}
use Rattle.card.specs.Sound.{is_sound}
use Rattle.card.proofs.Tests.{both}
use Rattle.card.proofs.Rules.{Before, After, blank-rules, sound-cases}
use Rattle.card.proofs.SoundFacts.{tap-length}
use Rattle.record_rules.specs.declared.Form.{Form}
use Rattle.record_rules.specs.Fields.{Field, encode, encode_all, tap_tag, tap_fields, fields_in}
use Rattle.record_rules.specs.Parse.{field34, behind, content, content_start}
use Rattle.record_rules.specs.Forms.{forms, holds, InForm}
use Rattle.record_rules.proofs.FieldFacts.{encode-append, encode_one}
use Rattle.record_rules.proofs.ParseFacts.{first_content, content-all, behind-all, behind-short}
use Rattle.record_rules.proofs.RecordFacts.{table}
use Rattle.record_rules.proofs.FormFacts.{held, table-after}

-- field 34 of the fields of a card: its content, and, where the card has a tap record, that field alone
record Ends (c : Card) (fs : List Field) : Type 0 where
  pub content : first_content (drop field34 fs) ≡ tap_bytes c.tap
  pub last : (c.tap.len ≡ 0 → ⊥) → drop field34 fs ≡ tap_fields c.tap

-- a card without a tap record, whose field 34 is not there
none : (c : Card) (fs : List Field) → c.tap.len ≡ 0 → drop field34 fs ≡ [] → Ends c fs
none c fs z e = record {
  content = ap first_content e ∙ ap (λ (n : ℕ). take n c.tap.bytes) (sym z);
  last = λ n. absurd (n z);
}

-- before INIT, and after it in a form that holds the card
module _ (f : Form) (c : Card) where
  ends-before : Before c → Ends c (fields_in f c)
  unfolding fields_in
  ends-before b =
      none c (fields_in f c)
      (eqb-true c.tap.len 0 (both (is_zero c.tap.len) (all_zero c.tap.bytes) (blank-rules c b.blank).tap).0)
      (rw b.flag)

  ends-after : After c → (f.tapped ≡ false → c.tap.len ≡ 0) → Ends c (fields_in f c)
  ends-after a h = subst (Ends c) (sym (table-after f c a)) (by-tapped f.tapped refl)
    where
      by-tapped : (b : Bool) → f.tapped ≡ b → Ends c (table f c)
      by-tapped true t = record { content = rw t; last = λ n. rw t }
      by-tapped false t = none c (table f c) (h t) (rw t)

  ends-in : Shaped c → is_sound c ≡ true → holds f c ≡ true → Ends c (fields_in f c)
  ends-in w e h = ⊎_elim ends-before (λ a. ends-after a (held f c w h).untapped) (sound-cases c e)

-- ---- bytes that are the record of a sound card
module _ (s : List ℕ) (c : Card) (w : Shaped c) (e : is_sound c ≡ true) (r : InForm s c forms) where
  ends : Ends c (fields_in r.form c)
  ends = ends-in r.form c w e r.held

  pub tap-content : content s field34 ≡ tap_bytes c.tap
  tap-content =
      ap (λ (l : List ℕ). content l field34) (sym r.bytes) ∙ content-all (fields_in r.form c) field34 ∙ ends.content

  pub tap-behind : (c.tap.len ≡ 0 → ⊥) → behind field34 s ≡ encode tap_tag (tap_bytes c.tap)
  tap-behind n =
      ap (λ (l : List ℕ). behind field34 l) (sym r.bytes) ∙ behind-all (fields_in r.form c) field34
      ∙ ap encode_all (ends.last n) ∙ encode_one tap_tag (tap_bytes c.tap)

  -- how long it is, and where it begins
  pub tap-long : length (content s field34) ≡ c.tap.len
  tap-long = ap length tap-content ∙ length-take-le c.tap.len c.tap.bytes (omega (arith, w.tap, tap-length c e))

  pub tap-start : (c.tap.len ≡ 0 → ⊥) → content_start s field34 ≡ length s - c.tap.len
  tap-start n =
      omega (arith, ap length (tap-behind n), ap length (sym tap-content), tap-long, behind-short s field34)

  pub tap-within : (c.tap.len ≡ 0 → ⊥) → c.tap.len ≤ length s
  tap-within n =
      omega (arith, ap length (tap-behind n), ap length (sym tap-content), tap-long, behind-short s field34)

  -- the record's last bytes
  tap-split : (c.tap.len ≡ 0 → ⊥) → s ≡ encode_all (take field34 (fields_in r.form c)) ++ encode tap_tag (tap_bytes c.tap)
  tap-split n =
      sym r.bytes
      ∙ ap encode_all (sym (take-append-drop field34 (fields_in r.form c)))
      ∙ encode-append (take field34 (fields_in r.form c)) (drop field34 (fields_in r.form c))
      ∙ ap (λ (x : List ℕ). encode_all (take field34 (fields_in r.form c)) ++ x) (ap encode_all (ends.last n) ∙ encode_one tap_tag (tap_bytes c.tap))

  pub tap-inside : (c.tap.len ≡ 0 → ⊥) → take c.tap.len (drop (length s - c.tap.len) s) ≡ tap_bytes c.tap
  tap-inside n = last-bytes (tap_bytes c.tap) (encode_all (take field34 (fields_in r.form c))) (tap-split n) (sym (ap length tap-content) ∙ tap-long)
    where
      last-bytes : (x front : List ℕ) → s ≡ front ++ encode tap_tag x → length x ≡ c.tap.len
          → take c.tap.len (drop (length s - c.tap.len) s) ≡ x
      last-bytes x front e l =
          let whole : s ≡ (front ++ (tap_tag ∷ length x / 256 ∷ length x % 256 ∷ [])) ++ x = e ∙ sym (append_assoc front (tap_tag ∷ length x / 256 ∷ length x % 256 ∷ []) x) in
          ap (take c.tap.len)
          (ap (drop (length s - c.tap.len)) whole
          ∙ drop_at (front ++ (tap_tag ∷ length x / 256 ∷ length x % 256 ∷ [])) x (length s - c.tap.len)
          (omega (arith, ap length whole, length-append (front ++ (tap_tag ∷ length x / 256 ∷ length x % 256 ∷ [])) x, l)))
          ∙ take_all c.tap.len x (omega (arith, l))
