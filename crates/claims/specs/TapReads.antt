-- The tap read (RULES 10.7): of the record of a sound card, in whichever form, it is the card's tap record, which is field 34's content, or the
-- factory record exactly where the card has none; of other bytes it is empty, and the call beside it answers 8. Every length is in bytes.
use Rattle.std.specs.Prelude.{ℕ, ◌≡◌, true, cond, List, [], ◌∷◌, eqb, length, take, drop}
use Rattle.card.specs.declared.Card.{Card}
use Rattle.card.specs.State.{tap_of, tap_bytes, with_tap}
use Rattle.card.specs.Shape.{Shaped}
use Rattle.card.specs.Sound.{is_ndef, is_sound}
use Rattle.record_rules.specs.Fields.{record_of}
use Rattle.record_rules.specs.Parse.{field34, content}
use Rattle.record_rules.specs.Forms.{forms, InForm}
use Rattle.record_rules.specs.Answers.{read_answer}
use Rattle.record_tap.specs.Tap.{tap_place, tap_part}
use Rattle.library_calls.specs.declared.Tapped.{Tapped}
use Rattle.library_calls.specs.Tapped.{tapped_of}

-- of the bytes s, which are the record of the card c, and of any factory record f
pub record Gives (s : List ℕ) (c : Card) (f : List ℕ) : Type 0 where
  pub own : (c.tap.len ≡ 0 → ⊥) → tap_part s f ≡ tap_bytes c.tap
  pub factory : c.tap.len ≡ 0 → tap_part s f ≡ f
  pub field : content s field34 ≡ tap_bytes c.tap
  pub told : (n : ℕ) → (tapped_of (tap_place s) n).refusal ≡ 0

-- the part that a report names: of the stored record s for source 1, of the factory record f for source 2, and nothing for any other
abbrev pub named : Tapped → List ℕ → List ℕ → List ℕ
named t s f =
    cond (eqb t.source 1) (take t.length (drop t.offset s))
    (cond (eqb t.source 2) (take t.length (drop t.offset f)) [])

pub record TapReads : Type 0 where
  pub taken : (s f : List ℕ) (c : Card) → Shaped c → is_sound c ≡ true → InForm s c forms → Gives s c f
  -- what SET NDEF stores, and be it 00 00
  pub stored : (c : Card) (d f : List ℕ) → Shaped c → is_sound c ≡ true → c.initialised ≡ 1 → is_ndef d ≡ true
      → tap_part (record_of (with_tap c (tap_of d))) f ≡ d
  pub example : is_ndef (0x00 ∷ 0x00 ∷ []) ≡ true
  pub refused : (s f : List ℕ) → (read_answer s).refusal ≡ 8 → tap_part s f ≡ []
  -- what is reported to C and Rust: READ's refusal, and the part by slice, offset and length
  pub told : (s : List ℕ) (n : ℕ) → (tapped_of (tap_place s) n).refusal ≡ (read_answer s).refusal
  pub placed : (s f : List ℕ) → named (tapped_of (tap_place s) (length f)) s f ≡ tap_part s f
