-- The tap read, proved from the places of the tap record in a record that READ takes.
-- Assumes nothing.
use mathlib.Core.Path.{◌≡◌, refl, sym, ap, ◌∙◌}
use mathlib.Core.Bool.{Bool, true, false}
use mathlib.Core.List.{List, []}
use Prim.Native.Nat.{ℕ}
use native.Mathlib.Omega.{arith}
use lib.Dec.{leb}
use lib.ListN.{length}
use lib.Seq.{take_all}
use mathlib.Core.Logic.{⊎_elim}
use borrow.Author.Tests.{eqb-true, eqb-false, leb-true}
use Rattle.card.specs.declared.Tap.{Tap}
use Rattle.card.specs.declared.Card.{Card}
use Rattle.card.specs.State.{reset_of, tap_of, tap_bytes, with_tap}
use Rattle.card.specs.Slots.{is_zero}
use Rattle.card.specs.Shape.{Shaped}
use Rattle.card.specs.Sound.{is_ndef, is_sound}
use Rattle.card.proofs.TapFacts.{ndef-rules, tap-of-data, tap-of-sound, tap-of-length}
use Rattle.sound.specs.declared.Answer.{Answer}
use Rattle.sound.specs.Reset.{done}
use Rattle.record_rules.specs.Fields.{record_of}
use Rattle.record_rules.specs.Forms.{forms, InForm}
use Rattle.record_rules.specs.Answers.{read_answer}
use Rattle.record_rules.proofs.ReadFacts.{read-in-form, record-in-form, read-cases}
use Rattle.record_tap.specs.declared.TapPlace.{TapPlace}
use Rattle.record_tap.specs.declared.TapPlace.TheVariants as place
use Rattle.record_tap.specs.Tap.{tap_place, part_at, tap_part}
use Rattle.record_tap.proofs.PlaceFacts.{place-nowhere, place-factory, place-own, part-nowhere, part-tap, part_none, field-tap}
use Rattle.library_calls.specs.Tapped.{tapped_of}
use Rattle.laws_commands.proofs.Parts.{after-init, tap-kept, tap-shaped}
use Rattle.claims.specs.TapReads.{Gives, named, TapReads}

-- ---- what is told is READ's refusal
told-zero : (s : List ℕ) (n : ℕ) → (read_answer s).refusal ≡ 0 → (tapped_of (tap_place s) n).refusal ≡ 0
unfolding tapped_of
told-zero s n h = by_length (is_zero (read_answer s).card.tap.len) refl
  where
    by_length : (b : Bool) → is_zero (read_answer s).card.tap.len ≡ b → (tapped_of (tap_place s) n).refusal ≡ 0
    by_length true e = ap (λ p. (tapped_of p n).refusal) (sym (place-factory s h (eqb-true _ 0 e)))
    by_length false e = ap (λ p. (tapped_of p n).refusal) (sym (place-own s h (eqb-false _ 0 e)))

told-refused : (s : List ℕ) (n : ℕ) → (read_answer s).refusal ≡ 8 → (tapped_of (tap_place s) n).refusal ≡ 8
unfolding tapped_of
told-refused s n h = ap (λ p. (tapped_of p n).refusal) (sym (place-nowhere s (λ z. eight (sym h ∙ z))))
  where
    eight : ◌≡◌ {A = ℕ} 8 0 → ⊥
    eight p = omega arith

-- ---- the record of a sound card
module _ (s f : List ℕ) (c : Card) (w : Shaped c) (e : is_sound c ≡ true) (r : InForm s c forms) where
  answer-is : read_answer s ≡ done (reset_of c)
  answer-is = read-in-form s c w e r

  is_read : (read_answer s).refusal ≡ 0
  is_read = ap (λ (a : Answer). a.refusal) answer-is

  tap-is : (read_answer s).card.tap ≡ c.tap
  tap-is = ap (λ (a : Answer). a.card.tap) answer-is

  taps : Gives s c f
  taps = record {
    own = λ n. part-tap s f is_read (λ z. n (sym (ap (λ (t : Tap). t.len) tap-is) ∙ z)) ∙ ap tap_bytes tap-is;
    factory = λ z. part_none s f is_read (ap (λ (t : Tap). t.len) tap-is ∙ z);
    field = field-tap s f is_read ∙ ap tap_bytes tap-is;
    told = λ n. told-zero s n is_read;
  }

-- ---- what SET NDEF stores
stored_back : (c : Card) (d f : List ℕ) → Shaped c → is_sound c ≡ true → c.initialised ≡ 1 → is_ndef d ≡ true
    → tap_part (record_of (with_tap c (tap_of d))) f ≡ d
stored_back c d f w e i n =
    let sound = tap-kept c (after-init c e (rw i)) (tap_of d) (tap-of-sound d n) in
    let shaped = tap-shaped c w (tap_of d) (tap-of-length d n) in
    (taps (record_of (with_tap c (tap_of d))) f (with_tap c (tap_of d)) shaped sound (record-in-form (with_tap c (tap_of d)))).own (λ z. short (ndef-rules d n).least z)
    ∙ tap-of-data d
  where
    short : leb 2 (length d) ≡ true → length d ≡ 0 → ⊥
    short l z = omega (arith, leb-true 2 (length d) l, z)

told-read : (s : List ℕ) (n : ℕ) → (tapped_of (tap_place s) n).refusal ≡ (read_answer s).refusal
told-read s n = ⊎_elim
    (λ t. let h = ap (λ (a : Answer). a.refusal) t.0 in told-zero s n h ∙ sym h)
    (λ e. let h = ap (λ (a : Answer). a.refusal) e in told-refused s n h ∙ sym h)
    (read-cases s)

-- ---- the part that the report of a place names
placed_at : (s f : List ℕ) (p : TapPlace) → named (tapped_of p (length f)) s f ≡ part_at p s f
unfolding tapped_of part_at
placed_at s f place.Nowhere = refl
placed_at s f (place.Own start count) = refl
placed_at s f place.Factory = take_all (length f) f (omega arith)

pub tap-reads : TapReads
tap-reads = record {
  taken = taps;
  stored = stored_back;
  example = refl;
  refused = λ s f h. sym (part-nowhere s f (place-nowhere s (λ z. eight-zero (sym h ∙ z))));
  told = told-read;
  placed = λ s f. placed_at s f (tap_place s);
}
  where
    eight-zero : ◌≡◌ {A = ℕ} 8 0 → ⊥
    eight-zero p = omega arith
