-- The three places of the tap record, by what READ gives, and that the part is within the record. Assumes nothing.
use mathlib.Core.Path.{◌≡◌, refl, sym, ap, subst, ◌∙◌}
use mathlib.Core.Bool.{Bool, true, false}
use mathlib.Core.List.{List, []}
use Prim.Native.Nat.{ℕ, ◌+◌, ◌-◌, ◌≤◌}
use native.Mathlib.Omega.{arith}
use lib.ListN.{length, take, drop}
use borrow.Author.Tests.{eqb-true, eqb-false, ne_eqb}
use Rattle.card.specs.State.{tap_bytes}
use Rattle.card.specs.Slots.{is_zero}
use Rattle.sound.specs.declared.Answer.{Answer}
use Rattle.record_rules.specs.Parse.{field34, content}
use Rattle.record_rules.specs.Answers.{read_answer}
use Rattle.record_rules.proofs.ReadFacts.{read-sound, read-shaped, read_taken}
use Rattle.record_rules.proofs.TapFacts.{tap-content, tap-long, tap-start, tap-within, tap-inside}
use Rattle.record_tap.specs.declared.TapPlace.{TapPlace}
use Rattle.record_tap.specs.declared.TapPlace.TheVariants as place
use Rattle.record_tap.specs.Tap.{tap_place, part_at, tap_part, LentFrom}

-- the end of a part of the record
abbrev end_of : TapPlace → ℕ
end_of place.Nowhere = 0
end_of (place.Own start count) = start + count
end_of place.Factory = 0

module _ (s : List ℕ) where
  -- READ refuses
  pub place-nowhere : ((read_answer s).refusal ≡ 0 → ⊥) → place.Nowhere ≡ tap_place s
  unfolding tap_place
  place-nowhere n = sym (rw (ne_eqb (read_answer s).refusal 0 n))

  module _ (h : (read_answer s).refusal ≡ 0) where
    abbrev len : ℕ
    len = (read_answer s).card.tap.len

    long : length (content s field34) ≡ len
    long = tap-long s (read_answer s).card (read-shaped s h) (read-sound s) (read_taken s h)

    pub own-within : (len ≡ 0 → ⊥) → len ≤ length s
    own-within n = tap-within s (read_answer s).card (read-shaped s h) (read-sound s) (read_taken s h) n

    -- READ takes: no tap record, and one
    pub place-factory : len ≡ 0 → place.Factory ≡ tap_place s
    unfolding tap_place
    place-factory z = sym (rw (h, long ∙ z))

    pub place-own : (len ≡ 0 → ⊥) → place.Own (length s - len) len ≡ tap_place s
    unfolding tap_place
    place-own n =
        sym (rw (h, long, ne_eqb len 0 n, tap-start s (read_answer s).card (read-shaped s h) (read-sound s) (read_taken s h) n))

  -- the part is within the record
  pub place-within : end_of (tap_place s) ≤ length s
  place-within = by-refusal (is_zero (read_answer s).refusal) refl
    where
      by_length : (h : (read_answer s).refusal ≡ 0) (b : Bool) → is_zero (read_answer s).card.tap.len ≡ b → end_of (tap_place s) ≤ length s
      by_length h true e = omega (arith, ap end_of (place-factory h (eqb-true _ 0 e)))
      by_length h false e =
          let n = eqb-false (read_answer s).card.tap.len 0 e in
          omega (arith, ap end_of (place-own h n), own-within h n)

      by-refusal : (b : Bool) → is_zero (read_answer s).refusal ≡ b → end_of (tap_place s) ≤ length s
      by-refusal true e = by_length (eqb-true (read_answer s).refusal 0 e) (is_zero (read_answer s).card.tap.len) refl
      by-refusal false e = omega (arith, ap end_of (place-nowhere (eqb-false (read_answer s).refusal 0 e)))

-- ---- the same, of READ's answer and of the number of bytes in use as code has them
module _ (s : List ℕ) (a : Answer) (e : a ≡ read_answer s) where
  same-refusal : a.refusal ≡ (read_answer s).refusal
  same-refusal = ap (λ (x : Answer). x.refusal) e

  same_len : a.card.tap.len ≡ (read_answer s).card.tap.len
  same_len = ap (λ (x : Answer). x.card.tap.len) e

  pub found_nowhere : (a.refusal ≡ 0 → ⊥) → place.Nowhere ≡ tap_place s
  found_nowhere n = place-nowhere s (λ z. n (same-refusal ∙ z))

  module _ (h : a.refusal ≡ 0) (n : ℕ) (l : n ≡ a.card.tap.len) where
    taken : (read_answer s).refusal ≡ 0
    taken = sym same-refusal ∙ h

    pub found-factory : n ≡ 0 → place.Factory ≡ tap_place s
    found-factory z = place-factory s taken (sym (l ∙ same_len) ∙ z)

    pub found_within : (n ≡ 0 → ⊥) → n ≤ length s
    found_within f = omega (arith, own-within s taken (λ z. f (l ∙ same_len ∙ z)), l ∙ same_len)

    pub found-own : (n ≡ 0 → ⊥) → place.Own (length s - n) n ≡ tap_place s
    found-own f =
        ap (λ (k : ℕ). place.Own (length s - k) k) (l ∙ same_len) ∙ place-own s taken (λ z. f (l ∙ same_len ∙ z))

-- ---- a part of the record ends within it
pub part-within : (s : List ℕ) {start count : ℕ} → place.Own start count ≡ tap_place s → start + count ≤ length s
part-within s e = omega (arith, ap end_of e, place-within s)

-- ---- tap_part, by the place
module _ (s f : List ℕ) where
  pub part-nowhere : place.Nowhere ≡ tap_place s → [] ≡ tap_part s f
  unfolding part_at
  part-nowhere e = ap (λ (p : TapPlace). part_at p s f) e

  pub part-own : {start count : ℕ} → place.Own start count ≡ tap_place s → take (start + count - start) (drop start s) ≡ tap_part s f
  unfolding part_at
  part-own {start} {count} e =
      ap (λ (n : ℕ). take n (drop start s)) {x = start + count - start} {y = count} (omega arith) ∙ ap (λ (p : TapPlace). part_at p s f) e

  pub part-factory : place.Factory ≡ tap_place s → f ≡ tap_part s f
  unfolding part_at
  part-factory e = ap (λ (p : TapPlace). part_at p s f) e

-- ---- LentFrom, by the place
pub lent : (p q : TapPlace) (part stored factory : ℕ × ℕ) → p ≡ q → LentFrom p part stored factory → LentFrom q part stored factory
lent p q part stored factory e h = subst (λ (x : TapPlace). LentFrom x part stored factory) e h

-- ---- the bytes of the part: the tap record of the card that READ gives, or the factory record
module _ (s f : List ℕ) (h : (read_answer s).refusal ≡ 0) where
  pub part-tap : ((read_answer s).card.tap.len ≡ 0 → ⊥) → tap_part s f ≡ tap_bytes (read_answer s).card.tap
  unfolding part_at
  part-tap n =
      sym (ap (λ (p : TapPlace). part_at p s f) (place-own s h n))
      ∙ tap-inside s (read_answer s).card (read-shaped s h) (read-sound s) (read_taken s h) n

  pub part_none : (read_answer s).card.tap.len ≡ 0 → tap_part s f ≡ f
  unfolding part_at
  part_none z = sym (ap (λ (p : TapPlace). part_at p s f) (place-factory s h z))

  -- field 34's content
  pub field-tap : content s field34 ≡ tap_bytes (read_answer s).card.tap
  field-tap = tap-content s (read_answer s).card (read-shaped s h) (read-sound s) (read_taken s h)
