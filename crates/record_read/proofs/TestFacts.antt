-- What the tests of the four forms, one after the other, say of a sound card. Assumes nothing.
use mathlib.Core.Path.{◌≡◌, refl, sym, ap, ◌∙◌}
use mathlib.Core.Bool.{Bool, true, false, ◌&&◌, ◌||◌}
use mathlib.Core.List.{List}
use Prim.Native.Nat.{ℕ}
use Rattle.card.specs.declared.Card.{Card}
use Rattle.card.specs.Sizes.{slot_count}
use Rattle.card.specs.Slots.{some_of}
use Rattle.card.specs.Sound.{is_sound}
use Rattle.record_rules.specs.declared.Form.{Form}
use Rattle.record_rules.specs.Forms.{slot_count_before, forms, is_in_form}
use Rattle.record_rules.specs.Answers.{is_record_of}

module _ (s : List ℕ) (c : Card) (e : is_sound c ≡ true) where
  abbrev Test : ℕ → Bool → Bool
  Test n t = is_in_form s c (record { slots = n; tapped = t })

  or-false : (b : Bool) → (b || false) ≡ b
  or-false true = refl
  or-false false = refl

  tested : is_record_of s c ≡ (Test slot_count true || (Test slot_count false || (Test slot_count_before true || Test slot_count_before false)))
  unfolding is_record_of some_of
  tested =
      ap (λ (b : Bool). b && some_of (is_in_form s c) forms) e
      ∙ ap (λ (b : Bool). Test slot_count true || (Test slot_count false || (Test slot_count_before true || b))) (or-false (Test slot_count_before false))

  joined : (a b d : Bool) → Test slot_count true ≡ a → Test slot_count false ≡ b → Test slot_count_before true ≡ d
      → (a || (b || (d || Test slot_count_before false))) ≡ is_record_of s c
  joined a b d p q r = sym (tested ∙ rw (p, q, r))

  pub by_first : Test slot_count true ≡ true → true ≡ is_record_of s c
  by_first p = joined true _ _ p refl refl

  pub by-second : Test slot_count true ≡ false → Test slot_count false ≡ true → true ≡ is_record_of s c
  by-second p q = joined false true _ p q refl

  pub by-third : Test slot_count true ≡ false → Test slot_count false ≡ false → Test slot_count_before true ≡ true → true ≡ is_record_of s c
  by-third p q r = joined false false true p q r

  pub by_last : Test slot_count true ≡ false → Test slot_count false ≡ false → Test slot_count_before true ≡ false
      → Test slot_count_before false ≡ is_record_of s c
  by_last p q r = joined false false false p q r
