-- The bytes of the slots of a sound card, whatever the number of slots: free ones are zeros, so the first n, filled with zeros, are all of them
-- where those from n on are free. Assumes nothing.
use mathlib.Core.Path.{◌≡◌, refl, sym, ap, ◌∙◌}
use mathlib.Core.Bool.{true, not, ◌||◌}
use mathlib.Core.List.{List, [], ◌∷◌, ◌++◌, append_assoc}
use Prim.Native.Nat.{ℕ, zero, suc, ◌+◌, ◌*◌, ◌≤◌}
use native.Mathlib.Omega.{arith}
use lib.Dec.{leb}
use lib.ListN.{length, take, drop, length-append, length-drop, length-replicate, replicate-append-replicate}
use borrow.Author.Tests.{eqb-true}
use Rattle.octets.proofs.Lists.{◌&◌}
use Rattle.card.specs.declared.Slot.{Slot}
use Rattle.card.specs.Sizes.{key_bytes, slot_bytes}
use Rattle.card.specs.State.{zeros}
use Rattle.card.specs.Shape.{KeysLong}
use Rattle.card.specs.Slots.{all_of, is_zero, all_zero, is_free, slot_within}
use Rattle.card.proofs.Tests.{both, implied, zero-list}
use Rattle.record_rules.specs.Fields.{slots_bytes}
use Rattle.record_rules.specs.Parse.{fit, slots_from}
use Rattle.record_rules.proofs.ParseFacts.{fit-pad, slots-long, slots-back}

module _ (most : ℕ) where
  slot-free : (x : Slot) → length x.key ≡ key_bytes → slot_within most x ≡ true → is_free x ≡ true → x.filled ∷ x.key ≡ zeros slot_bytes
  slot-free x l w e =
      eqb-true x.filled 0 e
      & (zero-list x.key (implied (is_free x) (all_zero x.key) e (both (leb x.filled most) (not (is_free x) || all_zero x.key) w).1) ∙ ap zeros l)

  slots-free : (s : List Slot) → KeysLong s → all_of (slot_within most) s ≡ true → all_of is_free s ≡ true → slots_bytes s ≡ zeros (slot_bytes * length s)
  unfolding slots_bytes all_of
  slots-free [] l w e = refl
  slots-free (x ∷ s) l w e =
      let v = both (slot_within most x) (all_of (slot_within most) s) w in
      let f = both (is_free x) (all_of is_free s) e in
      ap (λ (r : List ℕ). r ++ slots_bytes s) (slot-free x l.0 v.0 f.0)
      ∙ ap (λ (r : List ℕ). zeros slot_bytes ++ r) (slots-free s l.1 v.1 f.1)
      ∙ replicate-append-replicate slot_bytes (slot_bytes * length s) 0
      ∙ ap zeros {x = slot_bytes + slot_bytes * length s} {y = slot_bytes * length (x ∷ s)} (omega arith)

  -- the first n slots and zeros for the rest
  pub slots-full : (n : ℕ) (s : List Slot) → KeysLong s → all_of (slot_within most) s ≡ true → all_of is_free (drop n s) ≡ true
      → slots_bytes (take n s) ++ zeros (slot_bytes * length (drop n s)) ≡ slots_bytes s
  unfolding slots_bytes all_of
  slots-full zero s l w e = sym (slots-free s l w e)
  slots-full (suc n) [] l w e = refl
  slots-full (suc n) (x ∷ s) l w e =
      let v = both (slot_within most x) (all_of (slot_within most) s) w in
      append_assoc (x.filled ∷ x.key) (slots_bytes (take n s)) (zeros (slot_bytes * length (drop n s)))
      ∙ ap (λ (r : List ℕ). (x.filled ∷ x.key) ++ r) (slots-full n s l.1 v.1 e)

  module _ (n m : ℕ) (s : List Slot) (l : KeysLong s) (w : all_of (slot_within most) s ≡ true) (e : all_of is_free (drop n s) ≡ true) (k : length s ≡ m) where
    pub slots-fit : fit (slot_bytes * m) (slots_bytes (take n s)) ≡ slots_bytes s
    slots-fit =
        fit-pad (slots_bytes (take n s)) (slot_bytes * length (drop n s)) (slot_bytes * m)
        (omega (
          arith,
          k,
          slots-long s l,
          ap length (slots-full n s l w e),
          length-append (slots_bytes (take n s)) (zeros (slot_bytes * length (drop n s))),
          length-replicate {A = ℕ} (slot_bytes * length (drop n s)) 0,
        ))
        ∙ slots-full n s l w e

    -- how long the first n are
    pub slots-first : n ≤ m → length (slots_bytes (take n s)) ≡ slot_bytes * n
    slots-first h =
        omega (
          arith,
          h,
          k,
          slots-long s l,
          ap length (slots-full n s l w e),
          length-append (slots_bytes (take n s)) (zeros (slot_bytes * length (drop n s))),
          length-replicate {A = ℕ} (slot_bytes * length (drop n s)) 0,
          length-drop n s,
        )

    -- the slots that these bytes describe
    pub slots-again : slots_from m (fit (slot_bytes * m) (slots_bytes (take n s))) ≡ s
    slots-again = ap (slots_from m) slots-fit ∙ ap (λ (j : ℕ). slots_from j (slots_bytes s)) (sym k) ∙ slots-back s l
