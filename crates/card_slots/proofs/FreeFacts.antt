-- Facts about the first free slot, for any number of slots: it is the least free index, or there is none; a chain of iterators over
-- the slots finds it. Assumes nothing.
use Rattle.std.proofs.Common.{◌≡◌, refl, sym, ap, ◌∙◌, subst, Bool, true, false, ◌&&◌, ◌||◌, cond, List, [], ◌∷◌, ℕ, zero, suc, ◌<◌, ◌≤◌, length, get_or, arith, Option, Some, None}
use Rattle.std.proofs.lemmas.List.{get_or_default}
use Rattle.std.specs.List.{list_all}
use native.Mathlib.Nat.{not-suc-le-zero}
use native.Mathlib.Numerals.{one-add}
use borrow.Author.Tests.{eqb-true, eqb-false}
use Rattle.card.specs.declared.Slot.{Slot}
use Rattle.card.specs.State.{free_slot}
use Rattle.card.specs.Slots.{all_of, some_of, is_free}
use Rattle.card_slots.specs.Free.{after, first_free, LeastFree, Says}

-- ---- the library's word for what a chain finds
pub all-of-chain : {A : Type 0} (p : A → Bool) (s : List A) → list_all p s ≡ all_of p s
unfolding all_of
all-of-chain p [] = refl
all-of-chain p (x ∷ s) = ap (λ b. p x && b) (all-of-chain p s)

-- ---- Says: the answer is the least free index, or that there is none
says-behind : (x : Slot) (s : List Slot) → (x.filled ≡ 0 → ⊥) → (f : Option ℕ) → Says s f → Says (x ∷ s) (after 1 f)
says-behind x s n (Some i) h = rw (one-add i) (record { within = omega (arith, h.within); free = h.free; below = before })
  where
    before : (k : ℕ) → k < suc i → (get_or (x ∷ s) k free_slot).filled ≡ 0 → ⊥
    before zero l e = n e
    before (suc k) l e = h.below k (omega arith) e
says-behind x s n None h = all
  where
    all : (k : ℕ) → k < length (x ∷ s) → (get_or (x ∷ s) k free_slot).filled ≡ 0 → ⊥
    all zero l e = n e
    all (suc k) l e = h k (omega arith) e

pub first-free-least : (s : List Slot) → Says s (first_free s)
unfolding first_free
first-free-least [] = λ k l e. not-suc-le-zero l
first-free-least (x ∷ s) = by_flag (first-free-least s) (is_free x) refl
  where
    by_flag : Says s (first_free s) → (b : Bool) → is_free x ≡ b → Says (x ∷ s) (cond b (Some 0) (after 1 (first_free s)))
    by_flag h true e =
        record { within = omega arith; free = eqb-true x.filled 0 e; below = λ k l t. not-suc-le-zero l }
    by_flag h false e = says-behind x s (eqb-false x.filled 0 e) (first_free s) h

-- ... so what the search gives is the first free slot, and says so
pub first-free-says : (s : List Slot) (r : Option ℕ) → r ≡ first_free s → (r ≡ first_free s) × Says s r
first-free-says s r e = (e, subst (λ (f : Option ℕ). Says s f) (sym e) (first-free-least s))

-- ... and no other answer says so
says-same : (s : List Slot) (f r : Option ℕ) → Says s f → Says s r → r ≡ f
says-same s (Some i) (Some j) h g =
    let not_before : i < j → ⊥ = λ l. g.below i l h.free in
    let not_after : j < i → ⊥ = λ l. h.below j l g.free in
    ap Some (omega arith)
says-same s (Some i) None h g = absurd (g i h.within h.free)
says-same s None (Some j) h g = absurd (h j g.within g.free)
says-same s None None h g = refl

pub says-first-free : (s : List Slot) (r : Option ℕ) → Says s r → (r ≡ first_free s) × Says s r
says-first-free s r h = (says-same s (first_free s) r (first-free-least s) h, h)

-- ... so a search that goes from slot to slot ends with the first free one, or with none past the last slot
pub found_here : (s : List Slot) (i : ℕ) (d : Slot) → i < length s → (get_or s i d).filled ≡ 0
    → ((k : ℕ) → k < i → (get_or s k free_slot).filled ≡ 0 → ⊥) → (Some i ≡ first_free s) × LeastFree s i
found_here s i d w e below = says-first-free s (Some i) (record { within = w; free = rw (get_or_default s i free_slot d w) e; below = below })

pub none_found : (s : List Slot) (r : Option ℕ) (i : ℕ) → r ≡ None → length s ≤ i
    → ((k : ℕ) → k < i → (get_or s k free_slot).filled ≡ 0 → ⊥) → (r ≡ first_free s) × Says s r
none_found s r i e w below =
    let none : Says s None = λ k l. below k (omega arith) in
    says-first-free s r (subst (λ (f : Option ℕ). Says s f) (sym e) none)

-- ---- some_of is_free: there is a free slot exactly where one is found
abbrev pub found : Option ℕ → Bool
found (Some i) = true
found None = false

found_after : (k : ℕ) (f : Option ℕ) → found (after k f) ≡ found f
found_after k (Some i) = refl
found_after k None = refl

pub some-found : (s : List Slot) → some_of is_free s ≡ found (first_free s)
unfolding first_free some_of
some-found [] = refl
some-found (x ∷ s) = by_flag (some-found s) (is_free x)
  where
    by_flag : some_of is_free s ≡ found (first_free s) → (b : Bool)
        → (b || some_of is_free s) ≡ found (cond b (Some 0) (after 1 (first_free s)))
    by_flag h true = refl
    by_flag h false = h ∙ sym (found_after 1 (first_free s))

-- what the proof of `has_free` takes
pub ruleset finding = some-found
