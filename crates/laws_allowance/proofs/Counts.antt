-- Guesses and tries left are as many as there were, over every history: at each call the tries go down by one where a guess is added, and are full
-- where the count restarts.
-- Assumes nothing.
use mathlib.Core.Path.{◌≡◌, refl, ap, ◌∙◌}
use mathlib.Core.Bool.{Bool, true, false, ◌||◌, not, cond, false≢true}
use mathlib.Core.List.{List, [], ◌∷◌}
use mathlib.Core.Option.{Option, none, some}
use Prim.Native.Nat.{ℕ, ◌+◌, ◌-◌}
use native.Mathlib.Omega.{arith}
use lib.ListN.{drop}
use Rattle.card.specs.declared.Pins.{Pins}
use Rattle.card.specs.declared.Card.{Card}
use Rattle.card.specs.Slots.{some_of}
use Rattle.card.proofs.Tests.{both}
use Rattle.rules.specs.Rules.{Secret, pin, puk}
use Rattle.rules.specs.Comparison.{Comparison}
use Rattle.laws_two_runs.specs.Runs.{Call, next_at, end_of}
use Rattle.laws_allowance.specs.Events.{Event, event_at, events_of}
use Rattle.laws_allowance.specs.History.{is_of, is_wrong, restarts, wrong, from_latest, count_of, guesses, History, Allowance}
use Rattle.laws_allowance.specs.Tries.{full_tries, tries_after, compares, Leaves}
use Rattle.laws_allowance.proofs.Calls.{call-leaves}

abbrev tries_of : Secret → Pins → ℕ
tries_of pin p = p.pin_tries
tries_of puk p = p.puk_tries

-- ---- one call, for either secret
tries_left : (s : Secret) (e : Event) (p q : Pins) → Leaves e p q → tries_of s q ≡ tries_after s e (tries_of s p)
tries_left pin e p q h = h.pintries
tries_left puk e p q h = h.puktries

wrong-compares : (s : Secret) (m : Option Comparison) → is_wrong s m ≡ true → compares s m ≡ true
wrong-compares s none e = e
wrong-compares s (some x) e = (both (is_of s x.of) (not x.right) e).0

wrong-left : (s : Secret) (e : Event) (p q : Pins) → Leaves e p q → wrong s e ≡ true → tries_of s p ≡ 0 → ⊥
wrong-left pin e p q h t = h.pinleft (wrong-compares pin e.compared t)
wrong-left puk e p q h t = h.pukleft (wrong-compares puk e.compared t)

-- ---- the count after one call more
module _ (s : Secret) where
  abbrev more : ℕ → Event → ℕ
  more n e = cond (restarts s e) 0 (cond (wrong s e) (1 + n) n)

  sum_kept : (n t full : ℕ) (again missed : Bool) → n + t ≡ full → (missed ≡ true → t ≡ 0 → ⊥)
      → cond again 0 (cond missed (1 + n) n) + cond again full (cond missed (t - 1) t) ≡ full
  sum_kept n t full true missed e left = omega arith
  sum_kept n t full false true e left = positive t e (left refl)
    where
      positive : (t : ℕ) → n + t ≡ full → (t ≡ 0 → ⊥) → 1 + n + (t - 1) ≡ full
      positive t e z = omega (arith, e, z)
  sum_kept n t full false false e left = e

  step_sum : (n : ℕ) (e : Event) (p q : Pins) → Leaves e p q → n + tries_of s p ≡ full_tries s → more n e + tries_of s q ≡ full_tries s
  step_sum n e p q h i =
      ap (λ (t : ℕ). more n e + t) (tries_left s e p q h)
      ∙ sum_kept n (tries_of s p) (full_tries s) (restarts s e) (wrong s e) i (wrong-left s e p q h)

  -- ---- the count over a list, where it is n before it
  abbrev counted : ℕ → List Event → ℕ
  counted n es = cond (some_of (restarts s) es) (guesses s es) (n + count_of (wrong s) es)

  counted-more : (n : ℕ) (e : Event) (es : List Event) → counted n (e ∷ es) ≡ counted (more n e) es
  unfolding some_of from_latest count_of
  counted-more n e es = go (restarts s e) (wrong s e) (some_of (restarts s) es)
    where
      go : (again missed later : Bool)
          → cond (again || later)
          (count_of (wrong s) (drop 1 (cond later (from_latest (restarts s) es) (cond again (e ∷ es) []))))
          (n + (cond missed 1 0 + count_of (wrong s) es))
          ≡ cond later (guesses s es) (cond again 0 (cond missed (1 + n) n) + count_of (wrong s) es)
      go true missed true = refl
      go false missed true = refl
      go true missed false = omega arith
      go false true false = omega arith
      go false false false = omega arith

  -- ---- every list of calls
  calls-sum : (calls : List Call) (c : Card) (n : ℕ) → n + tries_of s c.pins ≡ full_tries s
      → counted n (events_of c calls) + tries_of s (end_of c calls).pins ≡ full_tries s
  unfolding events_of end_of some_of count_of
  calls-sum [] c n e = omega (arith, e)
  calls-sum (k ∷ ks) c n e =
      ap (λ (m : ℕ). m + tries_of s (end_of (next_at c k) ks).pins) (counted-more n (event_at c k) (events_of (next_at c k) ks))
      ∙ calls-sum ks (next_at c k) (more n (event_at c k)) (step_sum n (event_at c k) c.pins (next_at c k).pins (call-leaves c k) e)

  guesses-restarted : (x : Event) (es : List Event) → restarts s x ≡ true → guesses s (x ∷ es) ≡ counted 0 es
  unfolding from_latest
  guesses-restarted x es i = go (restarts s x) (some_of (restarts s) es) i
    where
      go : (again later : Bool) → again ≡ true
          → count_of (wrong s) (drop 1 (cond later (from_latest (restarts s) es) (cond again (x ∷ es) [])))
          ≡ cond later (guesses s es) (0 + count_of (wrong s) es)
      go again true z = refl
      go true false z = omega arith
      go false false z = absurd (false≢true z)

  -- ---- a call that restarts the count, and any calls after it
  restarted-sum : (c : Card) (k : Call) (ks : List Call) → restarts s (event_at c k) ≡ true
      → guesses s (events_of c (k ∷ ks)) + tries_of s (end_of c (k ∷ ks)).pins ≡ full_tries s
  unfolding events_of end_of
  restarted-sum c k ks e =
      let es : List Event = events_of (next_at c k) ks in
      let full : tries_of s (next_at c k).pins ≡ full_tries s =
      tries_left s (event_at c k) c.pins (next_at c k).pins (call-leaves c k)
      ∙ ap (λ (b : Bool). cond b (full_tries s) (cond (wrong s (event_at c k)) (tries_of s c.pins - 1) (tries_of s c.pins))) e in
      ap (λ (m : ℕ). m + tries_of s (end_of (next_at c k) ks).pins) (guesses-restarted (event_at c k) es e)
      ∙ calls-sum ks (next_at c k) 0 (omega (arith, full))

-- INIT restarts both
init-restarts : (s : Secret) (h : History) → restarts s (event_at h.card h.first) ≡ true
unfolding event_at
init-restarts pin h = rw h.init
init-restarts puk h = rw h.init

pub allowance : (h : History) → Allowance h
allowance h = record {
  pins = restarted-sum pin h.card h.first h.calls (init-restarts pin h);
  puks = restarted-sum puk h.card h.first h.calls (init-restarts puk h);
}
