-- What one call does with the tries, by what it did: this is the law of one call that the count rests on.
use Rattle.std.specs.Prelude.{ℕ, ◌-◌, ◌≡◌, true, false, cond, Bool}
use Rattle.std.proofs.Math.Option.{Option, none, some}
use Rattle.card.specs.declared.Pins.{Pins}
use Rattle.card.specs.State.{most_pin_tries, most_puk_tries}
use Rattle.rules.specs.Rules.{Secret, pin, puk}
use Rattle.rules.specs.Comparison.{Comparison}
use Rattle.laws_allowance.specs.Events.{Event}
use Rattle.laws_allowance.specs.History.{is_of, restarts, wrong}

abbrev pub full_tries : Secret → ℕ
full_tries pin = most_pin_tries
full_tries puk = most_puk_tries

-- full where the count restarts, one less where the comparison came out wrong, else as they were
abbrev pub tries_after : Secret → Event → ℕ → ℕ
tries_after s e n = cond (restarts s e) (full_tries s) (cond (wrong s e) (n - 1) n)

-- the comparison, if any, is of this secret
abbrev pub compares : Secret → Option Comparison → Bool
compares s none = false
compares s (some x) = is_of s x.of

-- ---- from the pins p to the pins q, by what was done between
pub record Leaves (e : Event) (p q : Pins) : Type 0 where
  pub pintries : q.pin_tries ≡ tries_after pin e p.pin_tries
  pub puktries : q.puk_tries ≡ tries_after puk e p.puk_tries
  -- a comparison is made with tries left alone; one of the PUK with no PIN tries left
  pub pinleft : compares pin e.compared ≡ true → p.pin_tries ≡ 0 → ⊥
  pub pukleft : compares puk e.compared ≡ true → p.puk_tries ≡ 0 → ⊥
  pub blocked : compares puk e.compared ≡ true → p.pin_tries ≡ 0
