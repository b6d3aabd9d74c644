-- A plan past its first command, from what the code found of that command. Lengths are in bytes.
-- Assumes nothing.
use mathlib.Core.Path.{◌≡◌, sym, ap, ◌∙◌}
use mathlib.Core.List.{List}
use mathlib.Core.Option.{Option, none, some}
use Prim.Native.Nat.{ℕ, ◌-◌, ◌≤◌}
use native.Mathlib.Omega.{arith}
use lib.ListN.{length, take, drop, length-drop}
use lib.Seq.{take_all}
use Rattle.card.specs.declared.Pins.{Pins}
use Rattle.card.specs.declared.Keys.{Keys}
use Rattle.card.specs.declared.Card.{Card}
use Rattle.plan_rules.specs.Plan.{first_bytes, after_first, onward, run_plan}
use Rattle.plan_rules.specs.Known.{bare}
use Rattle.plan_rules.proofs.RunFacts.{run-next, first-whole}
use Rattle.plan_steps.specs.declared.Step.{Step}

module _ (flag n : ℕ) (p : Pins) (k : Keys) (s : List ℕ) where
  abbrev go : Card → Option Card
  go = λ next. run_plan (n - 1) next (drop (first_bytes s) s)

  -- it did not give 9000
  pub halted : after_first (bare flag p k) s ≡ none → (n ≡ 0 → ⊥) → (length s ≡ 0 → ⊥) → run_plan n (bare flag p k) s ≡ none
  halted first z e = run-next (bare flag p k) s n z e ∙ ap (λ (o : Option Card). onward o go) first

  -- it did: it is whole, and the rest of the plan goes on
  module _ (r : Step) (first : after_first (bare flag p k) s ≡ some (bare flag r.pins r.keys)) where
    pub whole : first_bytes s ≤ length s
    whole = first-whole (bare flag p k) s (bare flag r.pins r.keys) first

    pub gone : (n ≡ 0 → ⊥) → (length s ≡ 0 → ⊥) → (end : ℕ) → end ≡ first_bytes s
        → run_plan n (bare flag p k) s ≡ run_plan (n - 1) (bare flag r.pins r.keys) (take (length s - end) (drop end s))
    gone z e end f =
        run-next (bare flag p k) s n z e
        ∙ ap (λ (o : Option Card). onward o go) first
        ∙ ap (λ (t : List ℕ). run_plan (n - 1) (bare flag r.pins r.keys) t)
        (ap (λ (m : ℕ). drop m s) (sym f) ∙ sym (take_all (length s - end) (drop end s) (omega (arith, length-drop end s))))
