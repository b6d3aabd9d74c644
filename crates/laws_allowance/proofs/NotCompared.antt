-- What is no comparison, from the rulebook's two kinds of comparison.
-- Assumes nothing.
use mathlib.Core.Path.{◌≡◌, refl, ◌∙◌}
use mathlib.Core.Bool.{Bool, true, false, ◌&&◌, not}
use mathlib.Core.List.{List}
use mathlib.Core.Option.{Option, none}
use Prim.Native.Nat.{ℕ}
use borrow.Author.Tests.{ne_eqb}
use lib.Dec.{eqb}
use lib.ListN.{length}
use Rattle.refusals.specs.Refusals.{no_refusal}
use Rattle.template_rules.proofs.HeadFacts.{by-test}
use Rattle.card.specs.declared.Card.{Card}
use Rattle.card.specs.Slots.{is_zero}
use Rattle.rules.specs.Commands.{is_unblocking}
use Rattle.rules.specs.Steps.{goes, Arrived, arrival}
use Rattle.rules.specs.Engine.{answer_out}
use Rattle.rules.specs.Comparison.{Comparison, comparison}
use Rattle.laws_two_runs.specs.Comparisons.{pin_comparison, puk_comparison}
use Rattle.laws_two_runs.specs.Runs.{answer, comparison_at}
use Rattle.laws_two_runs.proofs.Comparisons.{comparisons}
use Rattle.laws_allowance.specs.Events.{event_at}
use Rattle.laws_allowance.specs.NotCompared.{NotCompared}

module _ (c : Card) (cmd s buf : List ℕ) where
  none-at : comparison c cmd ≡ none → (event_at c (answer cmd s buf)).compared ≡ none
  unfolding event_at comparison_at
  none-at e =
      by-test (λ (o : Option Comparison). o ≡ none) (eqb (answer_out c cmd s (length buf)).refusal no_refusal) (λ _. e) (λ _. refl)

  none-false : (a b d : Bool) → b ≡ false → (a && b && d) ≡ false
  none-false true b d e = rw e refl
  none-false false b d e = refl

  none_last : (a b d : Bool) → d ≡ false → (a && b && d) ≡ false
  none_last true true d e = e
  none_last true false d e = refl
  none_last false b d e = refl

  pub not-compared : (a : Arrived) → arrival c cmd ≡ goes a → NotCompared c cmd s buf a
  unfolding pin_comparison puk_comparison
  not-compared a e = record {
    verify = λ k z. none-at ((comparisons c cmd).verify a e k ∙ rw z refl);
    pinleft = λ k n. none-at ((comparisons c cmd).unblock a e k ∙ rw (ne_eqb c.pins.pin_tries 0 n) refl);
    pukspent = λ k z. none-at ((comparisons c cmd).unblock a e k
        ∙ rw (none-false (is_zero c.pins.pin_tries) (not (is_zero c.pins.puk_tries)) (is_unblocking a.data') (rw z refl)) refl);
    form = λ k f. none-at ((comparisons c cmd).unblock a e k
        ∙ rw (none_last (is_zero c.pins.pin_tries) (not (is_zero c.pins.puk_tries)) (is_unblocking a.data') f) refl);
  }
