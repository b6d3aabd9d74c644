-- What the checks and the supply of any command say where it is known which command it is; and that no command but LOAD has a fault offset.
-- Assumes nothing.
use mathlib.Core.Path.{◌≡◌, sym, subst}
use mathlib.Core.Bool.{true}
use mathlib.Core.List.{List}
use mathlib.Core.Logic.{⊎_elim}
use Prim.Native.Nat.{ℕ}
use Rattle.card.specs.declared.Card.{Card}
use Rattle.rules.specs.declared.KeyForm.{KeyForm}
use Rattle.rules.specs.declared.Command.TheVariants as command
use Rattle.rules.proofs.Places.{unless-load}
use Rattle.rules.specs.declared.Command.{Command}
use Rattle.rules.specs.Words.{Hold}
use Rattle.rules.specs.Supplies.{suits}
use Rattle.rules.specs.Rules.{no_fault}
use Rattle.rules.specs.Commands.{rule_of}
use Rattle.rules.specs.Steps.{checks_of, supply_of}

module _ (k known : Command) (e : k ≡ known) where
  pub checked : (c : Card) (d : List ℕ) → Hold (checks_of k c d) → Hold (checks_of known c d)
  checked c d h = subst (λ (x : Command). Hold (checks_of x c d)) e h

  pub suited : (s : List ℕ) → suits (supply_of k) s ≡ true → suits (supply_of known) s ≡ true
  suited s h = subst (λ (x : Command). suits (supply_of x) s ≡ true) e h

-- ---- place: every command but LOAD
pub no_place : (k : Command) (d : List ℕ) → ((x : KeyForm) → k ≡ command.Load x → ⊥) → no_fault ≡ (rule_of k).place d
no_place k d h =
    ⊎_elim (λ x. absurd (h x.0 x.1)) (λ e. sym (e d)) (unless-load k)
