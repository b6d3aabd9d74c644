-- Which commands tell a fault offset (RULES 5.9): a line a command.
-- Assumes nothing.
use mathlib.Core.Path.{◌≡◌, refl}
use mathlib.Core.List.{List}
use mathlib.Core.Logic.{◌⊎◌, inl, inr}
use Prim.Native.Nat.{ℕ}
use Rattle.rules.specs.declared.KeyForm.{KeyForm}
use Rattle.rules.specs.declared.Command.{Command}
use Rattle.rules.specs.declared.Command.TheVariants as command
use Rattle.rules.specs.Rules.{no_fault}
use Rattle.rules.specs.Commands.{rule_of}

-- ---- which rule tells a place: LOAD's alone
pub unless-load : (k : Command) → ((form : KeyForm) × (k ≡ command.Load form)) ⊎ ((d : List ℕ) → (rule_of k).place d ≡ no_fault)
unfolding rule_of
unless-load command.Select = inr (λ d. refl)
unless-load command.Init = inr (λ d. refl)
unless-load (command.Open i) = inr (λ d. refl)
unless-load command.Mutual = inr (λ d. refl)
unless-load command.PairFirst = inr (λ d. refl)
unless-load command.PairFinal = inr (λ d. refl)
unless-load (command.Unpair i) = inr (λ d. refl)
unless-load (command.Status which) = inr (λ d. refl)
unless-load command.Verify = inr (λ d. refl)
unless-load (command.Change which) = inr (λ d. refl)
unless-load command.Unblock = inr (λ d. refl)
unless-load (command.Load form) = inl (form, refl)
unless-load command.Derive = inr (λ d. refl)
unless-load command.Remove = inr (λ d. refl)
unless-load command.SetPinless = inr (λ d. refl)
unless-load command.Sign = inr (λ d. refl)
unless-load (command.Export which what) = inr (λ d. refl)
unless-load command.SetNdef = inr (λ d. refl)
unless-load (command.Mnemonic x) = inr (λ d. refl)
