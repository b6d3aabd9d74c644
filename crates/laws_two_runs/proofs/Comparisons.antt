-- What RULES 6.3 says of comparisons is what the rulebook's `comparison` gives: VERIFY and UNBLOCK are the two commands whose rules compare,
-- and their checks are those that RULES names.
-- Assumes nothing.
use Rattle.std.specs.Prelude.{Err, Ok}
use mathlib.Core.Path.{◌≡◌, refl, sym, ap, ◌∙◌, subst}
use mathlib.Core.Bool.{Bool, true, false}
use mathlib.Core.List.{List}
use mathlib.Core.Option.{Option, none, some}
use Prim.Native.Nat.{ℕ}
use Rattle.card.specs.declared.Pins.{Pins}
use Rattle.card.specs.declared.Card.{Card}
use Rattle.card.specs.Slots.{is_zero}
use Rattle.rules.specs.declared.Command.{Command}
use Rattle.rules.specs.declared.Command.TheVariants as command
use Rattle.rules.specs.Results.{Verdict}
use Rattle.rules.specs.Words.{verdict}
use Rattle.rules.specs.Rules.{Secret, pin, puk}
use Rattle.rules.specs.Commands.{verify_checks, is_unblocking, unblock_checks, rule_of}
use Rattle.rules.specs.Channel.{Outgoing}
use Rattle.rules.specs.Steps.{Step, goes, stops, Arrived, arrival, checks_of, supply_of}
use Rattle.rules.specs.Comparison.{compared, compared_by, compared_at6, comparison}
use Rattle.laws_commands.proofs.Table.{only-compares}
use Rattle.laws_two_runs.specs.Comparisons.{pin_comparison, puk_comparison, Comparisons}
use Rattle.laws_two_runs.proofs.Order.{by-arrival, SamePins, pins-at, same-compared}

-- ---- PIN, PUK and tries at step 6 are those of the card that the call was given
abbrev Pinned : Card → Step Arrived → Type 0
Pinned c (goes a) = SamePins c a.card
Pinned c (stops t) = Unit {0}

arrived-pins : (c : Card) (cmd : List ℕ) (a : Arrived) → arrival c cmd ≡ goes a → SamePins c a.card
arrived-pins c cmd a e = subst (Pinned c) e (by-arrival (Pinned c) c cmd (λ t. tt) (λ x k _. pins-at c cmd x))

-- ---- at step 6
module _ (a : Arrived) where
  -- a command whose rule compares nothing
  none-at6 : (p : Pins) → (rule_of a.command).compares ≡ none → compared_at6 p a ≡ none
  none-at6 p e = go (verdict (supply_of a.command) (checks_of a.command a.card a.data'))
    where
      go : (v : Verdict) → compared_by p a v ≡ none
      go (Ok s) = ap (λ (o : Option Secret). compared o p a.data') e
      go (Err w) = refl

  abbrev p : Pins
  p = a.card.pins

  abbrev at : Command → Arrived
  at k = record { command = k; data' = a.data'; card = a.card; lost = a.lost; over = a.over }

  verify-at6 : a.command ≡ command.Verify → compared_at6 p a ≡ pin_comparison p a.data'
  unfolding rule_of verify_checks pin_comparison
  verify-at6 e = ap (λ (k : Command). compared_at6 p (at k)) e ∙ go (is_zero p.pin_tries) refl
    where
      go : (b : Bool) → is_zero p.pin_tries ≡ b → compared_at6 p (at command.Verify) ≡ pin_comparison p a.data'
      go true z = rw z
      go false z = rw z

  unblock-at6 : a.command ≡ command.Unblock → compared_at6 p a ≡ puk_comparison p a.data'
  unfolding rule_of unblock_checks puk_comparison
  unblock-at6 e = ap (λ (k : Command). compared_at6 p (at k)) e
      ∙ go (is_zero p.pin_tries) (is_zero p.puk_tries) (is_unblocking a.data') refl refl refl
    where
      go : (b t f : Bool) → is_zero p.pin_tries ≡ b → is_zero p.puk_tries ≡ t → is_unblocking a.data' ≡ f
          → compared_at6 p (at command.Unblock) ≡ puk_comparison p a.data'
      go false t f z y e = rw z
      go true true f z y e = rw (z, y)
      go true false false z y e = rw (z, y, e)
      go true false true z y e = rw (z, y, e)

-- ---- the whole
module _ (c : Card) (cmd : List ℕ) where
  stopped : (t : Outgoing) → arrival c cmd ≡ stops t → comparison c cmd ≡ none
  unfolding comparison
  stopped t e = rw e

  compared_at : (a : Arrived) → arrival c cmd ≡ goes a → comparison c cmd ≡ compared_at6 c.pins a
  unfolding comparison
  compared_at a e = rw e

  -- with PIN and PUK of the card there
  at-card : (a : Arrived) → arrival c cmd ≡ goes a → comparison c cmd ≡ compared_at6 a.card.pins a
  at-card a e = compared_at a e ∙ same-compared c.pins a.card.pins (goes a) (sym (arrived-pins c cmd a e))

  -- a command whose rule compares nothing makes no comparison
  pub none-compared : (a : Arrived) → arrival c cmd ≡ goes a → (rule_of a.command).compares ≡ none → comparison c cmd ≡ none
  none-compared a e n = compared_at a e ∙ none-at6 a c.pins n

  others : (a : Arrived) → arrival c cmd ≡ goes a → (a.command ≡ command.Verify → ⊥) → (a.command ≡ command.Unblock → ⊥)
      → comparison c cmd ≡ none
  others a e v u = go (rule_of a.command).compares refl
    where
      go : (o : Option Secret) → (rule_of a.command).compares ≡ o → comparison c cmd ≡ none
      go none h = none-compared a e h
      go (some pin) h = absurd (v (only-compares a.command pin h))
      go (some puk) h = absurd (u (only-compares a.command puk h))

  pub comparisons : Comparisons c cmd
  unfolding pin_comparison puk_comparison
  comparisons = record {
    stopped = stopped;
    verify = λ a e k. at-card a e ∙ verify-at6 a k ∙ ap (λ (p : Pins). pin_comparison p a.data') (arrived-pins c cmd a e);
    unblock = λ a e k. at-card a e ∙ unblock-at6 a k ∙ ap (λ (p : Pins). puk_comparison p a.data') (arrived-pins c cmd a e);
    others = others;
  }
