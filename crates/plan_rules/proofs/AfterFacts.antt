-- What each command of a plan leaves: its checks hold and it gives 9000, or the plan goes no further. Lengths are in bytes.
-- Assumes nothing.
use Rattle.std.specs.Prelude.{Err}
use mathlib.Core.Path.{◌≡◌, refl, sym, ap, ◌∙◌}
use mathlib.Core.Bool.{Bool, true, false, ◌&&◌, not, cond, false≢true}
use mathlib.Core.Logic.{⊎_elim}
use mathlib.Core.List.{List, [], ◌∷◌}
use mathlib.Core.Option.{Option, none, some}
use Prim.Native.Nat.{ℕ, ◌-◌, ◌<◌}
use native.Mathlib.Omega.{arith}
use borrow.Author.Tests.{ne_eqb}
use Rattle.octets.proofs.Lists.{same-eq}
use Rattle.card.specs.declared.Card.{Card}
use Rattle.card.specs.State.{path_of, with_pins, with_keys}
use Rattle.card.specs.Slots.{is_zero}
use Rattle.card.specs.Sound.{is_sound}
use Rattle.card.specs.Shape.{Shaped}
use Rattle.card.proofs.Rules.{pins-rules, parts-rules, sound-cases}
use Rattle.rules.specs.declared.Supply.{Supply}
use Rattle.rules.specs.declared.Command.TheVariants as command
use Rattle.rules.specs.Words.{success, tries_left, Check, verdict, Hold}
use Rattle.rules.specs.Supplies.{no_supply, derive_supply}
use Rattle.rules.specs.Rules.{pin, right_by}
use Rattle.rules.specs.Commands.{rule_of, pin_right, with_current, with_pinless, verify_checks, verify_reply, pinless_checks, pinless_reply, derive_checks, derive_reply}
use Rattle.rules.specs.Steps.{is_initialised}
use Rattle.plan_rules.specs.Plan.{reads, taken_as_right, next_of, after}

-- ---- reads: each check holds
pub reads-hold : (s : Supply) (checks : List Check) → reads (verdict s checks) ≡ true → Hold checks
reads-hold s [] e = tt
reads-hold s (k ∷ more) e = by-check k.holds refl e (reads-hold s more)
  where
    by-check : (b : Bool) → k.holds ≡ b → reads (cond b (verdict s more) (Err k.otherwise)) ≡ true
        → (reads (verdict s more) ≡ true → Hold more) → (k.holds ≡ true) × Hold more
    by-check true h f rest = (h, rest f)
    by-check false h f rest = absurd (false≢true f)

-- ---- after: the three commands
and_then : {A : Type 0} (t r : Bool) (x : A) → cond t (cond r (some x) none) none ≡ cond (t && r) (some x) none
and_then true r x = refl
and_then false r x = refl

module _ (c : Card) (d : List ℕ) where
  -- a card's tries are a byte, so that no count of tries left is 9000
  next-verify : c.pins.pin_tries < 256 → (right : Bool)
      → next_of (verify_reply right c) ≡ cond right (some (with_pins c (pin_right c.pins))) none
  unfolding verify_reply
  next-verify h true = refl
  next-verify h false = rw (ne_eqb (tries_left (c.pins.pin_tries - 1)) success (λ x. omega arith))

  pub after-verify : c.pins.pin_tries < 256
      → after command.Verify c d
      ≡ cond (reads (verdict no_supply (verify_checks c.pins)) && taken_as_right d) (some (with_pins c (pin_right c.pins))) none
  unfolding after rule_of
  after-verify h =
      ap (λ (o : Option Card). cond (reads (verdict no_supply (verify_checks c.pins))) o none) (next-verify h (taken_as_right d))
      ∙ and_then (reads (verdict no_supply (verify_checks c.pins))) (taken_as_right d) (with_pins c (pin_right c.pins))

  pub after-pinless : after command.SetPinless c d
      ≡ cond (reads (verdict no_supply (pinless_checks c.pins d))) (some (with_keys c (with_pinless c.keys (path_of d)))) none
  unfolding after rule_of pinless_reply
  after-pinless = refl

  pub after-derive : after command.Derive c d
      ≡ cond (reads (verdict derive_supply (derive_checks c.pins c.keys d))) (some (with_keys c (with_current c.keys (path_of d)))) none
  unfolding after rule_of derive_reply
  after-derive = refl

-- ---- taken_as_right: what is right on a sound card is taken as right, so that VERIFY with any other data gives no 9000 there
pub right-taken : (c : Card) → is_sound c ≡ true → Shaped c → is_initialised c ≡ true → (d : List ℕ) → right_by pin c.pins d ≡ true → taken_as_right d ≡ true
right-taken c e h i d r = ⊎_elim
    (λ b. absurd (false≢true (ap (λ (n : ℕ). not (is_zero n)) (sym b.flag) ∙ i)))
    (λ a. rw (same-eq d c.pins.pin r, h.pin) (pins-rules c.pins (parts-rules c a.parts).pins).pin)
    (sound-cases c e)
