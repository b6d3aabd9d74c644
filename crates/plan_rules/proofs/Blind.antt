-- What a plan does depends on the flag of INIT, the PIN's tries, verification and the keys alone: not on PIN, PUK, identity, pairing or
-- channel. Assumes nothing.
use mathlib.Core.Path.{◌≡◌, refl, sym, ap, ◌∙◌}
use mathlib.Core.Bool.{Bool, true, false, not, cond}
use mathlib.Core.List.{List}
use mathlib.Core.Option.{Option, none, some}
use Prim.Native.Nat.{ℕ, zero, suc, ◌-◌}
use lib.Dec.{leb, eqb}
use lib.ListN.{length, drop}
use Rattle.card.specs.declared.Card.{Card}
use Rattle.card.specs.State.{with_pins, with_secrets}
use Rattle.card.specs.Slots.{is_zero}
use Rattle.card.specs.Sound.{is_sound}
use Rattle.rules.specs.declared.Command.{Command}
use Rattle.rules.specs.declared.Command.TheVariants as command
use Rattle.rules.specs.Words.{success, tries_left, verdict}
use Rattle.rules.specs.Supplies.{no_supply, derive_supply}
use Rattle.rules.specs.Commands.{pin_wrong, rule_of, verify_checks, verify_reply, pinless_checks, pinless_reply, derive_checks, derive_reply}
use Rattle.rules.specs.Steps.{is_initialised, cla_of, ins_of, p1_of, p2_of}
use Rattle.plan_rules.specs.Plan.{command_at, first_command, first_data, first_bytes, reads, yes, taken_as_right, next_of, after, after_that, after_first, onward, run_plan, ends_as, accepts, check_answer}
use Rattle.plan_rules.specs.Known.{bare, is_head, known, known_of}
use Rattle.plan_rules.proofs.CommandFacts.{command_of, command-at, by-command}

-- ---- known_of: of a card that is there by a test
next_known : (t : Bool) (x : Card) → known_of (cond t (some x) none) ≡ cond t (some (known x)) none
next_known true x = refl
next_known false x = refl

when-known : (t : Bool) (o : Option Card) {u : Option Card} → known_of o ≡ u → known_of (cond t o none) ≡ cond t u none
when-known true o e = e
when-known false o e = refl

-- ---- after: for each of the three commands
module _ (c : Card) (d : List ℕ) where
  reply-known : (right : Bool) → known_of (next_of (verify_reply right c)) ≡ next_of (verify_reply right (known c))
  unfolding verify_reply
  reply-known true = refl
  reply-known false = next_known (eqb (tries_left (c.pins.pin_tries - 1)) success) (with_pins c (pin_wrong c.pins))

  verify-known : known_of (after command.Verify c d) ≡ after command.Verify (known c) d
  unfolding after rule_of verify_checks
  verify-known = when-known (reads (verdict no_supply (verify_checks c.pins))) (next_of (verify_reply (taken_as_right d) c)) (reply-known (taken_as_right d))

  pinless-known : known_of (after command.SetPinless c d) ≡ after command.SetPinless (known c) d
  unfolding after rule_of pinless_checks pinless_reply
  pinless-known = when-known (reads (verdict no_supply (pinless_checks c.pins d))) (next_of (pinless_reply c d)) refl

  derive-known : known_of (after command.Derive c d) ≡ after command.Derive (known c) d
  unfolding after rule_of derive_checks derive_reply
  derive-known = when-known (reads (verdict derive_supply (derive_checks c.pins c.keys d))) (next_of (derive_reply c d yes)) refl

  -- a command of a plan, whatever its head
  that-known : (b : ℕ) → known_of (after_that c d (command_of b)) ≡ after_that (known c) d (command_of b)
  that-known = by-command (λ (o : Option Command). known_of (after_that c d o) ≡ after_that (known c) d o) refl verify-known pinless-known derive-known

  headed : (i : Bool) (cla b p1 p2 : ℕ)
      → known_of (after_that c d (command_at i cla b p1 p2)) ≡ after_that (known c) d (command_at i cla b p1 p2)
  headed i cla b p1 p2 = rw (command-at i cla p1 p2 b) (by-head (is_head i cla p1 p2))
    where
      by-head : (h : Bool) → known_of (after_that c d (cond h (command_of b) none)) ≡ after_that (known c) d (cond h (command_of b) none)
      by-head true = that-known b
      by-head false = refl

-- ---- after_first, run_plan
first-known : (c : Card) (s : List ℕ) → known_of (after_first c s) ≡ after_first (known c) s
unfolding after_first
first-known c s =
    when-known (leb (first_bytes s) (length s)) (after_that c (first_data s) (first_command c s))
    (headed c (first_data s) (is_initialised c) (cla_of s) (ins_of s) (p1_of s) (p2_of s))

run-known : (n : ℕ) (c : Card) (s : List ℕ) → known_of (run_plan n c s) ≡ run_plan n (known c) s
unfolding run_plan
run-known zero c s = next_known (is_zero (length s)) c
run-known (suc n) c s =
    by-test (λ (x : Card). run_plan n x (drop (first_bytes s) s)) (λ (x : Card). run-known n x (drop (first_bytes s) s)) (is_zero (length s))
  where
    then : (go : Card → Option Card) → ((x : Card) → known_of (go x) ≡ go (known x)) → (o : Option Card)
        → known_of (onward o go) ≡ onward (known_of o) go
    then go h none = refl
    then go h (some x) = h x

    by-test : (go : Card → Option Card) → ((x : Card) → known_of (go x) ≡ go (known x)) → (w : Bool)
        → known_of (cond w (some c) (onward (after_first c s) go)) ≡ cond w (some (known c)) (onward (after_first (known c) s) go)
    by-test go h true = refl
    by-test go h false = then go h (after_first c s) ∙ ap (λ (o : Option Card). onward o go) (first-known c s)

-- ---- accepts, check_answer
pub accepts-known : (c : Card) (plan current pinless : List ℕ) → accepts c plan current pinless ≡ accepts (known c) plan current pinless
unfolding accepts
accepts-known c plan current pinless = ends (run_plan 3 c plan) ∙ ap (ends_as current pinless) (run-known 3 c plan)
  where
    ends : (o : Option Card) → ends_as current pinless o ≡ ends_as current pinless (known_of o)
    ends none = refl
    ends (some x) = refl

-- two cards that agree in what a plan looks at, and are both sound or both not, get the same answer
module _ (plan current pinless : List ℕ) where
  accepts-agree : (c d : Card) → known c ≡ known d → accepts c plan current pinless ≡ accepts d plan current pinless
  accepts-agree c d e =
      accepts-known c plan current pinless
      ∙ ap (λ (x : Card). accepts x plan current pinless) e
      ∙ sym (accepts-known d plan current pinless)

  pub check-agree : (c d : Card) → is_sound c ≡ is_sound d → known c ≡ known d
      → check_answer c plan current pinless ≡ check_answer d plan current pinless
  unfolding check_answer
  check-agree c d s e = rw (s, accepts-agree c d e)

  -- so beyond soundness the check does not look at PIN and PUK
  pub check-blind : (p q : List ℕ) (c : Card) → is_sound c ≡ is_sound (with_secrets p q c)
      → check_answer c plan current pinless ≡ check_answer (with_secrets p q c) plan current pinless
  check-blind p q c s = check-agree c (with_secrets p q c) s refl

-- the card of a card's parts alone
pub accepts-bare : (c : Card) (plan current pinless : List ℕ)
    → accepts c plan current pinless ≡ accepts (bare c.initialised c.pins c.keys) plan current pinless
accepts-bare c plan current pinless =
    accepts-known c plan current pinless ∙ sym (accepts-known (bare c.initialised c.pins c.keys) plan current pinless)
