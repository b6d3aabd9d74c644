-- ANSWER tells a fault offset for a LOAD whose template WALK refuses, and for nothing else: through the order of checks.
-- WALK accepts each template that LOAD takes, so that where WALK refuses the answer is 6A80.
-- Assumes nothing.
use mathlib.Core.Path.{◌≡◌, refl, sym, ap, ◌∙◌}
use mathlib.Core.Bool.{Bool, true, false}
use mathlib.Core.List.{List}
use mathlib.Core.Logic.{◌⊎◌, inl, inr, ⊎_elim}
use Prim.Native.Nat.{ℕ}
use native.Mathlib.Omega.{arith}
use lib.Dec.{eqb}
use Rattle.template_rules.proofs.HeadFacts.{by-test}
use Rattle.std.specs.Prelude.{Ok, Err}
use Rattle.template_walk.specs.declared.Fault.{Fault}
use Rattle.template_walk.specs.declared.Fault.TheVariants.{Malformed, TooDeep}
use Rattle.template_walk.specs.Walk.{Walked, walk_of, refusal_number, report, WALK}
use Rattle.template_keypair.specs.Keypair.{keypair}
use Rattle.template_keypair.proofs.Walks.{keypair-walks}
use Rattle.card.specs.declared.Card.{Card}
use Rattle.rules.specs.declared.KeyForm.{KeyForm}
use Rattle.rules.specs.declared.KeyForm.TheVariants as key
use Rattle.rules.specs.declared.Command.TheVariants as command
use Rattle.rules.specs.Results.{Verdict}
use Rattle.rules.specs.Words.{wrong_data, fails}
use Rattle.rules.specs.Rules.{no_fault}
use Rattle.rules.specs.Commands.{is_verified, load_checks, place_in, load_place, rule_of}
use Rattle.rules.proofs.Places.{unless-load}
use Rattle.rules.specs.Channel.{tell}
use Rattle.rules.specs.Steps.{Step, goes, step1, Arrived, arrival, checks_of, supply_of, fault_at, ends_at, by_verdict, step6, finish, decide}
use Rattle.laws_commands.proofs.Checks.{by-verdict}
use Rattle.laws_commands.proofs.Arrival.{by-step5, by-past_step1}
use Rattle.laws_engine.specs.Faults.{LoadFault, offset_of}

-- ---- a template that WALK refuses
fields-accepted : (w : Walked) (n : ℕ) → w ≡ Ok n → (report w).refusal ≡ 0
fields-accepted w n e = ap (λ (x : Walked). (report x).refusal) e

pub not-keypair : (chain : Bool) (d : List ℕ) → ((WALK d).refusal ≡ 0 → ⊥) → keypair chain d ≡ false
not-keypair chain d n = go (keypair chain d) refl
  where
    go : (b : Bool) → keypair chain d ≡ b → b ≡ false
    go true e = absurd (⊎_elim (λ f. n (fields-accepted (walk_of d) _ f)) (λ f. n (fields-accepted (walk_of d) _ f)) (keypair-walks chain d e))
    go false e = refl

pub number-not-0 : (f : Fault) → refusal_number f ≡ 0 → ⊥
number-not-0 Malformed e = omega arith
number-not-0 TooDeep e = omega arith

pub keypair-not-seed : key.Keypair ≡ key.Seed → ⊥
keypair-not-seed e = let z : ◌≡◌ {A = ℕ} 0 1 = cc in omega arith

pub extended-not-seed : key.Extended ≡ key.Seed → ⊥
extended-not-seed e = let z : ◌≡◌ {A = ℕ} 0 1 = cc in omega arith

pub place-told : (w : Walked) → ((report w).refusal ≡ 0 → ⊥) → place_in w ≡ (report w).offset
place-told (Ok m) n = absurd (n refl)
place-told (Err r) n = refl

-- ---- LOAD at its checks: 6A80, and the offset of the first fault
module _ (a : Arrived) (verified : is_verified a.card.pins ≡ true) (refused : (WALK a.data').refusal ≡ 0 → ⊥) where
  load-fails : (form : KeyForm) → (form ≡ key.Seed → ⊥) → a.command ≡ command.Load form
      → step6 a ≡ ends_at (WALK a.data').offset (tell a.over (fails a.lost wrong_data))
  unfolding step6 rule_of load_checks fault_at load_place
  load-fails key.Keypair n e = rw (e, verified, not-keypair false a.data' refused, place-told (walk_of a.data') refused)
  load-fails key.Extended n e = rw (e, verified, not-keypair true a.data' refused, place-told (walk_of a.data') refused)
  load-fails key.Seed n e = absurd (n refl)

pub fault-decides : (c : Card) (cmd : List ℕ) (x : LoadFault c cmd)
    → decide c cmd ≡ ends_at (offset_of x) (tell x.arrived.over (fails x.arrived.lost wrong_data))
unfolding decide
fault-decides c cmd x = ap finish x.there ∙ load-fails x.arrived x.verified x.refused x.form x.template x.asks

-- ---- nothing else
no_place : (a : Arrived) → (rule_of a.command).place a.data' ≡ no_fault → (step6 a).fault_offset ≡ no_fault
unfolding step6 fault_at
no_place a e = by-verdict (λ (v : Verdict). (by_verdict a v).fault_offset ≡ no_fault) (supply_of a.command) (checks_of a.command a.card a.data')
    (λ h. refl) (λ w. by-test (λ (n : ℕ). n ≡ no_fault) (eqb w wrong_data) (λ _. e) (λ _. refl))

module _ (c : Card) (cmd : List ℕ) where
  abbrev Told : ℕ → Type 0
  Told n = (n ≡ no_fault) ⊎ LoadFault c cmd

  module _ (a : Arrived) (there : arrival c cmd ≡ goes a) (form : KeyForm) (asks : a.command ≡ command.Load form) where
    not-verified : is_verified a.card.pins ≡ false → (step6 a).fault_offset ≡ no_fault
    unfolding step6 rule_of load_checks fault_at
    not-verified e = rw (asks, e)

    placed : {n : ℕ} → load_place form a.data' ≡ n → (rule_of a.command).place a.data' ≡ n
    unfolding rule_of
    placed e = rw asks e

    -- a template: WALK takes it, or it refuses and the PIN is verified, or the PIN is not verified
    by-walk : (form ≡ key.Seed → ⊥) → ((w : Walked) → walk_of a.data' ≡ w → load_place form a.data' ≡ place_in w) → Told (step6 a).fault_offset
    by-walk n place = go (is_verified a.card.pins) refl (walk_of a.data') refl
      where
        go : (b : Bool) → is_verified a.card.pins ≡ b → (w : Walked) → walk_of a.data' ≡ w → Told (step6 a).fault_offset
        go false v w e = inl (not-verified v)
        go true v (Ok m) e = inl (no_place a (placed (place (Ok m) e)))
        go true v (Err r) e = inr (record {
          arrived = a;
          form = form;
          there = there;
          asks = asks;
          template = n;
          verified = v;
          refused = λ z. number-not-0 r.fault (sym (ap (λ (x : Walked). (report x).refusal) e) ∙ z);
        })

    load_told : Told (step6 a).fault_offset
    unfolding load_place
    load_told = go form refl
      where
        go : (f : KeyForm) → form ≡ f → Told (step6 a).fault_offset
        go key.Keypair e = by-walk (λ z. keypair-not-seed (sym e ∙ z)) (λ w h. rw (e, h))
        go key.Extended e = by-walk (λ z. extended-not-seed (sym e ∙ z)) (λ w h. rw (e, h))
        go key.Seed e = inl (no_place a (placed (rw e)))

  step6-told : (a : Arrived) → arrival c cmd ≡ goes a → Told (step6 a).fault_offset
  step6-told a there = ⊎_elim (λ h. load_told a there h.0 h.1) (λ e. inl (no_place a (e a.data'))) (unless-load a.command)

  abbrev After : Step Arrived → Type 0
  After y = arrival c cmd ≡ y → Told (finish y).fault_offset

  pub fault-alone : ((decide c cmd).fault_offset ≡ no_fault) ⊎ LoadFault c cmd
  unfolding decide arrival
  fault-alone = by-past_step1 After cmd (step1 cmd c) (λ w e. inl refl) (λ e. inl refl)
      (λ x. by-step5 After x.instruction cmd x.opened (λ e. inl refl) (λ k l e. step6-told _ e)) refl
