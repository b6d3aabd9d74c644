-- The plan of the commands that are needed is accepted: each gives 9000 where it stands, and both paths end as asked. Lengths are in bytes.
-- Assumes nothing.
use mathlib.Core.Path.{◌≡◌, refl, sym, ap, ap₂, ◌∙◌}
use mathlib.Core.Bool.{Bool, true, false, ◌&&◌, ◌||◌, not, cond, false≢true}
use mathlib.Core.List.{List, [], ◌++◌, append-nil}
use mathlib.Core.Option.{some}
use Prim.Native.Nat.{ℕ, ◌-◌, ◌<◌}
use lib.Dec.{eqb}
use lib.ListN.{length}
use lib.Seq.{take_at}
use borrow.Author.Tests.{not-false}
use Rattle.octets.specs.Bytes.{same_bytes}
use Rattle.octets.proofs.Lists.{same_refl}
use Rattle.card.specs.declared.Card.{Card}
use Rattle.card.specs.State.{zeros, path_bytes, path_of, with_pins, with_keys}
use Rattle.card.specs.Slots.{is_zero}
use Rattle.card.proofs.Tests.{both, the-first}
use Rattle.rules.specs.declared.Command.TheVariants as command
use Rattle.rules.specs.Commands.{is_verified, is_set, is_path, pin_right, with_current, with_pinless, verify_checks, pinless_checks, derive_checks}
use Rattle.rules.specs.Steps.{is_initialised}
use Rattle.plan_rules.specs.Plan.{taken_as_right, after, after_that, run_plan, ends_as, accepts, can_plan}
use Rattle.plan_rules.proofs.CommandFacts.{at-verify, at-pinless, at-derive}
use Rattle.plan_rules.proofs.AfterFacts.{after-verify, after-pinless, after-derive}
use Rattle.plan_rules.proofs.RunFacts.{run-ended}
use Rattle.plan_make.specs.Make.{wanted, is_there, is_pinless, needs_verify, needs_of, plan_of}
use Rattle.plan_make.proofs.Commands.{run-wanted}

-- ---- after: the three commands, where they give 9000
module _ (c : Card) (d : List ℕ) where
  verified : c.pins.pin_tries < 256 → not (is_zero c.pins.pin_tries) ≡ true → taken_as_right d ≡ true
      → after command.Verify c d ≡ some (with_pins c (pin_right c.pins))
  unfolding verify_checks
  verified h t r = after-verify c d h ∙ rw (t, r)

  pinless-set : is_verified c.pins ≡ true → is_path d ≡ true
      → after command.SetPinless c d ≡ some (with_keys c (with_pinless c.keys (path_of d)))
  unfolding pinless_checks
  pinless-set v p = after-pinless c d ∙ rw (v, p)

  derived : ((is_verified c.pins || is_set c.keys.pinless) && eqb c.keys.kind 2) ≡ true → is_path d ≡ true
      → after command.Derive c d ≡ some (with_keys c (with_current c.keys (path_of d)))
  unfolding derive_checks
  derived v p = after-derive c d ∙ rw (v, p)

-- ---- path_of: its bytes
path-same : (s : List ℕ) → same_bytes (path_bytes (path_of s)) s ≡ true
path-same s = ap (λ (t : List ℕ). same_bytes t s) (take_at s (zeros (40 - length s)) (length s) refl) ∙ same_refl s

-- ---- the cards on the way, by which commands there are: v VERIFY, s SET PIN-LESS PATH, d DERIVE
module _ (c : Card) (current pinless : List ℕ) where
  abbrev one : Bool → Card
  one v = cond v (with_pins c (pin_right c.pins)) c

  abbrev set : Bool → Card
  set v = with_keys (one v) (with_pinless (one v).keys (path_of pinless))

  abbrev two : Bool → Bool → Card
  two v s = cond s (set v) (one v)

  abbrev last : Bool → Bool → Card
  last v s = with_keys (two v s) (with_current (two v s).keys (path_of current))

  abbrev three : Bool → Bool → Bool → Card
  three v s d = cond d (last v s) (two v s)

  -- they stay initialised
  one-initialised : (v : Bool) → is_initialised c ≡ true → is_initialised (one v) ≡ true
  one-initialised true i = i
  one-initialised false i = i

  two-initialised : (v s : Bool) → is_initialised c ≡ true → is_initialised (two v s) ≡ true
  two-initialised v true i = one-initialised v i
  two-initialised v false i = one-initialised v i

  -- the PIN is verified where SET PIN-LESS PATH comes, and DERIVE may be given where it comes
  may-set : (v : Bool) → (v || is_verified c.pins) ≡ true → is_verified (one v).pins ≡ true
  may-set true h = refl
  may-set false h = h

  may-derive : (v s : Bool) → eqb c.keys.kind 2 ≡ true → ((v || is_verified c.pins) || (not s && is_set c.keys.pinless)) ≡ true
      → ((is_verified (two v s).pins || is_set (two v s).keys.pinless) && eqb (two v s).keys.kind 2) ≡ true
  may-derive true true x h = x
  may-derive true false x h = x
  may-derive false true x h = rw (the-first (is_verified c.pins) false refl h) x
  may-derive false false x h = rw (h) x

  -- both paths at the end
  current-ends : (v s d : Bool) → (d ≡ false → is_there c.keys current ≡ true) → same_bytes (path_bytes (three v s d).keys.current) current ≡ true
  current-ends v s true h = path-same current
  current-ends true true false h = h refl
  current-ends true false false h = h refl
  current-ends false true false h = h refl
  current-ends false false false h = h refl

  pinless-ends : (v s d : Bool) → (s ≡ false → is_pinless c.keys pinless ≡ true) → same_bytes (path_bytes (three v s d).keys.pinless) pinless ≡ true
  pinless-ends v true true h = path-same pinless
  pinless-ends v true false h = path-same pinless
  pinless-ends true false true h = h refl
  pinless-ends true false false h = h refl
  pinless-ends false false true h = h refl
  pinless-ends false false false h = h refl

-- ---- needs_verify: it is there where a command asks for it
set-verified : (v e s d : Bool) → s ≡ true → (needs_verify v e s d || v) ≡ true
set-verified true e s d h = refl
set-verified false e true d h = refl
set-verified false e false d h = absurd (false≢true h)

derive-verified : (v e s d : Bool) → d ≡ true → ((needs_verify v e s d || v) || (not s && e)) ≡ true
derive-verified true e s d h = refl
derive-verified false e true d h = refl
derive-verified false true false true h = refl
derive-verified false false false true h = refl
derive-verified false e false false h = absurd (false≢true h)

-- ---- what the planner asks of the card, the PIN and the paths
pub record Able (c : Card) (pin current pinless : List ℕ) : Type 0 where
  pub initialised : is_initialised c ≡ true
  pub tries : not (is_zero c.pins.pin_tries) ≡ true
  pub extended : eqb c.keys.kind 2 ≡ true
  pub digits : taken_as_right pin ≡ true
  pub derives : is_path current ≡ true
  pub sets : is_path pinless ≡ true

pub able : (c : Card) (pin current pinless : List ℕ) → can_plan c pin current pinless ≡ true → Able c pin current pinless
able c pin current pinless e =
    let a = both _ _ e in
    let b = both _ _ a.0 in
    let f = both _ _ b.0 in
    let g = both _ _ f.0 in
    let h = both _ _ g.0 in
    record { initialised = h.0; tries = h.1; extended = g.1; digits = f.1; derives = b.1; sets = a.1 }

-- ---- plan_of: it runs to its end, and both paths are as asked there
module _ (c : Card) (pin current pinless : List ℕ) (a : Able c pin current pinless) (byte : c.pins.pin_tries < 256) where
  abbrev v : Bool
  v = (needs_of c.pins c.keys current pinless).verify

  abbrev s : Bool
  s = (needs_of c.pins c.keys current pinless).set

  abbrev d : Bool
  d = (needs_of c.pins c.keys current pinless).derive

  abbrev end : Card
  end = three c current pinless v s d

  run-derive : run_plan 1 (two c current pinless v s) (wanted d 0xD1 current) ≡ some end
  run-derive =
      ap (run_plan 1 (two c current pinless v s)) (sym (append-nil (wanted d 0xD1 current)))
      ∙ run-wanted d 0 (two c current pinless v s) (last c current pinless v s) end 0xD1 current []
      (two-initialised c current pinless v s a.initialised)
      (λ e. ap (after_that (two c current pinless v s) current) (at-derive refl)
      ∙ derived (two c current pinless v s) current
      (may-derive c current pinless v s a.extended (derive-verified (is_verified c.pins) (is_set c.keys.pinless) s d e)) a.derives)
      (run-ended end [] 0 refl)

  run-set : run_plan 2 (one c current pinless v) (wanted s 0xC1 pinless ++ wanted d 0xD1 current) ≡ some end
  run-set =
      run-wanted s 1 (one c current pinless v) (set c current pinless v) end 0xC1 pinless (wanted d 0xD1 current)
      (one-initialised c current pinless v a.initialised)
      (λ e. ap (after_that (one c current pinless v) pinless) (at-pinless refl)
      ∙ pinless-set (one c current pinless v) pinless
      (may-set c current pinless v (set-verified (is_verified c.pins) (is_set c.keys.pinless) s d e)) a.sets)
      run-derive

  plan-runs : run_plan 3 c (plan_of (needs_of c.pins c.keys current pinless) pin current pinless) ≡ some end
  plan-runs =
      run-wanted v 2 c (with_pins c (pin_right c.pins)) end 0x20 pin (wanted s 0xC1 pinless ++ wanted d 0xD1 current) a.initialised
      (λ e. ap (after_that c pin) (at-verify refl) ∙ verified c pin byte a.tries a.digits)
      run-set

  pub plan-accepted : accepts c (plan_of (needs_of c.pins c.keys current pinless) pin current pinless) current pinless ≡ true
  unfolding accepts
  plan-accepted =
      ap (ends_as current pinless) plan-runs
      ∙ ap₂ ◌&&◌ (current-ends c current pinless v s d (not-false (is_there c.keys current)))
      (pinless-ends c current pinless v s d (not-false (is_pinless c.keys pinless)))
