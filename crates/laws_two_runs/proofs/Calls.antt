-- One call on two sound cards that agree in all but PIN and PUK: it shows the same on both, and passes on cards that agree, since the order of
-- checks decides the same and no refusal looks at PIN and PUK but for soundness, which both cards have.
-- Assumes nothing.
use mathlib.Core.Path.{◌≡◌, refl, ap, ap₂, subst}
use mathlib.Core.Bool.{Bool, true, false, cond}
use mathlib.Core.List.{List}
use mathlib.Core.Option.{Option, none}
use Prim.Native.Nat.{ℕ}
use lib.Dec.{ltb, eqb}
use lib.ListN.{length}
use Rattle.refusals.specs.Refusals.{no_refusal, no_room, wrong_supply, unsound, answer_room}
use Rattle.card.specs.declared.Card.{Card}
use Rattle.card.specs.State.{with_secrets, reset_of}
use Rattle.card.specs.Sound.{is_sound}
use Rattle.sound.specs.Reset.{reset_answer, done, refused}
use Rattle.rules.specs.Supplies.{suits}
use Rattle.rules.specs.Steps.{decide}
use Rattle.rules.specs.Engine.{ask_out, AnswerOut, answer_refused, answered_at, answer_out}
use Rattle.rules.specs.Comparison.{Comparison, comparison}
use Rattle.laws_commands.specs.Lawful.{erase}
use Rattle.laws_engine.proofs.Refusals.{answer-refused}
use Rattle.laws_two_runs.specs.Runs.{Call, ask, answer, reset, comparison_at, secret_of, Report, of_ask, of_answer, of_reset, report_at, buffer_at, seen_at, next_at, Agree, OutAlike}
use Rattle.laws_two_runs.proofs.Erasure.{erase-agree, agree-swap}
use Rattle.laws_two_runs.proofs.Order.{decide-same, compared_same}

-- ---- what ANSWER gives, without PIN and PUK
abbrev erase_answer : AnswerOut → AnswerOut
erase_answer a = record { refusal = a.refusal; card = erase a.card; bytes = a.bytes; fault_offset = a.fault_offset }

-- what a call does on two cards
pub record StepSame (c d : Card) (k : Call) : Type 0 where
  pub seen : seen_at c k ≡ seen_at d k
  pub next : Agree (next_at c k) (next_at d k)

-- RESET powers a sound card up
pub reset-is : (c : Card) → is_sound c ≡ true → reset_answer c ≡ done (reset_of c)
unfolding reset_answer
reset-is c e = ap (λ (b : Bool). cond b (done (reset_of c)) (refused unsound c)) e

module _ (p q : List ℕ) (c : Card) (sound : is_sound c ≡ true) (sound' : is_sound (with_secrets p q c) ≡ true) where
  abbrev other : Card
  other = with_secrets p q c

  -- ---- ASK
  ask-same : (cmd : List ℕ) (room : ℕ) → ask_out c cmd room ≡ ask_out other cmd room
  unfolding ask_out
  ask-same cmd room = rw (sound, sound', (decide-same p q c cmd).supply, (decide-same p q c cmd).data')

  -- ---- ANSWER: the room decides, then the supply's form; where neither refuses, the comparison is made
  module _ (cmd s : List ℕ) where
    by : Card → Bool → Bool → AnswerOut
    by x short fits = cond short (answer_refused x no_room) (cond fits (answered_at (decide x cmd).fault_offset ((decide x cmd).answer s)) (answer_refused x wrong_supply))

    abbrev made : Card → AnswerOut → Option Comparison
    made x a = cond (eqb a.refusal no_refusal) (comparison x cmd) none

    abbrev Both : AnswerOut → AnswerOut → Type 0
    Both a b = (secret_of (made c a) ≡ secret_of (made other b)) × (OutAlike (made c a) (made other b) → erase_answer a ≡ erase_answer b)

    by_both : (short fits : Bool) → Both (by c short fits) (by other short fits)
    unfolding by
    by_both true fits = (refl, λ _. refl)
    by_both false true = (compared_same p q c cmd, λ h. ap₂ answered_at (decide-same p q c cmd).fault_offset ((decide-same p q c cmd).answer h s))
    by_both false false = (refl, λ _. refl)

    answer-both : (room : ℕ) → Both (answer_out c cmd s room) (answer_out other cmd s room)
    unfolding answer_out by
    answer-both room =
        rw (sound, sound', ← (decide-same p q c cmd).supply) (by_both (ltb room answer_room) (suits (decide c cmd).supply s))

  -- ---- a call
  call-swap : (k : Call) → OutAlike (comparison_at c k) (comparison_at other k) → StepSame c other k
  unfolding seen_at report_at buffer_at next_at comparison_at
  call-swap (ask cmd buf) h = record { seen = rw (ask-same cmd (length buf)); next = erase-agree c other refl }
  call-swap (answer cmd s buf) h =
      let both = answer-both cmd s (length buf) in
      let e : erase_answer (answer_out c cmd s (length buf)) ≡ erase_answer (answer_out other cmd s (length buf)) = both.1 h in
      record {
        seen = cc (
          ap (λ (o : AnswerOut). o.refusal) e,
          ap (λ (o : AnswerOut). o.bytes) e,
          ap (λ (o : AnswerOut). o.card) e,
          ap (λ (o : AnswerOut). o.fault_offset) e,
          both.0,
        );
        next = erase-agree (answer_out c cmd s (length buf)).card (answer_out other cmd s (length buf)).card
            (ap (λ (o : AnswerOut). o.card) e);
      }
  call-swap reset h = record {
    seen = rw (reset-is c sound, reset-is other sound');
    next = erase-agree (reset_answer c).card (reset_answer other).card (rw (reset-is c sound, reset-is other sound'));
  }

pub call_same : (c d : Card) (k : Call) → is_sound c ≡ true → is_sound d ≡ true → Agree c d → OutAlike (comparison_at c k) (comparison_at d k)
    → StepSame c d k
call_same c d k sc sd a =
    subst (λ (x : Card). is_sound x ≡ true → OutAlike (comparison_at c k) (comparison_at x k) → StepSame c x k) (agree-swap c d a)
    (λ e h. call-swap d.pins.pin d.pins.puk c sc e k h) sd

-- ---- ASK and a refused call pass on the card that they were given
pub ask-passes : (c : Card) (cmd buf : List ℕ) → next_at c (ask cmd buf) ≡ c
unfolding next_at
ask-passes c cmd buf = refl

abbrev pub refusal_of : Report → ℕ
refusal_of (of_ask r) = r.refusal
refusal_of (of_answer r) = r.refusal
refusal_of (of_reset r) = r.refusal

pub refused-passes : (c : Card) (k : Call) → (refusal_of (report_at c k) ≡ no_refusal → ⊥) → next_at c k ≡ c
unfolding report_at next_at reset_answer
refused-passes c (ask cmd buf) n = refl
refused-passes c (answer cmd s buf) n = (answer-refused c cmd s (length buf) n).0
refused-passes c reset n = go (is_sound c) n
  where
    go : (b : Bool) → ((cond b (done (reset_of c)) (refused unsound c)).refusal ≡ no_refusal → ⊥)
        → (cond b (done (reset_of c)) (refused unsound c)).card ≡ c
    go true m = absurd (m refl)
    go false m = refl
