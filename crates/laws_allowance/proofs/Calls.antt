-- What every call does with the tries, of every card: the steps leave them as they are, a command at its checks does with them what its reply says, and so
-- does ANSWER; ASK, RESET and a refused call change none.
-- Assumes nothing.
use mathlib.Core.Path.{◌≡◌, refl, sym, ap, ◌∙◌, subst}
use mathlib.Core.Bool.{Bool, ◌&&◌, not, cond}
use mathlib.Core.List.{List}
use mathlib.Core.Option.{Option, none, some}
use Prim.Native.Nat.{ℕ}
use lib.Dec.{ltb, eqb}
use lib.ListN.{length}
use Rattle.template_rules.proofs.HeadFacts.{by-test}
use Rattle.refusals.specs.Refusals.{no_refusal, answer_room}
use Rattle.card.specs.declared.Pins.{Pins}
use Rattle.card.specs.declared.Card.{Card}
use Rattle.card.specs.Sound.{is_sound}
use Rattle.sound.specs.declared.Answer.{Answer}
use Rattle.sound.specs.Reset.{reset_answer}
use Rattle.rules.specs.declared.Command.{Command}
use Rattle.rules.specs.Results.{Verdict}
use Rattle.rules.specs.Words.{wrong_parameters, Hold, Reply, fails}
use Rattle.rules.specs.Supplies.{suits}
use Rattle.rules.specs.Rules.{Secret, pin, puk, outcome_of}
use Rattle.rules.specs.Rows.{row_of, is_plain}
use Rattle.rules.specs.Commands.{rule_of}
use Rattle.rules.specs.Channel.{Outgoing, tell}
use Rattle.rules.specs.Steps.{Step, goes, step1, p1_of, Opened, Arrived, arrival, checks_of, supply_of, reply_of, by_verdict, step6, finish, decide}
use Rattle.rules.specs.Engine.{AnswerOut, answer_out}
use Rattle.rules.specs.Comparison.{Comparison, compared, compared_by, compared_at6, compared_past, comparison}
use Rattle.laws_commands.proofs.Arrival.{At, card_at, lost_at, arrived_at, by-step5, by-opened, by-past_step1}
use Rattle.laws_engine.proofs.Sound.{step1-keeps, begun-keeps, failed-keeps}
use Rattle.laws_two_runs.specs.Runs.{Call, ask, answer, reset, comparison_at, next_at}
use Rattle.laws_two_runs.proofs.Order.{pins-at, same-compared}
use Rattle.laws_allowance.specs.Events.{given_by, word_by, given_at6, given_past, given, succeeded_at, Event, event_at}
use Rattle.laws_allowance.specs.Tries.{tries_after, Leaves}
use Rattle.laws_allowance.proofs.Replies.{made_by, did, not-given, Kept, nothing-set, replies, by-verdict-errors, errors}

-- ---- the same from pins with the same tries, and for an event that did the same
from-kept : (e : Event) (p p' q : Pins) → Kept p p' → Leaves e p' q → Leaves e p q
from-kept e p p' q k h = record {
  pintries = h.pintries ∙ ap (tries_after pin e) k.0;
  puktries = h.puktries ∙ ap (tries_after puk e) k.1;
  pinleft = λ t z. h.pinleft t (k.0 ∙ z);
  pukleft = λ t z. h.pukleft t (k.1 ∙ z);
  blocked = λ t. sym k.0 ∙ h.blocked t;
}

of-event : (e : Event) (p q : Pins) → Leaves (did e.compared e.succeeded) p q → Leaves e p q
of-event e p q h = record {
  pintries = h.pintries;
  puktries = h.puktries;
  pinleft = h.pinleft;
  pukleft = h.pukleft;
  blocked = h.blocked;
}

-- nothing done
idle : (p q : Pins) → Kept p q → Leaves (did none none) p q
idle p q k = nothing-set none p q refl refl k

-- ---- how an answer goes out does not matter
tell-pins : (over : Bool) (r : Reply) → (tell over r).card.pins ≡ r.card.pins
unfolding tell
tell-pins over r = by-test (λ (t : Outgoing). t.card.pins ≡ r.card.pins) (over && eqb r.card.channel.stage 2) (λ _. refl) (λ _. refl)

tell-leaves : (e : Event) (p : Pins) (over : Bool) (r : Reply) → Leaves e p r.card.pins → Leaves e p (tell over r).card.pins
tell-leaves e p over r h = subst (λ (q : Pins). Leaves e p q) (sym (tell-pins over r)) h

made-compared : (o : Option Secret) (p : Pins) (d : List ℕ) → made_by o (outcome_of o p d) ≡ compared o p d
made-compared none p d = refl
made-compared (some s) p d = refl

-- ---- through the steps
module _ (c : Card) (cmd : List ℕ) where
  abbrev Same : Card → Type 0
  Same x = Kept c.pins x.pins

  step1-same : Same (step1 cmd c)
  step1-same = step1-keeps Same (λ x k. k) (λ x k. k) cmd c (refl, refl)

  begun-same : (x : At cmd (step1 cmd c)) → Same (card_at x.instruction x.opened)
  begun-same x = begun-keeps Same (λ y k. k) (λ y k. k) (row_of x.instruction).loss x.opened.card
      (by-opened (λ (o : Opened). Same o.card) x.instruction cmd (step1 cmd c) x.field (λ _. step1-same) (λ _ _ _ _. step1-same)
      x.opened x.opens)

  lost-same : (x : At cmd (step1 cmd c)) → Same (lost_at x.instruction cmd x.opened)
  lost-same x =
      failed-keeps Same (λ y k. k) (λ y k. k) (row_of x.instruction).loss (p1_of cmd) (card_at x.instruction x.opened) (begun-same x)

  -- a command at its checks
  module _ (x : At cmd (step1 cmd c)) (k : Command) where
    abbrev a : Arrived
    a = arrived_at x.instruction cmd x.opened k

    abbrev o : Option Secret
    o = (rule_of k).compares

    reply-leaves : (s : List ℕ) → Hold (checks_of k a.card a.data')
        → Leaves (did (compared o a.card.pins a.data') (given_by k (reply_of k a.card a.data' s).status)) c.pins
        (reply_of k a.card a.data' s).card.pins
    reply-leaves s h =
        let r : Reply = reply_of k a.card a.data' s in
        from-kept _ c.pins a.card.pins r.card.pins (begun-same x)
        (subst (λ (m : Option Comparison). Leaves (did m (given_by k r.status)) a.card.pins r.card.pins)
        (made-compared o a.card.pins a.data') (replies k (outcome_of o a.card.pins a.data') a.card a.data' s h))

    step6-leaves : (s : List ℕ) → Leaves (did (compared_at6 a.card.pins a) (given_at6 s a)) c.pins ((step6 a).answer s).card.pins
    unfolding step6
    step6-leaves s =
        by-verdict-errors (λ (v : Verdict).
        Leaves (did (compared_by a.card.pins a v) (given_by k (word_by a s v))) c.pins ((by_verdict a v).answer s).card.pins)
        (supply_of k) (checks_of k a.card a.data') (errors k a.card a.data')
        (λ h. tell-leaves _ c.pins a.over (reply_of k a.card a.data' s) (reply-leaves s h))
        (λ w e. tell-leaves (did none (given_by k w)) c.pins a.over (fails a.lost w)
        (subst (λ (g : Option Command). Leaves (did none g) c.pins a.lost.pins) (sym (not-given k w e))
        (idle c.pins a.lost.pins (lost-same x))))

  -- ---- the whole order of checks
  abbrev Past : Step Arrived → Type 0
  Past y = (s : List ℕ) → Leaves (did (compared_past c.pins y) (given_past s y)) c.pins ((finish y).answer s).card.pins

  decide-leaves : (s : List ℕ) → Leaves (did (comparison c cmd) (given c cmd s)) c.pins ((decide c cmd).answer s).card.pins
  unfolding decide comparison arrival given
  decide-leaves = by-past_step1 Past cmd (step1 cmd c) (λ w s. idle c.pins (step1 cmd c).pins step1-same)
      (λ s. idle c.pins _ step1-same)
      (λ x. by-step5 Past x.instruction cmd x.opened
      (λ s. tell-leaves _ c.pins (not (is_plain x.instruction)) (fails (lost_at x.instruction cmd x.opened) wrong_parameters)
      (idle c.pins (lost_at x.instruction cmd x.opened).pins (lost-same x)))
      (λ k listed s.
      let y : Arrived = arrived_at x.instruction cmd x.opened k in
      subst (λ (m : Option Comparison). Leaves (did m (given_at6 s y)) c.pins ((step6 y).answer s).card.pins)
      (same-compared y.card.pins c.pins (goes y) (pins-at c cmd x)) (step6-leaves x k s)))

-- ---- ANSWER
module _ (c : Card) (cmd s : List ℕ) (room : ℕ) where
  abbrev Answers : AnswerOut → Type 0
  Answers o =
      Leaves (did (cond (eqb o.refusal no_refusal) (comparison c cmd) none) (cond (eqb o.refusal no_refusal) (given c cmd s) none))
      c.pins o.card.pins

  answer-leaves : Answers (answer_out c cmd s room)
  unfolding answer_out
  answer-leaves = by-test Answers (is_sound c)
      (λ _. by-test Answers (ltb room answer_room) (λ _. idle c.pins c.pins (refl, refl))
      (λ _. by-test Answers (suits (decide c cmd).supply s) (λ _. decide-leaves c cmd s) (λ _. idle c.pins c.pins (refl, refl))))
      (λ _. idle c.pins c.pins (refl, refl))

-- ---- a call
did-leaves : (c : Card) (k : Call) → Leaves (did (comparison_at c k) (succeeded_at c k)) c.pins (next_at c k).pins
unfolding next_at comparison_at succeeded_at reset_answer
did-leaves c (ask cmd buf) = idle c.pins c.pins (refl, refl)
did-leaves c (answer cmd s buf) = answer-leaves c cmd s (length buf)
did-leaves c reset = by-test (λ (a : Answer). Leaves (did none none) c.pins a.card.pins) (is_sound c)
    (λ _. idle c.pins _ (refl, refl)) (λ _. idle c.pins c.pins (refl, refl))

pub call-leaves : (c : Card) (k : Call) → Leaves (event_at c k) c.pins (next_at c k).pins
unfolding event_at
call-leaves c k = of-event (event_at c k) c.pins (next_at c k).pins (did-leaves c k)
