-- Verification at a call: as long as the channel is open the steps leave it as it was, a closed channel ends it, and at its own checks a command
-- does with it what its rule says; the next card is sound, and a sound card is verified in stage 2 alone.
-- Assumes nothing.
use mathlib.Core.Path.{◌≡◌, refl, sym, ap, ◌∙◌, subst}
use mathlib.Core.Bool.{Bool, true, false, ◌&&◌, not, cond, false≢true}
use mathlib.Core.List.{List, []}
use mathlib.Core.Logic.{◌⊎◌, inl, inr}
use mathlib.Core.Option.{Option, none, some}
use Prim.Native.Nat.{ℕ}
use native.Mathlib.Omega.{arith}
use borrow.Author.Tests.{eqb-true, ne_eqb, eq-eqb, not-false}
use lib.Dec.{ltb, leb, eqb}
use lib.ListN.{length}
use Rattle.template_rules.proofs.HeadFacts.{by-test}
use Rattle.refusals.specs.Refusals.{no_refusal, answer_room}
use Rattle.card.specs.declared.Pins.{Pins}
use Rattle.card.specs.declared.Card.{Card}
use Rattle.card.specs.State.{closed}
use Rattle.card.specs.Slots.{is_zero}
use Rattle.card.specs.Sound.{is_sound}
use Rattle.card.proofs.Tests.{both, the-first}
use Rattle.card.proofs.SoundFacts.{verified-stage}
use Rattle.sound.specs.declared.Answer.{Answer}
use Rattle.sound.specs.Reset.{reset_answer}
use Rattle.rules.specs.declared.Command.{Command}
use Rattle.rules.specs.Results.{Verdict}
use Rattle.rules.specs.Words.{wrong_parameters, Hold, Reply, fails}
use Rattle.rules.specs.Supplies.{suits}
use Rattle.rules.specs.Rules.{Secret, pin, puk, outcome_of}
use Rattle.rules.specs.Rows.{row_of, offered, is_plain}
use Rattle.rules.specs.Commands.{is_verified, rule_of}
use Rattle.rules.specs.Channel.{Outgoing, tell}
use Rattle.rules.specs.Steps.{Step, goes, step1, p1_of, p2_of, is_initialised, Opened, Arrived, arrival, checks_of, supply_of, reply_of, by_verdict, step6, finish, decide}
use Rattle.rules.specs.Engine.{AnswerOut, answered, answer_out}
use Rattle.rules.specs.Comparison.{Comparison, compared, compared_by, compared_at6, compared_past, comparison}
use Rattle.laws_commands.specs.Verified.{verified_by, verified_if, verified_after}
use Rattle.laws_commands.specs.Lawful.{Fit}
use Rattle.laws_commands.proofs.Checks.{never, open-two, by-verdict}
use Rattle.laws_commands.proofs.Parts.{itself-fit, stage-two, closed-fit, forgotten-fit}
use Rattle.laws_commands.proofs.Arrival.{At, card_at, lost_at, arrived_at, by-step5, by-opened, by-past_step1, ready}
use Rattle.laws_commands.proofs.Table.{lawful}
use Rattle.laws_engine.proofs.Sound.{step1-keeps, begun-keeps, failed-keeps, opened-fit, decide-sound}
use Rattle.laws_two_runs.specs.Runs.{Call, ask, answer, reset, comparison_at, next_at}
use Rattle.laws_two_runs.specs.Verification.{right, Verification}
use Rattle.laws_two_runs.proofs.Order.{by-arrival, pins-at, same-compared}
use Rattle.laws_two_runs.proofs.Calls.{reset-is}
use Rattle.laws_two_runs.proofs.TwoRuns.{next-sound}
use Rattle.laws_two_runs.proofs.Compared.{At6, at6}

-- ---- a sound card is verified in stage 2 alone
pub not-verified : (c : Card) → is_sound c ≡ true → eqb c.channel.stage 2 ≡ false → is_verified c.pins ≡ false
not-verified c e z = ap not (the-first (is_zero c.pins.verified) (eqb c.channel.stage 2) z (verified-stage c e))

-- so that it is enough to know it there
exact : (c : Card) → is_sound c ≡ true → (b : Bool) → (c.channel.stage ≡ 2 → is_verified c.pins ≡ b)
    → is_verified c.pins ≡ (eqb c.channel.stage 2 && b)
exact c e b h = go (eqb c.channel.stage 2) refl
  where
    go : (t : Bool) → eqb c.channel.stage 2 ≡ t → is_verified c.pins ≡ (t && b)
    go true z = h (eqb-true c.channel.stage 2 z)
    go false z = not-verified c e z

-- ---- through the steps, from the card c
module _ (c : Card) (cmd : List ℕ) (sound : is_sound c ≡ true) where
  -- as long as the channel is open, its stage and verification are as they were
  abbrev Kept : Card → Type 0
  Kept x = (x.channel.stage ≡ 0 → ⊥) → (x.channel.stage ≡ c.channel.stage) × (is_verified x.pins ≡ is_verified c.pins)

  closes : (x : Card) → Kept x → Kept (closed x)
  closes x k n = absurd (n refl)

  step1-kept : Kept (step1 cmd c)
  step1-kept = step1-keeps Kept closes (λ x k. k) cmd c (λ n. (refl, refl))

  opened-kept : (x : At cmd (step1 cmd c)) → Kept x.opened.card
  opened-kept x = by-opened (λ (o : Opened). Kept o.card) x.instruction cmd (step1 cmd c) x.field
      (λ _. step1-kept) (λ _ _ _ _. step1-kept) x.opened x.opens

  begun_kept : (x : At cmd (step1 cmd c)) → Kept (card_at x.instruction x.opened)
  begun_kept x = begun-keeps Kept closes (λ y k. k) (row_of x.instruction).loss x.opened.card (opened-kept x)

  lost-kept : (x : At cmd (step1 cmd c)) → Kept (lost_at x.instruction cmd x.opened)
  lost-kept x =
      failed-keeps Kept closes (λ y k. k) (row_of x.instruction).loss (p1_of cmd) (card_at x.instruction x.opened) (begun_kept x)

  -- and the cards there are sound
  opened-fits : (x : At cmd (step1 cmd c)) → Fit c x.opened.card
  opened-fits = opened-fit c cmd (step1 cmd c) (step1-keeps (Fit c) (closed-fit c) (forgotten-fit c) cmd c (itself-fit c sound))

  pub begun-sound : (x : At cmd (step1 cmd c)) → is_sound (card_at x.instruction x.opened) ≡ true
  begun-sound x =
      (begun-keeps (Fit c) (closed-fit c) (forgotten-fit c) (row_of x.instruction).loss x.opened.card (opened-fits x)).sound

  pub offer-kept : (x : At cmd (step1 cmd c))
      → offered (row_of x.instruction).offer (is_initialised (card_at x.instruction x.opened)) ≡ true
  offer-kept x = begun-keeps (λ (y : Card). offered (row_of x.instruction).offer (is_initialised y) ≡ true) (λ y h. h) (λ y h. h)
      (row_of x.instruction).loss x.opened.card (ready cmd c x).offer

  -- ---- verification on a card that is left in stage 2, after this comparison
  abbrev Leaves : Option Comparison → Card → Type 0
  Leaves m x = x.channel.stage ≡ 2 → is_verified x.pins ≡ verified_after m (is_verified c.pins)

  kept_leaves : (x : Card) → Kept x → Leaves none x
  kept_leaves x k t = (k (open-two x.channel.stage t)).1

  tell-leaves : (m : Option Comparison) (over : Bool) (r : Reply) → Leaves m r.card → Leaves m (tell over r).card
  unfolding tell
  tell-leaves m over r h = by-test (λ (t : Outgoing). Leaves m t.card) (over && eqb r.card.channel.stage 2) (λ _. h) (λ _. h)

  after-compared : (o : Option Secret) (p : Pins) (d : List ℕ) (was : Bool)
      → verified_if o (outcome_of o p d) was ≡ verified_after (compared o p d) was
  after-compared none p d was = refl
  after-compared (some s) p d was = refl

  -- a command at its checks
  module _ (x : At cmd (step1 cmd c)) (k : Command) (listed : (row_of x.instruction).lists (p1_of cmd) (p2_of cmd) ≡ some k) where
    abbrev a : Arrived
    a = arrived_at x.instruction cmd x.opened k

    abbrev o : Option Secret
    o = (rule_of k).compares

    reply-leaves : (s : List ℕ) → Hold (checks_of k a.card a.data')
        → Leaves (compared o a.card.pins a.data') (reply_of k a.card a.data' s).card
    reply-leaves s h t =
        let was = is_verified a.card.pins in
        let v = (lawful x.instruction (p1_of cmd) (p2_of cmd) k listed).verifies (outcome_of o a.card.pins a.data') a.card a.data' s
        (begun-sound x) (offer-kept x) h t in
        v.1
        ∙ after-compared o a.card.pins a.data' was
        ∙ ap (verified_after (compared o a.card.pins a.data')) (begun_kept x v.0).1

    step6-leaves : (s : List ℕ) → Leaves (compared_at6 a.card.pins a) ((step6 a).answer s).card
    unfolding step6
    step6-leaves s = by-verdict (λ (v : Verdict). Leaves (compared_by a.card.pins a v) ((by_verdict a v).answer s).card) (supply_of k)
        (checks_of k a.card a.data')
        (λ h. tell-leaves (compared o a.card.pins a.data') a.over (reply_of k a.card a.data' s) (reply-leaves s h))
        (λ w. tell-leaves none a.over (fails a.lost w) (kept_leaves a.lost (lost-kept x)))

    -- one that compares does so in stage 2
    compares-in-2 : (m : Comparison) → compared_at6 c.pins a ≡ some m → c.channel.stage ≡ 2
    compares-in-2 m e =
        let n = (lawful x.instruction (p1_of cmd) (p2_of cmd) k listed).compares m.of (at6 c.pins a m e).compares in
        let stage : leb 2 x.opened.card.channel.stage ≡ true = rw n at ((ready cmd c x).stage (rw n)) in
        let two = stage-two x.opened.card (opened-fits x).sound stage in
        sym (opened-kept x (open-two x.opened.card.channel.stage two)).0 ∙ two

  -- ---- the whole order of checks
  abbrev Past : Step Arrived → Type 0
  Past y = (s : List ℕ) → Leaves (compared_past c.pins y) ((finish y).answer s).card

  decide-leaves : (s : List ℕ) → Leaves (comparison c cmd) ((decide c cmd).answer s).card
  unfolding decide comparison arrival
  decide-leaves = by-past_step1 Past cmd (step1 cmd c) (λ w s. kept_leaves (step1 cmd c) step1-kept) (λ s t. absurd (omega (arith, t)))
      (λ x. by-step5 Past x.instruction cmd x.opened
      (λ s. tell-leaves none (not (is_plain x.instruction)) (fails (lost_at x.instruction cmd x.opened) wrong_parameters)
      (kept_leaves (lost_at x.instruction cmd x.opened) (lost-kept x)))
      (λ k listed s.
      let y : Arrived = arrived_at x.instruction cmd x.opened k in
      subst (λ (m : Option Comparison). Leaves m ((step6 y).answer s).card) (same-compared y.card.pins c.pins (goes y) (pins-at c cmd x))
      (step6-leaves x k listed s)))

  compared-in-2 : (m : Comparison) → comparison c cmd ≡ some m → c.channel.stage ≡ 2
  unfolding comparison
  compared-in-2 m e = by-arrival (λ (y : Step Arrived). compared_past c.pins y ≡ some m → c.channel.stage ≡ 2) c cmd
      (λ t i. never m i) (λ x k listed. compares-in-2 x k listed m) e

-- ---- ANSWER, of a sound card
module _ (c : Card) (cmd s : List ℕ) (room : ℕ) (sound : is_sound c ≡ true) where
  abbrev made_by : AnswerOut → Option Comparison
  made_by o = cond (eqb o.refusal no_refusal) (comparison c cmd) none

  abbrev Exact : AnswerOut → Type 0
  Exact o = is_verified o.card.pins ≡ (eqb o.card.channel.stage 2 && verified_after (made_by o) (is_verified c.pins))

  refused-exact : is_verified c.pins ≡ (eqb c.channel.stage 2 && is_verified c.pins)
  refused-exact = exact c sound (is_verified c.pins) (λ _. refl)

  answer-exact : Exact (answer_out c cmd s room)
  unfolding answer_out
  answer-exact = by-test Exact (is_sound c)
      (λ _. by-test Exact (ltb room answer_room) (λ _. refused-exact)
      (λ _. by-test Exact (suits (decide c cmd).supply s)
      (λ u. exact ((decide c cmd).answer s).card (decide-sound c cmd s sound u) (verified_after (comparison c cmd) (is_verified c.pins))
      (decide-leaves c cmd sound s))
      (λ _. refused-exact)))
      (λ _. refused-exact)

-- ---- a call
pub call-exact : (c : Card) (k : Call) → is_sound c ≡ true
    → is_verified (next_at c k).pins ≡ (eqb (next_at c k).channel.stage 2 && verified_after (comparison_at c k) (is_verified c.pins))
unfolding next_at comparison_at
call-exact c (ask cmd buf) e = refused-exact c cmd [] 0 e
call-exact c (answer cmd s buf) e = answer-exact c cmd s (length buf) e
call-exact c reset e = subst Reset (sym (reset-is c e)) refl
  where
    Reset : Answer → Type 0
    Reset a = is_verified a.card.pins ≡ (eqb a.card.channel.stage 2 && is_verified c.pins)

-- an unsound card is passed on as it is
unsound-passes : (c : Card) (k : Call) → is_sound c ≡ false → next_at c k ≡ c
unfolding next_at answer_out reset_answer
unsound-passes c (ask cmd buf) e = refl
unsound-passes c (answer cmd s buf) e = rw (next_at, e)
unsound-passes c reset e = rw (next_at, e)

call-in-2 : (c : Card) (k : Call) → is_sound c ≡ true → (m : Comparison) → comparison_at c k ≡ some m → c.channel.stage ≡ 2
unfolding comparison_at
call-in-2 c (ask cmd buf) e m = λ i. never m i
call-in-2 c (answer cmd s buf) e m = by-test (λ (o : Option Comparison). o ≡ some m → c.channel.stage ≡ 2)
    (eqb (answer_out c cmd s (length buf)).refusal no_refusal) (λ _ i. compared-in-2 c cmd e m i) (λ _ i. never m i)
call-in-2 c reset e m = λ i. never m i

module _ (c : Card) (k : Call) where
  abbrev n : Card
  n = next_at c k

  call_ends : c.channel.stage ≡ 2 → (n.channel.stage ≡ 2 → ⊥) → n.pins.verified ≡ 0
  call_ends e f = go (is_sound c) refl
    where
      go : (b : Bool) → is_sound c ≡ b → n.pins.verified ≡ 0
      go true i = eqb-true n.pins.verified 0
          (not-false _ (not-verified n (next-sound c k i) (ne_eqb n.channel.stage 2 f)))
      go false i = absurd (f (ap (λ (x : Card). x.channel.stage) (unsound-passes c k i) ∙ e))

  abbrev Begun : Type 0
  Begun = (c.channel.stage ≡ 2) × ((comparison_at c k ≡ right pin) ⊎ (comparison_at c k ≡ right puk))

  begun-by : is_sound c ≡ true → (s : Secret) (b : Bool) → comparison_at c k ≡ some (record { of = s; right = b }) → verified_by s b false ≡ true → Begun
  begun-by e pin true i v = (call-in-2 c k e _ i, inl i)
  begun-by e pin false i v = absurd (false≢true v)
  begun-by e puk true i v = (call-in-2 c k e _ i, inr i)
  begun-by e puk false i v = absurd (false≢true v)

  begun-after : is_sound c ≡ true → (m : Option Comparison) → comparison_at c k ≡ m → verified_after m false ≡ true → Begun
  begun-after e none i v = absurd (false≢true v)
  begun-after e (some x) i v = begun-by e x.of x.right i v

  call-begins : c.pins.verified ≡ 0 → (n.pins.verified ≡ 0 → ⊥) → Begun
  call-begins z f = go (is_sound c) refl
    where
      go : (b : Bool) → is_sound c ≡ b → Begun
      go true i = begun-after i (comparison_at c k) refl
          (ap (verified_after (comparison_at c k)) (sym (ap not (eq-eqb c.pins.verified 0 z)))
          ∙ (both (eqb n.channel.stage 2) (verified_after (comparison_at c k) (is_verified c.pins))
          (sym (call-exact c k i) ∙ ap not (ne_eqb n.pins.verified 0 f))).1)
      go false i = absurd (f (ap (λ (x : Card). x.pins.verified) (unsound-passes c k i) ∙ z))

  pub verification : Verification c k
  verification = record { exactly = call-exact c k; ends = call_ends; begins = call-begins }
