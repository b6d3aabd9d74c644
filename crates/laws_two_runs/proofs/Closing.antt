-- The ways to lose the channel, for every card and command: OPEN past step 3, SELECT that succeeds, and a command over the channel that does not
-- open. Where ANSWER is not refused, the next card is not in stage 2, and so the PIN is not verified.
-- Assumes nothing.
use Rattle.std.specs.Prelude.{Ok}
use mathlib.Core.Path.{◌≡◌, refl, sym, ap, ◌∙◌, subst}
use mathlib.Core.Bool.{Bool, true, false, ◌&&◌, not}
use mathlib.Core.List.{List}
use mathlib.Core.Option.{Option, none, some}
use Prim.Native.Nat.{ℕ}
use native.Mathlib.Omega.{arith}
use borrow.Author.Tests.{eqb-true, ne_eqb, not-false}
use lib.Dec.{ltb, eqb}
use lib.ListN.{length}
use Rattle.template_rules.proofs.HeadFacts.{by-test}
use Rattle.refusals.specs.Refusals.{answer_room}
use Rattle.card.specs.declared.Channel.{Channel}
use Rattle.card.specs.declared.Card.{Card}
use Rattle.card.specs.State.{with_channel, closed}
use Rattle.card.specs.Sound.{is_sound}
use Rattle.rules.specs.declared.Instruction.{Instruction}
use Rattle.rules.specs.declared.Instruction.TheVariants as ins
use Rattle.rules.specs.Results.{Named}
use Rattle.rules.specs.Results.{Verdict}
use Rattle.rules.specs.Words.{wrong_parameters, Reply, fails}
use Rattle.rules.specs.Supplies.{suits}
use Rattle.rules.specs.Rules.{outcome_of}
use Rattle.rules.specs.Rows.{row_of, is_plain}
use Rattle.rules.specs.Commands.{application_id, select_checks, select_reply, rule_of}
use Rattle.rules.specs.Channel.{Outgoing, tell}
use Rattle.rules.specs.Steps.{Step, begins, step1, data_of, cla_of, ins_of, p1_of, p2_of, name_of, is_initialised, Opened, opened_by, in_stage, step4, Arrived, step5, past_step1, arrival, checks_of, supply_of, reply_of, by_verdict, step6, finish, decide}
use Rattle.rules.specs.Engine.{AnswerOut, answered, answer_out}
use Rattle.laws_commands.proofs.Checks.{by-verdict}
use Rattle.laws_commands.proofs.Arrival.{At, arrived_at, by-step5}
use Rattle.laws_commands.proofs.Table.{lawful, row_lawful}
use Rattle.laws_engine.proofs.Sound.{step1-keeps, answer-sound}
use Rattle.laws_two_runs.specs.Verification.{Lost}
use Rattle.laws_two_runs.proofs.Sealed.{step1-stage2}
use Rattle.laws_two_runs.proofs.Verification.{not-verified, begun-sound, offer-kept}

-- ---- an answer that goes out keeps the stage of the reply's card
tell-stage : (over : Bool) (r : Reply) → (tell over r).card.channel.stage ≡ r.card.channel.stage
unfolding tell
tell-stage over r =
    by-test (λ (t : Outgoing). t.card.channel.stage ≡ r.card.channel.stage) (over && eqb r.card.channel.stage 2) (λ _. refl) (λ _. refl)

-- step 1 leaves an initialised card initialised
step1-named : (c : Card) (cmd : List ℕ) (i : Instruction) → name_of (is_initialised c) (cla_of cmd) (ins_of cmd) ≡ Ok i
    → name_of (is_initialised (step1 cmd c)) (cla_of cmd) (ins_of cmd) ≡ Ok i
step1-named c cmd i e =
    step1-keeps (λ (x : Card). name_of (is_initialised x) (cla_of cmd) (ins_of cmd) ≡ Ok i) (λ _ h. h) (λ _ h. h) cmd c e

-- ---- what the order of checks leaves
module _ (c : Card) (cmd field : List ℕ) (sound : is_sound c ≡ true) (form : data_of cmd ≡ some field) where
  abbrev x : Card
  x = step1 cmd c

  -- OPEN: its checks and its reply get the closed card
  module _ (name : name_of (is_initialised c) (cla_of cmd) (ins_of cmd) ≡ Ok ins.Open) where
    abbrev o : Opened
    o = record { card = x; data' = field }

    at : At cmd x
    unfolding step4
    at = record { field = field; instruction = ins.Open; opened = o; form = form; name = step1-named c cmd ins.Open name; opens = refl }

    arrives : arrival c cmd ≡ step5 ins.Open cmd o
    unfolding arrival past_step1 step4
    arrives = rw (form, step1-named c cmd ins.Open name)

    open-out : (s : List ℕ) → ((decide c cmd).answer s).card.channel.stage ≡ 2 → ⊥
    unfolding decide step6 at
    open-out s = subst (λ (y : Step Arrived). ((finish y).answer s).card.channel.stage ≡ 2 → ⊥) (sym arrives)
        (by-step5 (λ (y : Step Arrived). ((finish y).answer s).card.channel.stage ≡ 2 → ⊥) ins.Open cmd o
        (λ t. omega (arith, tell-stage false (fails (closed x) wrong_parameters), t))
        (λ k listed. by-verdict (λ (v : Verdict). ((by_verdict (arrived_at ins.Open cmd o k) v).answer s).card.channel.stage ≡ 2 → ⊥)
        (supply_of k) (checks_of k (closed x) field)
        (λ h t. ((lawful ins.Open (p1_of cmd) (p2_of cmd) k listed).verifies (outcome_of (rule_of k).compares (closed x).pins field) (closed x) field s
        (begun-sound c cmd sound at) (offer-kept c cmd sound at) h (sym (tell-stage false (reply_of k (closed x) field s)) ∙ t)).0 refl)
        (λ w t. omega (arith, tell-stage false (fails (closed x) w), t))))

  -- SELECT with the application's name
  select-out : name_of (is_initialised c) (cla_of cmd) (ins_of cmd) ≡ Ok ins.Select → p1_of cmd ≡ 0x04 → p2_of cmd ≡ 0x00
      → field ≡ application_id → (s : List ℕ) → ((decide c cmd).answer s).card.channel.stage ≡ 2 → ⊥
  unfolding decide arrival past_step1 step4 step5 step6 rule_of select_checks select_reply tell
  select-out name p1 p2 id s t = omega (arith, sym t ∙ closes)
    where
      closes : ((decide c cmd).answer s).card.channel.stage ≡ 0
      closes = rw (form, step1-named c cmd ins.Select name, p1, p2, id)

  -- a command over the channel in stage 2 whose field does not open
  unopened-out : (i : Instruction) → name_of (is_initialised c) (cla_of cmd) (ins_of cmd) ≡ Ok i → is_plain i ≡ false → c.channel.stage ≡ 2
      → opened_by c cmd field ≡ none → (s : List ℕ) → ((decide c cmd).answer s).card.channel.stage ≡ 2 → ⊥
  unfolding decide arrival past_step1 step4
  unopened-out i name over in2 shut s t = omega (arith, sym t ∙ closes)
    where
      same : x.channel ≡ c.channel
      same = ap (λ (y : Card). y.channel) (step1-stage2 c cmd in2) ∙ by-test (λ (y : Card). y.channel ≡ c.channel) (begins 0x12 cmd) (λ _. refl) (λ _. refl)

      staged : in_stage i x.channel.stage ≡ true
      staged = ap (λ (k : Channel). in_stage i k.stage) same ∙ ap (in_stage i) in2 ∙ (row_lawful i).stage

      shut' : opened_by x cmd field ≡ none
      shut' = ap (λ (k : Channel). opened_by (with_channel c k) cmd field) same ∙ shut

      closes : ((decide c cmd).answer s).card.channel.stage ≡ 0
      closes = rw (form, step1-named c cmd i name, over, staged, shut')

-- ---- ANSWER, where it is not refused
module _ (c : Card) (cmd s : List ℕ) (room : ℕ) where
  abbrev out : AnswerOut
  out = answer_out c cmd s room

  abbrev Told : AnswerOut → Type 0
  Told a = a.refusal ≡ 0 → a.card ≡ ((decide c cmd).answer s).card

  taken-told : Told out
  unfolding answer_out
  taken-told = by-test Told (is_sound c)
      (λ _. by-test Told (ltb room answer_room) (λ _ z. absurd (omega (arith, z)))
      (λ _. by-test Told (suits (decide c cmd).supply s) (λ _ _. refl) (λ _ z. absurd (omega (arith, z)))))
      (λ _ z. absurd (omega (arith, z)))

  taken-sound : out.refusal ≡ 0 → is_sound c ≡ true
  unfolding answer_out
  taken-sound = go (is_sound c) refl
    where
      go : (b : Bool) → is_sound c ≡ b → (answer_out c cmd s room).refusal ≡ 0 → b ≡ true
      go true e z = refl
      go false e z = absurd (omega (arith, sym (rw e at z)))

  pub lost-by : out.refusal ≡ 0 → (((decide c cmd).answer s).card.channel.stage ≡ 2 → ⊥) → Lost out.card
  lost-by z f =
      let n : out.card.channel.stage ≡ 2 → ⊥ = λ t. f (sym (ap (λ (y : Card). y.channel.stage) (taken-told z)) ∙ t) in (
        n,
        eqb-true out.card.pins.verified 0
            (not-false _ (not-verified out.card (answer-sound c cmd s room (taken-sound z)) (ne_eqb out.card.channel.stage 2 n))),
      )

  module _ (field : List ℕ) (form : data_of cmd ≡ some field) (z : out.refusal ≡ 0) where
    pub open-loses : is_initialised c ≡ true → cla_of cmd ≡ 0x80 → ins_of cmd ≡ 0x10 → Lost out.card
    unfolding name_of
    open-loses i cla b = lost-by z (open-out c cmd field (taken-sound z) form (rw (i, cla, b)) s)

    pub select-loses : cla_of cmd ≡ 0x00 → ins_of cmd ≡ 0xA4 → p1_of cmd ≡ 0x04 → p2_of cmd ≡ 0x00 → field ≡ application_id → Lost out.card
    unfolding name_of
    select-loses cla b p1 p2 id = lost-by z (select-out c cmd field (taken-sound z) form (rw (cla, b)) p1 p2 id s)

    pub unopened-loses : (i : Instruction) → name_of (is_initialised c) (cla_of cmd) (ins_of cmd) ≡ Ok i → is_plain i ≡ false
        → c.channel.stage ≡ 2 → opened_by c cmd field ≡ none → Lost out.card
    unopened-loses i name over in2 shut = lost-by z (unopened-out c cmd field (taken-sound z) form i name over in2 shut s)
