-- The order of checks on two cards that differ in PIN and PUK alone: steps 1 to 5 come to the same command with the same data, the same supply is
-- read, and the answers are the same where the comparison, if one is made, comes out alike: no step looks at PIN and PUK, and no rule does but
-- for how the comparison came out.
-- Assumes nothing.
use Rattle.std.specs.Prelude.{Err, Ok}
use mathlib.Core.Path.{◌≡◌, refl, sym, ap, ◌∙◌}
use mathlib.Core.Bool.{Bool, true, false, ◌&&◌, not, cond}
use mathlib.Core.List.{List}
use mathlib.Core.Option.{Option, none, some}
use Prim.Native.Nat.{ℕ}
use lib.Dec.{eqb}
use lib.ListN.{take}
use Rattle.card.specs.declared.Pins.{Pins}
use Rattle.card.specs.declared.Card.{Card}
use Rattle.card.specs.State.{with_secrets, unverified}
use Rattle.rules.specs.declared.Instruction.{Instruction}
use Rattle.rules.specs.Results.{Named}
use Rattle.rules.specs.declared.Unnamed.TheVariants as unnamed
use Rattle.rules.specs.declared.Loss.{Loss}
use Rattle.rules.specs.declared.Loss.TheVariants as loss
use Rattle.rules.specs.declared.Command.{Command}
use Rattle.rules.specs.Results.{Verdict}
use Rattle.rules.specs.Words.{wrong_parameters, conditions_not_met, verdict, Reply, fails}
use Rattle.rules.specs.Rules.{Secret, pin, puk, right_by, outcome_of}
use Rattle.rules.specs.Rows.{row_of, is_plain}
use Rattle.rules.specs.Commands.{rule_of}
use Rattle.rules.specs.Channel.{with_mac, Outgoing, plainly, sealed, tell}
use Rattle.rules.specs.Steps.{Step, goes, stops, then, stops_with, step1, data_of, by_form, cla_of, ins_of, p1_of, p2_of, name_of, is_initialised, by_name, Opened, by_opening, in_stage, opened_by, step4, begun, failed, Arrived, by_choice, step5, past_step1, arrival, checks_of, supply_of, reply_of, Decision, by_verdict, step6, finish, decide}
use Rattle.rules.specs.Comparison.{Comparison, compared, compared_by, compared_past, comparison}
use Rattle.laws_commands.specs.Lawful.{erase_reply, erase_out, Lawful}
use Rattle.laws_commands.proofs.Arrival.{At, card_at, arrived_at, by-step5, by-opened, by-past_step1}
use Rattle.laws_commands.proofs.Erasure.{cond_map, told_same}
use Rattle.laws_commands.proofs.Table.{lawful}
use Rattle.laws_engine.proofs.Sound.{begun-keeps}
use Rattle.laws_two_runs.specs.Runs.{secret_of, OutAlike}
use Rattle.laws_two_runs.proofs.Erasure.{step1-pins, step1-swap}

-- ---- steps 1 to 5 by cases: they stop, or a command that its instruction lists is at its checks
module _ (P : Step Arrived → Type 0) (c : Card) (cmd : List ℕ) where
  pub by-arrival : ((t : Outgoing) → P (stops t))
      → ((x : At cmd (step1 cmd c)) (k : Command) → (row_of x.instruction).lists (p1_of cmd) (p2_of cmd) ≡ some k
      → P (goes (arrived_at x.instruction cmd x.opened k)))
      → P (arrival c cmd)
  unfolding arrival
  by-arrival stop go =
      by-past_step1 P cmd (step1 cmd c) (λ w. stop _) (stop _) (λ x. by-step5 P x.instruction cmd x.opened (stop _) (go x))

-- the PIN, the PUK and the tries there are those of the card that the call was given
abbrev pub SamePins : Card → Card → Type 0
SamePins c k = unverified k.pins ≡ unverified c.pins

pub pins-at : (c : Card) (cmd : List ℕ) (x : At cmd (step1 cmd c)) → SamePins c (card_at x.instruction x.opened)
pins-at c cmd x = begun-keeps (SamePins c) (λ _ e. e) (λ _ e. e) (row_of x.instruction).loss x.opened.card
    (by-opened (λ (o : Opened). SamePins c o.card) x.instruction cmd (step1 cmd c) x.field
    (λ _. step1-pins cmd c) (λ _ _ _ _. step1-pins cmd c) x.opened x.opens)

-- a comparison does not look at whether the PIN is verified
pub right-unverified : (s : Secret) (p : Pins) (d : List ℕ) → right_by s (unverified p) d ≡ right_by s p d
right-unverified pin p d = refl
right-unverified puk p d = refl

compared-unverified : (o : Option Secret) (p : Pins) (d : List ℕ) → compared o (unverified p) d ≡ compared o p d
compared-unverified none p d = refl
compared-unverified (some s) p d = ap (λ (b : Bool). some (record { of = s; right = b })) (right-unverified s p d)

by-unverified : (p : Pins) (a : Arrived) (v : Verdict) → compared_by (unverified p) a v ≡ compared_by p a v
by-unverified p a (Ok s) = compared-unverified (rule_of a.command).compares p a.data'
by-unverified p a (Err w) = refl

past-unverified : (p : Pins) (x : Step Arrived) → compared_past (unverified p) x ≡ compared_past p x
past-unverified p (goes a) = by-unverified p a (verdict (supply_of a.command) (checks_of a.command a.card a.data'))
past-unverified p (stops t) = refl

-- so that cards with the same PIN and PUK compare alike
pub same-compared : (p p' : Pins) (x : Step Arrived) → unverified p ≡ unverified p' → compared_past p x ≡ compared_past p' x
same-compared p p' x e = sym (past-unverified p x) ∙ ap (λ (q : Pins). compared_past q x) e ∙ past-unverified p' x

-- ---- two decisions: the supply, its data and the fault offset are the same; so are the answers, but for PIN and PUK of the next card, where L
-- holds
pub record Same (L : Type 0) (x y : Decision) : Type 0 where
  pub supply : x.supply ≡ y.supply
  pub data' : x.data' ≡ y.data'
  pub fault_offset : x.fault_offset ≡ y.fault_offset
  pub answer : L → (s : List ℕ) → erase_out (x.answer s) ≡ erase_out (y.answer s)

-- comparisons that come out alike come out the same, and where none is made there is nothing to come out
outcome-same : (o : Option Secret) (p p' : Pins) (d : List ℕ) → OutAlike (compared o p d) (compared o p' d) → outcome_of o p d ≡ outcome_of o p' d
outcome-same none p p' d h = refl
outcome-same (some s) p p' d h = h _ _ refl refl

-- which secret is compared does not depend on PIN and PUK
secret-same : (o : Option Secret) (p p' : Pins) (d : List ℕ) → secret_of (compared o p d) ≡ secret_of (compared o p' d)
secret-same none p p' d = refl
secret-same (some s) p p' d = refl

module _ (p q : List ℕ) where
  -- ---- another PIN and PUK, in what steps 1 to 5 come to
  abbrev pub swap : Card → Card
  swap = with_secrets p q

  abbrev secrets : Pins → Pins
  secrets n = record { pin = p; puk = q; pin_tries = n.pin_tries; puk_tries = n.puk_tries; verified = n.verified }

  abbrev swap_reply : Reply → Reply
  swap_reply r = record { status = r.status; response = r.response; card = swap r.card }

  abbrev swap_out : Outgoing → Outgoing
  swap_out t = record { bytes = t.bytes; card = swap t.card }

  abbrev pub swap_at : Arrived → Arrived
  swap_at a = record { command = a.command; data' = a.data'; card = swap a.card; lost = swap a.lost; over = a.over }

  abbrev pub swap_step : Step Arrived → Step Arrived
  swap_step (goes a) = goes (swap_at a)
  swap_step (stops t) = stops (swap_out t)

  -- ---- no step looks at them
  tell-swap : (over : Bool) (r : Reply) → tell over (swap_reply r) ≡ swap_out (tell over r)
  unfolding tell
  tell-swap over r = cond_map swap_out (over && eqb r.card.channel.stage 2) (sealed r) (plainly r)

  begun-swap : (l : Loss) (c : Card) → begun l (swap c) ≡ swap (begun l c)
  begun-swap loss.Channel c = refl
  begun-swap loss.HalfOpen c = refl
  begun-swap loss.Pending c = refl
  begun-swap loss.Nothing c = refl

  failed-swap : (l : Loss) (p1 : ℕ) (c : Card) → failed l p1 (swap c) ≡ swap (failed l p1 c)
  failed-swap loss.Channel p1 c = refl
  failed-swap loss.HalfOpen p1 c = cond_map swap (eqb c.channel.stage 2) c _
  failed-swap loss.Pending p1 c = cond_map swap (eqb p1 1) _ c
  failed-swap loss.Nothing p1 c = refl

  choice-swap : (over : Bool) (d : List ℕ) (c lost : Card) (o : Option Command)
      → by_choice over d (swap c) (swap lost) o ≡ swap_step (by_choice over d c lost o)
  choice-swap over d c lost none = ap stops (tell-swap over (fails lost wrong_parameters))
  choice-swap over d c lost (some k) = refl

  step5-swap : (i : Instruction) (cmd d : List ℕ) (c : Card)
      → step5 i cmd (record { card = swap c; data' = d }) ≡ swap_step (step5 i cmd (record { card = c; data' = d }))
  unfolding step5
  step5-swap i cmd d c =
      rw (begun-swap (row_of i).loss c, failed-swap (row_of i).loss (p1_of cmd) (begun (row_of i).loss c))
      (choice-swap (not (is_plain i)) d (begun (row_of i).loss c) (failed (row_of i).loss (p1_of cmd) (begun (row_of i).loss c))
      ((row_of i).lists (p1_of cmd) (p2_of cmd)))

  module _ (cmd : List ℕ) (c : Card) where
    step4-swap : (i : Instruction) (field : List ℕ)
        → then (step4 i cmd (swap c) field) (λ o. step5 i cmd o) ≡ swap_step (then (step4 i cmd c field) (λ o. step5 i cmd o))
    unfolding step4
    step4-swap i field = go (is_plain i) (in_stage i c.channel.stage) (opened_by c cmd field)
      where
        by : Card → Bool → Bool → Option (List ℕ) → Step Opened
        by x plain staged o =
            cond plain (goes (record { card = x; data' = field })) (cond staged (by_opening x field o) (stops_with x conditions_not_met))

        go : (plain staged : Bool) (o : Option (List ℕ))
            → then (by (swap c) plain staged o) (λ y. step5 i cmd y) ≡ swap_step (then (by c plain staged o) (λ y. step5 i cmd y))
        go true staged o = step5-swap i cmd field c
        go false true none = refl
        go false true (some d) = step5-swap i cmd d (with_mac c (take 16 field))
        go false false o = refl

    past-swap : past_step1 cmd (swap c) ≡ swap_step (past_step1 cmd c)
    unfolding past_step1
    past-swap = go (data_of cmd) (name_of (is_initialised c) (cla_of cmd) (ins_of cmd))
      where
        by : Card → Option (List ℕ) → Named → Step Arrived
        by x o n = then (by_form x o) (λ field. then (by_name x n) (λ i. then (step4 i cmd x field) (λ y. step5 i cmd y)))

        go : (o : Option (List ℕ)) (n : Named) → by (swap c) o n ≡ swap_step (by c o n)
        go none n = refl
        go (some field) (Err unnamed.WrongClass) = refl
        go (some field) (Err unnamed.Unknown) = refl
        go (some field) (Ok i) = step4-swap i field

  pub arrival-swap : (c : Card) (cmd : List ℕ) → arrival (swap c) cmd ≡ swap_step (arrival c cmd)
  unfolding arrival
  arrival-swap c cmd = ap (past_step1 cmd) (step1-swap cmd c p q) ∙ past-swap cmd (step1 cmd c)

  -- ---- what is the same on both cards, by the PIN and the PUK of each: what is decided, and which secret is compared
  abbrev Both : Decision → Decision → Option Comparison → Option Comparison → Type 0
  Both x y m n = Same (OutAlike m n) x y × (secret_of m ≡ secret_of n)

  abbrev BothPast : Pins → Pins → Step Arrived → Type 0
  BothPast o o' x = Both (finish x) (finish (swap_step x)) (compared_past o x) (compared_past o' (swap_step x))

  -- step 6, at a command that is lawful
  module _ (a : Arrived) (i : Instruction) (l : Lawful i a.command) where
    verdict-both : (v : Verdict)
        → Both (by_verdict a v) (by_verdict (swap_at a) v) (compared_by a.card.pins a v) (compared_by (swap a.card).pins (swap_at a) v)
    verdict-both (Ok k) = (
      record {
        supply = refl;
        data' = refl;
        fault_offset = refl;
        answer = λ h s. told_same a.over (reply_of a.command a.card a.data' s) (reply_of a.command (swap a.card) a.data' s)
            (l.replyblind p q (outcome_of (rule_of a.command).compares a.card.pins a.data') a.card a.data' s
            ∙ ap (λ (b : Bool). erase_reply ((rule_of a.command).reply b (swap a.card) a.data' s))
            (outcome-same (rule_of a.command).compares a.card.pins (swap a.card).pins a.data' h));
      },
      secret-same (rule_of a.command).compares a.card.pins (swap a.card).pins a.data',
    )
    verdict-both (Err w) = (
      record {
        supply = refl;
        data' = refl;
        fault_offset = refl;
        answer = λ _ s. told_same a.over (fails a.lost w) (fails (swap a.lost) w) refl;
      },
      refl,
    )

    step6-both : BothPast a.card.pins (swap a.card).pins (goes a)
    unfolding step6
    step6-both = rw (← l.checksblind p q a.card a.data')
        (verdict-both (verdict (supply_of a.command) (checks_of a.command a.card a.data')))

  -- ---- the whole order of checks
  module _ (c : Card) (cmd : List ℕ) where
    steps-both : BothPast c.pins (swap c).pins (arrival c cmd)
    steps-both = by-arrival (BothPast c.pins (swap c).pins) c cmd
        (λ t. (record { supply = refl; data' = refl; fault_offset = refl; answer = λ _ _. refl }, refl))
        (λ x k e.
        let a : Arrived = arrived_at x.instruction cmd x.opened k in
        rw (
          ← same-compared a.card.pins c.pins (goes a) (pins-at c cmd x),
          ← same-compared (swap a.card).pins (swap c).pins (goes (swap_at a)) (ap secrets (pins-at c cmd x)),
        )
        (step6-both a x.instruction (lawful x.instruction (p1_of cmd) (p2_of cmd) k e)))

    pub decide-same : Same (OutAlike (comparison c cmd) (comparison (swap c) cmd)) (decide c cmd) (decide (swap c) cmd)
    unfolding decide comparison
    decide-same = rw (arrival-swap c cmd) steps-both.0

    -- both make a comparison of the same secret, or neither does
    pub compared_same : secret_of (comparison c cmd) ≡ secret_of (comparison (swap c) cmd)
    unfolding comparison
    compared_same = rw (arrival-swap c cmd) steps-both.1
