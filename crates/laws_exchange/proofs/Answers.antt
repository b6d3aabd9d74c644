-- A command over the channel that comes to its own checks: in stage 2 it loses nothing on the way, and ANSWER seals its outcome; so does it
-- with MUTUAL's success in stage 1.
-- Assumes nothing.
use Rattle.std.specs.Prelude.{Err}
use mathlib.Core.Path.{◌≡◌, sym, ap, ◌∙◌, subst}
use mathlib.Core.Bool.{Bool, true, false, ◌&&◌, not, cond, false≢true}
use mathlib.Core.List.{List}
use mathlib.Core.Option.{Option, none, some}
use Prim.Native.Nat.{ℕ, ◌≤◌}
use borrow.Author.Tests.{le-ltb, not-true}
use lib.Dec.{eqb}
use lib.ListN.{take}
use Rattle.template_rules.proofs.HeadFacts.{by-test}
use Rattle.card.specs.declared.Channel.{Channel}
use Rattle.card.specs.declared.Card.{Card}
use Rattle.card.specs.State.{with_channel, closed}
use Rattle.card.specs.Sound.{is_sound}
use Rattle.rules.specs.declared.Instruction.{Instruction}
use Rattle.rules.specs.declared.Command.{Command}
use Rattle.rules.specs.Results.{Verdict}
use Rattle.rules.specs.Words.{Hold, Reply, fails}
use Rattle.rules.specs.Supplies.{suits}
use Rattle.rules.specs.Rows.{row_of, is_plain}
use Rattle.rules.specs.Channel.{with_mac, sealed, tell}
use Rattle.rules.specs.Steps.{Step, goes, stops, begins, dropping, step1, data_of, p1_of, p2_of, Opened, Arrived, arrival, checks_of, supply_of, reply_of, by_verdict, step6, decide}
use Rattle.rules.specs.Engine.{answered_at, answered, with_supply, answer_out}
use Rattle.laws_commands.specs.Lawful.{Lawful}
use Rattle.laws_commands.proofs.Arrival.{At, card_at, arrived_at, by-step5, by-opened, by-past_step1}
use Rattle.laws_commands.proofs.Checks.{by-verdict, held}
use Rattle.laws_commands.proofs.Table.{row_lawful, lawful}
use Rattle.laws_exchange.specs.Opens.{Opens, outcome_by, outcome, fault_by, fault_of}
use Rattle.laws_exchange.proofs.Outcomes.{outcome-channel}

-- ---- step 1: the channel stays where it is not in stage 1, and where the command is 80 11
module _ (cmd : List ℕ) (c : Card) where
  pub step1-channel : (eqb c.channel.stage 1 && not (begins 0x11 cmd)) ≡ false → (step1 cmd c).channel ≡ c.channel
  unfolding step1
  step1-channel e = by-test (λ (x : Card). x.channel ≡ c.channel) (begins 0x12 cmd) (λ t. stays) (λ t. stays)
    where
      stays : (dropping cmd c).channel ≡ c.channel
      stays = ap (λ (b : Bool). (cond b (closed c) c).channel) e

  pub stays-2 : c.channel.stage ≡ 2 → (eqb c.channel.stage 1 && not (begins 0x11 cmd)) ≡ false
  stays-2 e = ap (λ (n : ℕ). eqb n 1 && not (begins 0x11 cmd)) e

-- ---- where a command over the channel arrives in stage 2, it is lawful, an error gives nothing up, and the card's IV is the MAC of the
-- command
pub record ArrivedIn2 (c : Card) (cmd : List ℕ) (a : Arrived) : Type 0 where
  pub instruction : Instruction
  pub over : is_plain instruction ≡ false
  pub law : Lawful instruction a.command
  pub lost : a.lost ≡ a.card
  pub card : (field : List ℕ) → data_of cmd ≡ some field → a.card ≡ with_mac (step1 cmd c) (take 16 field)

some_same : {A : Type 0} {x y : A} → some x ≡ some y → x ≡ y
some_same {A} {x} {y} e = ap (λ (o : Option A). or-x o) e
  where
    or-x : Option A → A
    or-x none = x
    or-x (some z) = z

module _ (c : Card) (cmd : List ℕ) (in2 : c.channel.stage ≡ 2) where
  abbrev ArrivedBy : Step Arrived → Type 0
  ArrivedBy (goes a) = a.over ≡ true → ArrivedIn2 c cmd a
  ArrivedBy (stops t) = Unit {0}

  stage-behind : (step1 cmd c).channel.stage ≡ 2
  stage-behind = ap (λ (k : Channel). k.stage) (step1-channel cmd c (stays-2 cmd c in2)) ∙ in2

  arrived-at : (x : At cmd (step1 cmd c)) (k : Command) → (row_of x.instruction).lists (p1_of cmd) (p2_of cmd) ≡ some k
      → is_plain x.instruction ≡ false → ArrivedIn2 c cmd (arrived_at x.instruction cmd x.opened k)
  arrived-at x k l e =
      by-opened (λ (o : Opened). ArrivedIn2 c cmd (arrived_at i cmd o k)) i cmd (step1 cmd c) x.field (λ p. absurd (false≢true (sym e ∙ p)))
      (λ p t d o.
      let here = with_mac (step1 cmd c) (take 16 x.field) in
      let stays = (row_lawful i).begins e here in
      record {
        instruction = i;
        over = e;
        law = lawful i (p1_of cmd) (p2_of cmd) k l;
        lost = (row_lawful i).fails e (p1_of cmd) (card_at i (record { card = here; data' = d }))
            (ap (λ (y : Card). y.channel.stage) stays ∙ stage-behind);
        card = λ field f. stays ∙ ap (λ (y : List ℕ). with_mac (step1 cmd c) (take 16 y)) (some_same (sym x.form ∙ f));
      })
      x.opened x.opens
    where
      i : Instruction
      i = x.instruction

  arrived-by : ArrivedBy (arrival c cmd)
  unfolding arrival
  arrived-by = by-past_step1 ArrivedBy cmd (step1 cmd c) (λ w. tt) tt
      (λ x. by-step5 ArrivedBy x.instruction cmd x.opened tt (λ k l o. arrived-at x k l (not-true (is_plain x.instruction) o)))

  pub arrived-in2 : (x : Opens c cmd) → ArrivedIn2 c cmd x.arrived
  arrived-in2 x = subst ArrivedBy x.there arrived-by x.over

-- ---- ANSWER to a command that arrives
pub sealed-in-2 : (over : Bool) (r : Reply) → over ≡ true → r.card.channel.stage ≡ 2 → tell over r ≡ sealed r
unfolding tell
sealed-in-2 over r o h = rw (o, h)

module _ (c : Card) (cmd s : List ℕ) (room : ℕ) (sound : is_sound c ≡ true) (fits : 258 ≤ room) (x : Opens c cmd) where
  abbrev pub at6 : Arrived
  at6 = x.arrived

  answer-decided : answer_out c cmd s room ≡ with_supply c (step6 at6) s
  unfolding answer_out decide
  answer-decided = rw (sound, le-ltb room 258 fits, x.there)

  -- where the checks hold and the reply leaves stage 2, the reply is sealed; so in stage 1, for MUTUAL
  pub answer-right : Hold (checks_of at6.command at6.card at6.data') → suits (supply_of at6.command) s ≡ true
      → (reply_of at6.command at6.card at6.data' s).card.channel.stage ≡ 2
      → answer_out c cmd s room ≡ answered (sealed (reply_of at6.command at6.card at6.data' s))
  unfolding step6
  answer-right v u h =
      answer-decided ∙ rw (held (supply_of at6.command) (checks_of at6.command at6.card at6.data') v, u)
      (ap answered (sealed-in-2 at6.over (reply_of at6.command at6.card at6.data' s) x.over h))

  -- in stage 2 the outcome is sealed
  module _ (in2 : c.channel.stage ≡ 2) where
    abbrev pub result : Reply
    result = outcome at6.command at6.card at6.data' s

    arrived-channel : at6.card.channel ≡ (with_mac c (take 16 x.field)).channel
    arrived-channel = ap (λ (y : Card). y.channel) ((arrived-in2 c cmd in2 x).card x.field x.form)
        ∙ ap (λ (k : Channel). (with_mac (with_channel c k) (take 16 x.field)).channel) (step1-channel cmd c (stays-2 cmd c in2))

    pub result-channel : result.card.channel ≡ (with_mac c (take 16 x.field)).channel
    result-channel =
        let y = arrived-in2 c cmd in2 x in
        outcome-channel y.instruction at6.command y.law y.over at6.card at6.data' s
        (ap (λ (k : Channel). k.stage) arrived-channel ∙ in2) ∙ arrived-channel

    pub answer-stage2 : (Hold (checks_of at6.command at6.card at6.data') → suits (supply_of at6.command) s ≡ true)
        → answer_out c cmd s room ≡ answered_at (fault_of at6.command at6.card at6.data') (sealed result)
    unfolding step6 suits
    answer-stage2 right =
        answer-decided
        ∙ by-verdict (λ (v : Verdict). with_supply c (by_verdict at6 v) s
        ≡ answered_at (fault_by at6.command at6.data' v) (tell at6.over (outcome_by at6.command at6.card at6.data' s v)))
        (supply_of at6.command)
        (checks_of at6.command at6.card at6.data') (λ h. rw (right h))
        (λ w. ap (λ (y : Card). answered_at (fault_by at6.command at6.data' (Err w)) (tell at6.over (fails y w))) (arrived-in2 c cmd in2 x).lost)
        ∙ ap (answered_at (fault_of at6.command at6.card at6.data')) (sealed-in-2 at6.over result x.over (ap (λ (k : Channel). k.stage) result-channel ∙ in2))
