-- SEAL, ANSWER and UNSEAL in turn, from the laws of each.
-- Assumes nothing.
use Rattle.std.specs.Prelude.{Ok}
use mathlib.Core.Path.{◌≡◌, refl, sym, ap, ap₂, ◌∙◌, subst}
use mathlib.Core.Bool.{Bool, true, false, ◌&&◌, not}
use mathlib.Core.List.{List, [], ◌∷◌, ◌++◌}
use mathlib.Core.Logic.{◌↔◌}
use mathlib.Core.Option.{Option, none, some}
use Prim.Native.Nat.{ℕ, ◌≤◌, ◌<◌}
use native.Mathlib.Omega.{arith}
use borrow.Author.Tests.{eq-eqb}
use lib.Dec.{eqb}
use lib.ListN.{length, take, get_or, length-append, get_or-append}
use lib.Seq.{take_at, take_all}
use Rattle.octets.specs.Bytes.{Bytes}
use Rattle.channel_rules.specs.declared.Session.{Session}
use Rattle.channel_rules.specs.Message.{Keyed, with_iv, lc, command_head, response_head, ciphertext, field_mac, open_field}
use Rattle.channel_rules.specs.Terminal.{Out, sealed_response, unseal_out}
use Rattle.channel_rules.proofs.Trips.{response-keyed, unseal-seals}
use Rattle.card.specs.declared.Channel.{Channel}
use Rattle.card.specs.declared.Card.{Card}
use Rattle.card.specs.Slots.{is_zero}
use Rattle.card.specs.Sound.{is_sound}
use Rattle.card.specs.Shape.{Shaped}
use Rattle.rules.specs.declared.Instruction.{Instruction}
use Rattle.rules.specs.declared.Instruction.TheVariants as ins
use Rattle.rules.specs.declared.Command.{Command}
use Rattle.rules.specs.declared.Command.TheVariants as command
use Rattle.rules.specs.Words.{wrong_parameters, success, word, Hold, Reply, fails}
use Rattle.rules.specs.Supplies.{suits}
use Rattle.rules.specs.Commands.{mutual_checks, mutual_reply, rule_of}
use Rattle.rules.specs.Rows.{row_of, is_plain}
use Rattle.rules.specs.Channel.{session_of, with_mac, plain_text, sealed}
use Rattle.rules.specs.Steps.{goes, begins, step1, cla_of, ins_of, p1_of, p2_of, name_of, is_initialised, in_stage, opened_by, step4, Arrived, arrival, checks_of, supply_of, reply_of}
use Rattle.rules.specs.Rules.{no_fault}
use Rattle.rules.specs.Engine.{AnswerOut, answered_at, answered, answer_out}
use Rattle.laws_commands.specs.Lawful.{Lawful}
use Rattle.laws_commands.proofs.Arrival.{arrived_at, sealed-arrives}
use Rattle.laws_commands.proofs.Table.{row_lawful, lawful}
use Rattle.laws_engine.proofs.Sound.{mac-sound, mac-shaped, answer-shaped}
use Rattle.laws_exchange.specs.Opens.{PastStep4, Opens, outcome, reply_to, fault_of, fault_to}
use Rattle.laws_exchange.specs.Exchange.{Typed, Turn, sealed_by, answered_by, Names, listed, opened, Exchange, InStage2, replied, faulted, Supplied, Unlisted, ToStage2, Together}
use Rattle.laws_exchange.proofs.Outcomes.{outcome-channel, outcome-short, outcome-path, reply-bytes, outcome-bytes}
use Rattle.laws_exchange.proofs.Answers.{stays-2, arrived-in2, answer-stage2, answer-right}
use Rattle.laws_exchange.proofs.Unlisted.{stops-sealed, answer-stops}
use Rattle.laws_exchange.proofs.Seals.{cmd, field, mac, gives, form, opens, mac-is, sealed-keyed, seal-opens, is-after, step1-itself}

-- ---- a card, and a turn that it takes part in
module _ (c : Card) (t : Turn) (w : Typed c) where
  abbrev s : Session
  s = session_of c.channel

  abbrev next : Session
  next = with_iv s (mac s t w.keyed)

  abbrev rest : List ℕ
  rest = lc (length (ciphertext s t.data')) ∷ field s t w.keyed

  opened-is : opened c t ≡ with_mac c (mac s t w.keyed)
  opened-is = ap (λ (o : Out). with_mac c o.session.iv) (gives s t w.keyed)

  opened-session : session_of (opened c t).channel ≡ next
  opened-session = ap (λ (x : Card). session_of x.channel) opened-is

  opened-shaped : Shaped (opened c t)
  opened-shaped = mac-shaped c (sealed_by s t).session.iv w.shaped

  -- an answer that is sealed under the session of the command's MAC comes back whole
  module _ (r : Reply) {fault : ℕ} (told : answer_out c (cmd s t w.keyed) t.supply t.answerroom ≡ answered_at fault (sealed r))
      (session : session_of r.card.channel ≡ next) (bytes : Bytes (plain_text r)) (fits : length r.response ≤ 221) where
    unsealed-is : unseal_out next (sealed_response (session_of r.card.channel) (plain_text r)) t.unsealroom
        ≡ record { refusal = 0; session = with_iv next (field_mac next response_head (plain_text r)); bytes = plain_text r }
    unsealed-is =
        ap (λ (x : Session). unseal_out next (sealed_response x (plain_text r)) t.unsealroom) session
        ∙ unseal-seals next (sealed-keyed s t w.keyed) (plain_text r) bytes
        (omega (arith, length-append r.response (word r.status)))
        t.unsealroom t.unsealenough (omega (arith, length-append r.response (word r.status)))

    exchanged : Exchange c t r
    exchanged = rw (gives s t w.keyed, told, unsealed-is) (record {
      taken = refl;
      answered = refl;
      accepted = refl;
      answer = ap (λ (x : Session). sealed_response x (plain_text r)) session;
      plain = refl;
      card = ap (λ (x : Session). with_mac r.card (field_mac x response_head (plain_text r))) session;
      same = sym (ap (λ (x : Session). with_iv x (field_mac x response_head (plain_text r))) session);
      keyed = response-keyed next (sealed-keyed s t w.keyed) (plain_text r) bytes
          (omega (arith, length-append r.response (word r.status)));
    })

    answered-is : answered_by c t ≡ answered_at fault (sealed r)
    answered-is = ap (λ (o : Out). answer_out c o.bytes t.supply t.answerroom) (gives s t w.keyed) ∙ told

    pub typed-next : is_sound c ≡ true → Bytes r.card.keys.current.bytes → Typed (answered_by c t).card
    typed-next sound path = record {
      shaped = answer-shaped c (sealed_by s t).bytes t.supply t.answerroom sound w.shaped;
      keyed = subst (λ (x : Session). Keyed x) exchanged.same exchanged.keyed;
      path = subst (λ (a : AnswerOut). Bytes a.card.keys.current.bytes) (sym answered-is) path;
    }

-- ---- a command on the card that step 1 leaves as it is
module _ (c : Card) (t : Turn) (w : Typed c) (sound : is_sound c ≡ true) (open' : c.channel.stage ≡ 0 → ⊥)
    (stays : (eqb c.channel.stage 1 && not (begins 0x11 (cmd (s c t w) t w.keyed))) ≡ false) where
  abbrev command' : List ℕ
  command' = cmd (s c t w) t w.keyed

  abbrev field' : List ℕ
  field' = field (s c t w) t w.keyed

  at : (i : ℕ) → i < 4 → get_or command' i 0 ≡ get_or t.header i 0
  at i l = get_or-append t.header (rest c t w) 0 i (omega (arith, t.four))

  itself : step1 command' c ≡ c
  itself = step1-itself c command' sound w.shaped open' stays

  named' : name_of (is_initialised c) (cla_of command') (ins_of command') ≡ name_of (is_initialised c) (cla_of t.header) (ins_of t.header)
  named' = ap₂ (λ (a b : ℕ). name_of (is_initialised c) a b) (at 0 (omega arith)) (at 1 (omega arith))

  opens' : opened_by c command' field' ≡ some t.data'
  opens' = ap (λ (h : List ℕ). open_field (s c t w) (command_head h) field') (take_at t.header (rest c t w) 4 t.four) ∙ opens (s c t w) t w.keyed

  mac-opened : with_mac c (take 16 field') ≡ opened c t
  mac-opened = ap (with_mac c) (mac-is (s c t w) t w.keyed) ∙ sym (opened-is c t w)

  opened-sound : is_sound (opened c t) ≡ true
  opened-sound = mac-sound c (sealed_by (s c t w) t).session.iv sound open'

  -- its header names an instruction over the channel
  module _ (n : Names c t.header) where
    name' : name_of (is_initialised c) (cla_of command') (ins_of command') ≡ Ok n.instruction
    name' = named' ∙ n.name

    listed' : (row_of n.instruction).lists (p1_of command') (p2_of command') ≡ listed c t.header n
    listed' = ap₂ (λ (a b : ℕ). (row_of n.instruction).lists a b) (at 2 (omega arith)) (at 3 (omega arith))

    goes_on : step4 n.instruction command' (step1 command' c) field' ≡ goes (record { card = with_mac c (take 16 field'); data' = t.data' })
    unfolding step4
    goes_on = ap (λ (x : Card). step4 n.instruction command' x field') itself ∙ rw (n.sealed, n.stage, opens')

    past-step4 : PastStep4 c command'
    past-step4 = record {
      field = field';
      instruction = n.instruction;
      opened = record { card = with_mac c (take 16 field'); data' = t.data' };
      form = form (s c t w) t w.keyed;
      name = ap (λ (x : Card). name_of (is_initialised x) (cla_of command') (ins_of command')) itself ∙ name';
      sealed = n.sealed;
      opens = goes_on;
    }

    -- it comes to the checks of the command that is listed
    module _ (k : Command) (l : listed c t.header n ≡ some k) where
      abbrev pub arrived' : Arrived
      arrived' = arrived_at n.instruction command' (record { card = with_mac c (take 16 field'); data' = t.data' }) k

      pub goes-there : arrival c command' ≡ goes arrived'
      goes-there =
          sealed-arrives c c command' field' t.data' n.instruction k itself (form (s c t w) t w.keyed) name' n.sealed n.stage opens'
          (listed' ∙ l)

      abbrev pub opens_of : Opens c command'
      opens_of = record {
        field = field';
        arrived = arrived';
        form = form (s c t w) t w.keyed;
        there = goes-there;
        over = ap not n.sealed;
      }

-- ---- stage 2
module _ (c : Card) (t : Turn) (n : Names c t.header) (sound : is_sound c ≡ true) (w : Typed c) (in2 : c.channel.stage ≡ 2) where
  pub open2 : c.channel.stage ≡ 0 → ⊥
  open2 z = omega (arith, in2)

  abbrev command2 : List ℕ
  command2 = cmd (s c t w) t w.keyed

  abbrev stays2 : (eqb c.channel.stage 1 && not (begins 0x11 command2)) ≡ false
  stays2 = stays-2 command2 c in2

  -- whatever is sealed with the channel as it was opened
  module _ (r : Reply) {fault : ℕ} (told : answer_out c command2 t.supply t.answerroom ≡ answered_at fault (sealed r))
      (channel : r.card.channel ≡ (opened c t).channel) (bytes : Bytes (plain_text r)) (short : length r.response ≤ 221)
      (path : Bytes r.card.keys.current.bytes) where
    session2 : session_of r.card.channel ≡ next c t w
    session2 = ap session_of channel ∙ opened-session c t w

    sealed2 : InStage2 c t r fault
    sealed2 = record {
      turn = exchanged c t w r told session2 bytes short;
      fault_offset = ap (λ (a : AnswerOut). a.fault_offset) (answered-is c t w r told session2 bytes short);
      stays = ap (λ (a : AnswerOut). a.card.channel.stage) (answered-is c t w r told session2 bytes short)
          ∙ ap (λ (k : Channel). k.stage) channel ∙ in2;
      typed = typed-next c t w r told session2 bytes short sound path;
    }

  -- P1 and P2 that are not listed
  pub unlisted2 : listed c t.header n ≡ none → InStage2 c t (fails (opened c t) wrong_parameters) no_fault
  unlisted2 e = sealed2 (fails (opened c t) wrong_parameters) told refl (omega arith, (omega arith, tt)) (omega arith) w.path
    where
      told : answer_out c command2 t.supply t.answerroom ≡ answered (sealed (fails (opened c t) wrong_parameters))
      told =
          answer-stops c command2 t.supply t.answerroom _ sound t.answerenough
          (stops-sealed c c command2 (field (s c t w) t w.keyed) t.data' n.instruction (itself c t w sound open2 stays2)
          (form (s c t w) t w.keyed) (name' c t w sound open2 stays2 n) n.sealed n.stage (opens' c t w sound open2 stays2)
          (listed' c t w sound open2 stays2 n ∙ e) in2)
          ∙ ap (λ (x : Card). answered (sealed (fails x wrong_parameters))) (mac-opened c t w sound open2 stays2)

  -- a command that is listed
  module _ (k : Command) (l : listed c t.header n ≡ some k) where
    abbrev pub opens2 : Opens c command2
    opens2 = opens_of c t w sound open2 stays2 n k l

    module _ (right : Hold (checks_of k (opened c t) t.data') → suits (supply_of k) t.supply ≡ true) where
      abbrev result : Reply
      result = outcome k (opened c t) t.data' t.supply

      law : Lawful n.instruction k
      law = lawful n.instruction (p1_of t.header) (p2_of t.header) k l

      here2 : opens2.arrived.card ≡ opened c t
      here2 = (arrived-in2 c command2 in2 opens2).card (field (s c t w) t w.keyed) (form (s c t w) t w.keyed)
          ∙ ap (λ (x : Card). with_mac x (take 16 (field (s c t w) t w.keyed))) (itself c t w sound open2 stays2)
          ∙ mac-opened c t w sound open2 stays2

      told2 : answer_out c command2 t.supply t.answerroom ≡ answered_at (fault_of k (opened c t) t.data') (sealed result)
      told2 =
          answer-stage2 c command2 t.supply t.answerroom sound t.answerenough opens2 in2
          (λ h. right (subst (λ (x : Card). Hold (checks_of k x t.data')) here2 h))
          ∙ ap (λ (x : Card). answered_at (fault_of k x t.data') (sealed (outcome k x t.data' t.supply))) here2

      pub listed2 : InStage2 c t result (fault_of k (opened c t) t.data')
      listed2 =
          sealed2 result told2 (outcome-channel n.instruction k law n.sealed (opened c t) t.data' t.supply in2)
          (outcome-bytes n.instruction k law n.sealed (opened c t) t.data' t.supply (opened-sound c t w sound open2 stays2) w.path
          t.supplybytes)
          (outcome-short n.instruction k law n.sealed (opened c t) t.data' t.supply (opened-shaped c t w))
          (outcome-path n.instruction k law n.sealed (opened c t) t.data' t.supply t.databytes w.path)

  -- every command that opens
  pub in-stage2 : Supplied c t n → InStage2 c t (replied c t n) (faulted c t n)
  in-stage2 right = go (listed c t.header n) refl
    where
      go : (o : Option Command) → listed c t.header n ≡ o
          → InStage2 c t (reply_to o (opened c t) t.data' t.supply) (fault_to o (opened c t) t.data')
      go none e = unlisted2 e
      go (some k) e = listed2 k e (right k e)

  pub unlisted : listed c t.header n ≡ none → Unlisted c t
  unlisted e = record { plain = (unlisted2 e).turn.plain; card = (unlisted2 e).turn.card }

-- ---- MUTUAL in stage 1
and-not : (a : Bool) → (a && false) ≡ false
and-not true = refl
and-not false = refl

module _ (c : Card) (t : Turn) (sound : is_sound c ≡ true) (w : Typed c) (in1 : c.channel.stage ≡ 1)
    (header : t.header ≡ 0x80 ∷ 0x11 ∷ 0 ∷ 0 ∷ [])
    (long : length t.data' ≡ 32) (random : length t.supply ≡ 32) where
  open1 : c.channel.stage ≡ 0 → ⊥
  open1 z = omega (arith, in1)

  sealed1 : is_plain ins.Mutual ≡ false
  sealed1 = refl

  name1 : name_of (is_initialised c) (cla_of t.header) (ins_of t.header) ≡ Ok ins.Mutual
  name1 = ap (λ (h : List ℕ). name_of (is_initialised c) (cla_of h) (ins_of h)) header
      ∙ ap (λ (m : ℕ). name_of (not (is_zero m)) 0x80 0x11) (is-after c sound open1).flag ∙ (row_lawful ins.Mutual).known sealed1

  stage1 : in_stage ins.Mutual c.channel.stage ≡ true
  stage1 = ap (λ (m : ℕ). in_stage ins.Mutual m) in1

  listed1 : (row_of ins.Mutual).lists (p1_of t.header) (p2_of t.header) ≡ some command.Mutual
  listed1 = ap (λ (h : List ℕ). (row_of ins.Mutual).lists (p1_of h) (p2_of h)) header

  abbrev names1 : Names c t.header
  names1 = record { instruction = ins.Mutual; name = name1; sealed = sealed1; stage = stage1 }

  abbrev mutual' : List ℕ
  mutual' = cmd (s c t w) t w.keyed

  stays1 : (eqb c.channel.stage 1 && not (begins 0x11 mutual')) ≡ false
  stays1 =
      ap (λ (h : List ℕ). eqb c.channel.stage 1 && not (begins 0x11 (h ++ rest c t w))) header ∙ and-not (eqb c.channel.stage 1)

  abbrev opens1 : Opens c mutual'
  opens1 = opens_of c t w sound open1 stays1 names1 command.Mutual listed1

  here1 : opens1.arrived.card ≡ opened c t
  here1 = mac-opened c t w sound open1 stays1

  abbrev replied1 : Reply
  replied1 = reply_of command.Mutual (opened c t) t.data' t.supply

  holds1 : Hold (checks_of command.Mutual (opened c t) t.data')
  unfolding rule_of mutual_checks
  holds1 = (eq-eqb c.channel.stage 1 in1, (eq-eqb (length t.data') 32 long, tt))

  suits1 : suits (supply_of command.Mutual) t.supply ≡ true
  unfolding rule_of suits
  suits1 = rw random

  reply-stage : (x : Card) → (reply_of command.Mutual x t.data' t.supply).card.channel.stage ≡ 2
  unfolding rule_of mutual_reply
  reply-stage x = refl

  reply-session : session_of replied1.card.channel ≡ session_of (opened c t).channel
  unfolding rule_of mutual_reply
  reply-session = refl

  reply-random : plain_text replied1 ≡ t.supply ++ word success
  unfolding rule_of mutual_reply
  reply-random = ap (λ (x : List ℕ). x ++ word success) (take_all 32 t.supply (omega (arith, random)))

  law1 : Lawful ins.Mutual command.Mutual
  law1 = lawful ins.Mutual (p1_of t.header) (p2_of t.header) command.Mutual listed1

  told1 : answer_out c mutual' t.supply t.answerroom ≡ answered (sealed replied1)
  told1 =
      answer-right c mutual' t.supply t.answerroom sound t.answerenough opens1
      (subst (λ (x : Card). Hold (checks_of command.Mutual x t.data')) (sym here1) holds1) suits1 (reply-stage opens1.arrived.card)
      ∙ ap (λ (x : Card). answered (sealed (reply_of command.Mutual x t.data' t.supply))) here1

  session1 : session_of replied1.card.channel ≡ next c t w
  session1 = reply-session ∙ opened-session c t w

  bytes1 : Bytes (plain_text replied1)
  bytes1 = reply-bytes ins.Mutual command.Mutual law1 sealed1 (opened c t) t.data' t.supply
      (opened-sound c t w sound open1 stays1) w.path t.supplybytes

  short1 : length replied1.response ≤ 221
  short1 = law1.short (opened c t) t.data' t.supply (opened-shaped c t w)

  turn1 : Exchange c t replied1
  turn1 = exchanged c t w replied1 told1 session1 bytes1 short1

  pub to-stage2 : ToStage2 c t
  to-stage2 = record {
    turn = turn1;
    random = turn1.plain ∙ reply-random;
    fault_offset = ap (λ (a : AnswerOut). a.fault_offset) (answered-is c t w replied1 told1 session1 bytes1 short1);
    stage =
        ap (λ (a : AnswerOut). a.card.channel.stage) (answered-is c t w replied1 told1 session1 bytes1 short1) ∙ reply-stage (opened c t);
    typed = typed-next c t w replied1 told1 session1 bytes1 short1 sound
        ((law1.over sealed1).path (opened c t) t.data' t.supply t.databytes w.path);
  }

-- ---- headers: in stage 2 an instruction over the channel, with any P1 and P2
module _ (c : Card) (i : Instruction) (p1 p2 : ℕ) (sound : is_sound c ≡ true) (in2 : c.channel.stage ≡ 2) (e : is_plain i ≡ false) where
  pub known : name_of (is_initialised c) 0x80 (row_of i).byte ≡ Ok i
  known = ap (λ (m : ℕ). name_of (not (is_zero m)) 0x80 (row_of i).byte) (is-after c sound (λ z. omega (arith, in2))).flag ∙ (row_lawful i
      ).known e

  pub staged : in_stage i c.channel.stage ≡ true
  staged = ap (λ (m : ℕ). in_stage i m) in2 ∙ (row_lawful i).stage

  abbrev pub names : Names c (0x80 ∷ (row_of i).byte ∷ p1 ∷ p2 ∷ [])
  names = record { instruction = i; name = known; sealed = e; stage = staged }

-- ---- what opens in stage 2 is what a header names
pub opens-exactly : (c : Card) (t : Turn) → is_sound c ≡ true → Typed c → c.channel.stage ≡ 2
    → PastStep4 c (sealed_by (session_of c.channel) t).bytes ↔ Names c t.header
opens-exactly c t sound w in2 = rw (gives (s c t w) t w.keyed) (
  λ o. record {
    instruction = o.instruction;
    name = sym (named' c t w sound open2' stays)
        ∙ ap (λ (x : Card). name_of (is_initialised x) (cla_of sent) (ins_of sent)) (sym (itself c t w sound open2' stays)) ∙ o.name;
    sealed = o.sealed;
    stage = ap (λ (m : ℕ). in_stage o.instruction m) in2 ∙ (row_lawful o.instruction).stage;
  },
  λ n. past-step4 c t w sound open2' stays n,
)
  where
    open2' : c.channel.stage ≡ 0 → ⊥
    open2' z = omega (arith, in2)

    sent : List ℕ
    sent = cmd (s c t w) t w.keyed

    stays : (eqb c.channel.stage 1 && not (begins 0x11 sent)) ≡ false
    stays = stays-2 sent c in2

-- ---- the claim
pub together : Together
together = record {
  opens = λ s t k. seal-opens s t k;
  opensexactly = opens-exactly;
  named = λ c i p1 p2 sound in2 e. (names c i p1 p2 sound in2 e, refl);
  answers = in-stage2;
  unlisted = unlisted;
  authenticates = to-stage2;
}
