-- The plain commands that slots have to do with: SELECT tells how many are free; OPEN looks at the one that P1 names; PAIR fills the first free one.
-- Each comes past step 4 as it is, to its listing and to its checks.
-- Assumes nothing.
use Rattle.std.specs.Prelude.{Err, Ok}
use mathlib.Core.Path.{◌≡◌, refl, sym, ap, ◌∙◌, subst}
use mathlib.Core.Bool.{Bool, true, false, ◌&&◌, not, cond, false≢true}
use mathlib.Core.List.{List, [], ◌∷◌, ◌++◌, append_assoc}
use mathlib.Core.Logic.{◌↔◌, ⊎_elim}
use mathlib.Core.Option.{Option, none, some}
use Prim.Native.Nat.{ℕ, ◌+◌, ◌≤◌, ◌<◌}
use native.Mathlib.Omega.{arith}
use borrow.Author.Tests.{lt-ltb, le-ltb, eq-eqb, ne_eqb, eqb-true, not-true}
use lib.Dec.{eqb}
use lib.ListN.{length, take, drop, get_or, length-append}
use lib.Seq.{take_at, drop_at, take_all}
use Rattle.octets.proofs.Lists.{same_refl}
use Rattle.sha_rules.specs.Hash.{sha256}
use Rattle.sha_rules.proofs.Blocks.{length-sha256}
use Rattle.template_rules.proofs.HeadFacts.{by-test}
use Rattle.template_answers.specs.Answers.{application_info}
use Rattle.refusals.specs.Refusals.{wrong_supply}
use Rattle.card.specs.declared.Slot.{Slot}
use Rattle.card.specs.declared.Card.{Card}
use Rattle.card.specs.State.{free_slot, with_pairing, with_channel, not_pending, key_uid, closed}
use Rattle.card.specs.Slots.{some_of, is_zero, is_free}
use Rattle.card.specs.Shape.{Shaped}
use Rattle.card.proofs.Tests.{the_second}
use Rattle.card.proofs.Rules.{After, parts-rules, sound-cases}
use Rattle.std.specs.Prelude.{Option as Found, Some, None}
use Rattle.card_slots.specs.Free.{first_free}
use Rattle.card_slots.specs.Free as first-free
use Rattle.card_slots.proofs.FreeFacts.{first-free-says, found, some-found}
use Rattle.rules.specs.declared.Instruction.{Instruction}
use Rattle.rules.specs.declared.Instruction.TheVariants as ins
use Rattle.rules.specs.declared.Command.{Command}
use Rattle.rules.specs.declared.Command.TheVariants as command
use Rattle.rules.specs.Words.{success, wrong_parameters, no_space, word, verdict, Hold, Reply, succeeds, fails}
use Rattle.rules.specs.Supplies.{suits, pair_challenge}
use Rattle.rules.specs.Commands.{application_id, free_slots, select_checks, select_reply, open_checks, open_reply, with_secret, pair_first_checks, pair_first_reply, pair_final_checks, pair_final_reply, pair_into, with_slot, filled_with, rule_of}
use Rattle.rules.specs.Rows.{slot, row_of, is_plain}
use Rattle.rules.specs.Channel.{plainly, plain_text, tell}
use Rattle.rules.specs.Steps.{goes, stops, begins, step1, cla_of, ins_of, p1_of, p2_of, name_of, is_initialised, step4, step5, past_step1, arrival, Arrived, checks_of, supply_of, reply_of, fault_at, step6, decide}
use Rattle.rules.specs.Engine.{AnswerOut, ask_out, answer_refused, answered_at, answered, with_supply, answer_out}
use Rattle.laws_commands.proofs.Checks.{held}
use Rattle.laws_commands.proofs.Arrival.{lost_at, arrived_at}
use Rattle.laws_commands.proofs.PendingSlot.{pending-slot}
use Rattle.laws_engine.proofs.Sound.{step1-keeps}
use Rattle.laws_exchange.proofs.Unlisted.{answer-stops}
use Rattle.claims.specs.Slots.{flag_at, select_command, open_command, pair_command, Supposed, Says, Opening, stage1, Paired}

-- ---- the P1 and P2 that list a slot
pub slot-listed : (k : ℕ → Command) (p1 : ℕ) → p1 < 8 → slot k p1 0 ≡ some (k p1)
slot-listed k p1 h = rw (lt-ltb p1 8 h)

pub slot-over : (k : ℕ → Command) (p1 p2 : ℕ) → 8 ≤ p1 → slot k p1 p2 ≡ none
slot-over k p1 p2 h = by (is_zero p2) _ (rw (le-ltb p1 8 h))
  where
    by : (b : Bool) (o : Option Command) → o ≡ none → cond b o none ≡ none
    by true o e = e
    by false o e = refl

-- ---- a plain command with these data, on an initialised card
module _ (c : Card) (cmd d s : List ℕ) (room : ℕ) (i : Instruction) (p : Supposed c cmd d room) (plain : is_plain i ≡ true)
    (name : name_of true (cla_of cmd) (ins_of cmd) ≡ Ok i) where
  abbrev x : Card
  x = step1 cmd c

  name1 : name_of (is_initialised x) (cla_of cmd) (ins_of cmd) ≡ Ok i
  name1 = step1-keeps (λ (y : Card). name_of (is_initialised y) (cla_of cmd) (ins_of cmd) ≡ Ok i) (λ _ h. h) (λ _ h. h) cmd c
      (ap (λ (b : Bool). name_of b (cla_of cmd) (ins_of cmd)) p.initialised ∙ name)

  -- P1 and P2 that are not listed
  stops-there : (row_of i).lists (p1_of cmd) (p2_of cmd) ≡ none
      → arrival c cmd ≡ stops (plainly (fails (lost_at i cmd (record { card = x; data' = d })) wrong_parameters))
  unfolding arrival past_step1 step4 step5 tell
  stops-there l = rw (p.form, name1, plain, l)

  unlisted : (row_of i).lists (p1_of cmd) (p2_of cmd) ≡ none → Says (answer_out c cmd s room) (0x6A ∷ 0x86 ∷ [])
  unlisted l = subst (λ (a : AnswerOut). Says a (0x6A ∷ 0x86 ∷ [])) (sym (answer-stops c cmd s room _ p.sound p.enough (stops-there l)))
      (record { taken = refl; reads = refl })

  -- those that name the command k
  module _ (k : Command) (l : (row_of i).lists (p1_of cmd) (p2_of cmd) ≡ some k) where
    abbrev at6 : Arrived
    at6 = arrived_at i cmd (record { card = x; data' = d }) k

    goes-there : arrival c cmd ≡ goes at6
    unfolding arrival past_step1 step4 step5
    goes-there = rw (p.form, name1, plain, l)

    decided : answer_out c cmd s room ≡ with_supply c (step6 at6) s
    unfolding answer_out decide
    decided = rw (p.sound, le-ltb room 258 p.enough, goes-there)

    pub asks-it : (r : ℕ) → 255 ≤ r → Hold (checks_of k at6.card d)
        → ask_out c cmd r ≡ record { refusal = 0; kind = (supply_of k).kind; bytes = cond (eqb (supply_of k).kind 0) [] d }
    unfolding ask_out decide step6
    asks-it r e h = rw (p.sound, le-ltb r 255 e, goes-there, held (supply_of k) (checks_of k at6.card d) h)

    pub fails-with : (w : ℕ) → verdict (supply_of k) (checks_of k at6.card d) ≡ Err w
        → answer_out c cmd s room ≡ answered_at (fault_at k d w) (plainly (fails at6.lost w))
    unfolding step6 suits tell
    fails-with w v = decided ∙ rw (v, plain)

    -- where the checks hold, the supply is read
    pub reads-it : Hold (checks_of k at6.card d)
        → answer_out c cmd s room ≡ cond (suits (supply_of k) s) (answered (plainly (reply_of k at6.card d s))) (answer_refused c wrong_supply)
    unfolding step6 tell
    reads-it h = decided ∙ rw (held (supply_of k) (checks_of k at6.card d) h, plain)

    pub replies : Hold (checks_of k at6.card d) → suits (supply_of k) s ≡ true
        → answer_out c cmd s room ≡ answered (plainly (reply_of k at6.card d s))
    replies h u = reads-it h ∙ rw u

-- what the answer says, from the reply that goes out
pub says_plain : (a : AnswerOut) (r : Reply) (bytes : List ℕ) {n : ℕ} → a ≡ answered_at n (plainly r) → plain_text r ≡ bytes → Says a bytes
says_plain a r bytes e t = record { taken = ap (λ (y : AnswerOut). y.refusal) e; reads = ap (λ (y : AnswerOut). y.bytes) e ∙ t }

-- step 1 keeps the slots
step1-slots : (cmd : List ℕ) (c : Card) → (step1 cmd c).pairing.slots ≡ c.pairing.slots
step1-slots cmd c = step1-keeps (λ (y : Card). y.pairing.slots ≡ c.pairing.slots) (λ _ h. h) (λ _ h. h) cmd c refl

-- ---- SELECT
module _ (c : Card) (rest s : List ℕ) (room : ℕ) (p : Supposed c (select_command rest) application_id room) where
  select-named : name_of true 0x00 0xA4 ≡ Ok ins.Select
  unfolding name_of
  select-named = refl

  abbrev told_of : Card → List ℕ
  told_of y = application_info y.identity.uid y.identity.public_key (free_slots y.pairing.slots) (key_uid y.keys) ++ word success

  abbrev told1 : Card
  told1 = step1 (select_command rest) c

  told_same : told_of told1 ≡ told_of c
  told_same = step1-keeps (λ (y : Card). told_of y ≡ told_of c) (λ _ h. h) (λ _ h. h) (select_command rest) c refl

  initialised1 : is_initialised told1 ≡ true
  initialised1 = step1-keeps (λ (y : Card). is_initialised y ≡ true) (λ _ h. h) (λ _ h. h) (select_command rest) c p.initialised

  select-replies : plain_text (reply_of command.Select told1 application_id s) ≡ told_of told1
  unfolding rule_of select_reply
  select-replies = rw (not-true (is_zero told1.initialised) initialised1)

  select-holds : Hold (checks_of command.Select told1 application_id)
  unfolding rule_of select_checks
  select-holds = (refl, tt)

  pub select_told : Says (answer_out c (select_command rest) s room)
      (application_info c.identity.uid c.identity.public_key (free_slots c.pairing.slots) (key_uid c.keys) ++ (0x90 ∷ 0x00 ∷ []))
  unfolding rule_of suits
  select_told =
      says_plain _ (reply_of command.Select told1 application_id s) _
      (replies c (select_command rest) application_id s room ins.Select p refl select-named command.Select refl select-holds refl)
      (select-replies ∙ told_same)

-- ---- OPEN
open-named : name_of true 0x80 0x10 ≡ Ok ins.Open
unfolding name_of
open-named = refl

pub open-over : (c : Card) (p1 p2 : ℕ) (rest s d : List ℕ) (room : ℕ) → Supposed c (open_command p1 p2 rest) d room → 8 ≤ p1
    → Says (answer_out c (open_command p1 p2 rest) s room) (0x6A ∷ 0x86 ∷ [])
open-over c p1 p2 rest s d room p h =
    unlisted c (open_command p1 p2 rest) d s room ins.Open p refl open-named (slot-over command.Open p1 p2 h)

-- the parts of the supply
module _ (enc mac salt iv : List ℕ) (enc32 : length enc ≡ 32) (mac32 : length mac ≡ 32) (salt32 : length salt ≡ 32) (iv16 : length iv ≡ 16) where
  abbrev parts : List ℕ
  parts = enc ++ (mac ++ (salt ++ iv))

  part-enc : take 32 parts ≡ enc
  part-enc = take_at enc (mac ++ (salt ++ iv)) 32 enc32

  part-mac : take 32 (drop 32 parts) ≡ mac
  part-mac = ap (take 32) (drop_at enc (mac ++ (salt ++ iv)) 32 enc32) ∙ take_at mac (salt ++ iv) 32 mac32

  behind-keys : drop 64 parts ≡ salt ++ iv
  behind-keys =
      ap (drop 64) (sym (append_assoc enc mac (salt ++ iv)))
      ∙ drop_at (enc ++ mac) (salt ++ iv) 64 (omega (arith, length-append enc mac, enc32, mac32))

  part-salt : take 32 (drop 64 parts) ≡ salt
  part-salt = ap (take 32) behind-keys ∙ take_at salt iv 32 salt32

  part-iv : take 16 (drop 96 parts) ≡ iv
  part-iv =
      ap (λ (y : List ℕ). take 16 (drop 96 y)) (sym (append_assoc enc mac (salt ++ iv)) ∙ sym (append_assoc (enc ++ mac) salt iv))
      ∙ ap (take 16) (drop_at ((enc ++ mac) ++ salt) iv 96
      (omega (arith, length-append (enc ++ mac) salt, length-append enc mac, enc32, mac32, salt32)))
      ∙ take_all 16 iv (omega (arith, iv16))

  parts-long : length parts ≡ 112
  parts-long = omega (arith, length-append enc (mac ++ (salt ++ iv)), length-append mac (salt ++ iv), length-append salt iv, enc32, mac32, salt32, iv16)

module _ (c : Card) (p1 : ℕ) (rest s d : List ℕ) (room : ℕ) (p : Supposed c (open_command p1 0 rest) d room) (h : p1 < 8) where
  abbrev cmd' : List ℕ
  cmd' = open_command p1 0 rest

  abbrev here : Card
  here = closed (step1 cmd' c)

  flag_same : (get_or here.pairing.slots p1 free_slot).filled ≡ flag_at c p1
  flag_same = ap (λ (y : List Slot). (get_or y p1 free_slot).filled) (step1-slots cmd' c)

  open-fails : flag_at c p1 ≡ 0 → verdict (supply_of (command.Open p1)) (checks_of (command.Open p1) here d) ≡ Err wrong_parameters
  unfolding rule_of open_checks
  open-fails z = rw (eq-eqb (get_or here.pairing.slots p1 free_slot).filled 0 (flag_same ∙ z))

  pub open_free : flag_at c p1 ≡ 0 → Says (answer_out c (open_command p1 0 rest) s room) (0x6A ∷ 0x86 ∷ [])
  open_free z = says_plain _ (fails here wrong_parameters) _
      (fails-with c cmd' d s room ins.Open p refl open-named (command.Open p1) (slot-listed command.Open p1 h) wrong_parameters (open-fails z)) refl

  module _ (n : flag_at c p1 ≡ 0 → ⊥) (enc mac salt iv : List ℕ) (m : Opening d s enc mac salt iv) where
    open-holds : Hold (checks_of (command.Open p1) here d)
    unfolding rule_of open_checks
    open-holds = (
      rw (ne_eqb (get_or here.pairing.slots p1 free_slot).filled 0 (λ z. n (sym flag_same ∙ z))),
      (rw (m.whole, m.xy64), tt),
    )

    open-suits : suits (supply_of (command.Open p1)) s ≡ true
    unfolding rule_of suits
    open-suits = rw (m.supplied, parts-long enc mac salt iv m.enc32 m.mac32 m.salt32 m.iv16)

    abbrev opened : Reply
    opened = succeeds (with_channel here (stage1 enc mac iv)) (salt ++ iv)

    open-replies : reply_of (command.Open p1) here d s ≡ opened
    unfolding rule_of open_reply
    open-replies = rw (
      m.supplied,
      part-enc enc mac salt iv m.enc32 m.mac32 m.salt32 m.iv16,
      part-mac enc mac salt iv m.enc32 m.mac32 m.salt32 m.iv16,
      part-salt enc mac salt iv m.enc32 m.mac32 m.salt32 m.iv16,
      part-iv enc mac salt iv m.enc32 m.mac32 m.salt32 m.iv16,
    )

    open-out : answer_out c cmd' s room ≡ answered (plainly opened)
    open-out =
        replies c cmd' d s room ins.Open p refl open-named (command.Open p1) (slot-listed command.Open p1 h) open-holds open-suits
        ∙ ap (λ (r : Reply). answered (plainly r)) open-replies

    pub open-filled : Says (answer_out c (open_command p1 0 rest) s room) (salt ++ (iv ++ (0x90 ∷ 0x00 ∷ [])))
        × ((answer_out c (open_command p1 0 rest) s room).card.channel ≡ stage1 enc mac iv)
    open-filled = (
      says_plain _ opened _ open-out (append_assoc salt iv (word success)),
      ap (λ (y : AnswerOut). y.card.channel) open-out,
    )

-- ---- PAIR
pub pair-named : name_of true 0x80 0x12 ≡ Ok ins.Pair
unfolding name_of
pair-named = refl

-- its first step
module _ (c : Card) (rest s d : List ℕ) (room : ℕ) (p : Supposed c (pair_command 0 rest) d room) (w : Shaped c) (n : c.channel.stage ≡ 2 → ⊥)
    (long : length d ≡ 32) where
  abbrev first : List ℕ
  first = pair_command 0 rest

  abbrev there : Card
  there = step1 first c

  abbrev out : AnswerOut
  out = answer_out c first s room

  not-2 : there.channel.stage ≡ 2 → ⊥
  not-2 = step1-keeps (λ (y : Card). y.channel.stage ≡ 2 → ⊥) (λ _ _ z. omega (arith, z)) (λ _ h. h) first c n

  some-there : (f : Found ℕ) → first_free c.pairing.slots ≡ f → some_of is_free there.pairing.slots ≡ found f
  some-there f e = ap (some_of is_free) (step1-slots first c) ∙ some-found c.pairing.slots ∙ ap found e

  -- none is free
  full-fails : first_free c.pairing.slots ≡ None → verdict (supply_of command.PairFirst) (checks_of command.PairFirst there d) ≡ Err no_space
  unfolding rule_of pair_first_checks
  full-fails e = rw (ne_eqb there.channel.stage 2 not-2, long, some-there None e)

  full-out : first_free c.pairing.slots ≡ None → out.bytes ≡ 0x6A ∷ 0x84 ∷ []
  full-out e = ap (λ (y : AnswerOut). y.bytes)
      (fails-with c first d s room ins.Pair p refl pair-named command.PairFirst refl no_space (full-fails e))

  -- one is free
  module _ (i : ℕ) (e : first_free c.pairing.slots ≡ Some i) where
    room-holds : Hold (checks_of command.PairFirst there d)
    unfolding rule_of pair_first_checks
    room-holds = (rw (ne_eqb there.channel.stage 2 not-2), (rw long, (some-there (Some i) e, tt)))

    abbrev Other : AnswerOut → Type 0
    Other y = y.bytes ≡ 0x6A ∷ 0x84 ∷ [] → ⊥

    pair-long : suits (supply_of command.PairFirst) s ≡ true → Other (answered (plainly (reply_of command.PairFirst there d s)))
    unfolding rule_of pair_first_reply
    pair-long u z =
        omega (
          arith,
          ap length z,
          length-append (with_secret there.pairing d ++ pair_challenge s) (word success),
          length-append (with_secret there.pairing d) (pair_challenge s),
          length-sha256 (there.pairing.secret ++ d),
        )

    room_out : Other out
    room_out = subst Other
        (sym (reads-it c first d s room ins.Pair p refl pair-named command.PairFirst refl room-holds))
        (by-test Other (suits (supply_of command.PairFirst) s) pair-long (λ _ z. omega (arith, ap length z)))

  pub pair-full : (out.bytes ≡ 0x6A ∷ 0x84 ∷ []) ↔ ((k : ℕ) → k < 8 → flag_at c k ≡ 0 → ⊥)
  pair-full = by (first_free c.pairing.slots) refl (first-free-says c.pairing.slots _ refl).1
    where
      by : (f : Found ℕ) → first_free c.pairing.slots ≡ f → first-free.Says c.pairing.slots f
          → (out.bytes ≡ 0x6A ∷ 0x84 ∷ []) ↔ ((k : ℕ) → k < 8 → flag_at c k ≡ 0 → ⊥)
      by (Some i) e l = (λ z. absurd (room_out i e z), λ g. absurd (g i (omega (arith, l.within, w.slots)) l.free))
      by None e l = ((λ z k h. l k (omega (arith, h, w.slots))), λ g. full-out e)

-- its final step
module _ (c : Card) (rest salt : List ℕ) (room : ℕ) (p : Supposed c (pair_command 1 rest) c.pairing.expected room) (w : Shaped c)
    (n : c.pairing.pending ≡ 0 → ⊥) (salt32 : length salt ≡ 32) where
  abbrev final : List ℕ
  final = pair_command 1 rest

  after : After c
  after = ⊎_elim (λ b. absurd (false≢true (sym (ap (λ (m : ℕ). not (is_zero m)) b.flag) ∙ p.initialised))) (λ a. a) (sound-cases c p.sound)

  stage0 : c.channel.stage ≡ 0
  stage0 = eqb-true c.channel.stage 0
      (the_second _ (is_zero c.channel.stage) (ne_eqb c.pairing.pending 0 n) (parts-rules c after.parts).pending)

  itself : step1 final c ≡ c
  unfolding step1
  itself = ap (λ (m : ℕ). cond (eqb m 1 && not (begins 0x11 final)) (closed c) c) stage0

  final-holds : Hold (checks_of command.PairFinal c c.pairing.expected)
  unfolding rule_of pair_final_checks
  final-holds = (rw (ne_eqb c.pairing.pending 0 n), (rw stage0, (rw w.expected, (same_refl c.pairing.expected, tt))))

  final-suits : suits (supply_of command.PairFinal) salt ≡ true
  unfolding rule_of suits
  final-suits = rw salt32

  abbrev key : List ℕ
  key = sha256 (c.pairing.secret ++ salt)

  abbrev filled : ℕ → Reply
  filled i = succeeds (with_pairing c (with_slot (not_pending c.pairing) i (filled_with key))) (i ∷ salt)

  final-replies : (i : ℕ) → first_free c.pairing.slots ≡ Some i
      → reply_of command.PairFinal c c.pairing.expected salt ≡ filled i
  unfolding rule_of pair_final_reply pair_into
  final-replies i e = rw (e, take_all 32 salt (omega (arith, salt32)))

  final-out : (i : ℕ) → first_free c.pairing.slots ≡ Some i → answer_out c final salt room ≡ answered (plainly (filled i))
  final-out i e =
      replies c final c.pairing.expected salt room ins.Pair p refl pair-named command.PairFinal refl
      (subst (λ (y : Card). Hold (checks_of command.PairFinal y c.pairing.expected)) (sym itself) final-holds) final-suits
      ∙ ap (λ (y : Card). answered (plainly (reply_of command.PairFinal y c.pairing.expected salt))) itself
      ∙ ap (λ (r : Reply). answered (plainly r)) (final-replies i e)

  pub pair-final : Paired c salt key (answer_out c (pair_command 1 rest) salt room)
  pair-final = by (first_free c.pairing.slots) refl (first-free-says c.pairing.slots _ refl).1
    where
      by : (f : Found ℕ) → first_free c.pairing.slots ≡ f → first-free.Says c.pairing.slots f
          → Paired c salt key (answer_out c (pair_command 1 rest) salt room)
      by (Some i) e l = record {
        index = i;
        under = omega (arith, l.within, w.slots);
        least = l;
        says = says_plain _ (filled i) _ (final-out i e) refl;
        card = ap (λ (y : AnswerOut). y.card) (final-out i e);
      }
      by None e l = absurd (pending-slot c p.sound n e)
