-- Where ANSWER is not refused, its answer is one reply told, with the status word that the event reads: no step that stops has the status word 9000.
-- Assumes nothing.
use Rattle.std.specs.Prelude.{Err, Ok}
use mathlib.Core.Path.{◌≡◌, refl, ap, ◌∙◌}
use mathlib.Core.Bool.{Bool, true, false, cond}
use mathlib.Core.List.{List}
use mathlib.Core.Option.{Option, none, some}
use Prim.Native.Nat.{ℕ}
use native.Mathlib.Omega.{arith}
use lib.Dec.{ltb, eqb}
use lib.ListN.{take}
use Rattle.template_rules.proofs.HeadFacts.{by-test}
use Rattle.refusals.specs.Refusals.{answer_room}
use Rattle.card.specs.declared.Card.{Card}
use Rattle.card.specs.State.{closed}
use Rattle.card.specs.Sound.{is_sound}
use Rattle.rules.specs.declared.Instruction.{Instruction}
use Rattle.rules.specs.Results.{Named}
use Rattle.rules.specs.declared.Unnamed.TheVariants as unnamed
use Rattle.rules.specs.declared.Command.{Command}
use Rattle.rules.specs.Results.{Verdict}
use Rattle.rules.specs.Words.{success, wrong_length, conditions_not_met, security_not_met, wrong_parameters, unknown_instruction, unknown_class, verdict, Reply, fails}
use Rattle.rules.specs.Supplies.{suits}
use Rattle.rules.specs.Rows.{row_of, is_plain}
use Rattle.rules.specs.Channel.{with_mac, Outgoing, tell}
use Rattle.rules.specs.Steps.{Step, goes, stops, then, stops_with, step1, data_of, by_form, cla_of, ins_of, p1_of, p2_of, name_of, is_initialised, by_name, Opened, by_opening, in_stage, opened_by, step4, Arrived, by_choice, step5, past_step1, arrival, checks_of, supply_of, reply_of, by_verdict, step6, finish, decide}
use Rattle.rules.specs.Engine.{AnswerOut, answered_at, answer_out}
use Rattle.laws_commands.proofs.Checks.{never}
use Rattle.laws_allowance.specs.Events.{given_by, word_by, given_past, given}
use Rattle.laws_allowance.specs.Told.{is_given, Came, Told}
use Rattle.laws_allowance.proofs.Replies.{given_is}

-- ---- an answer that is one reply told, with 9000 exactly if a command gives it
record Says (t : Outgoing) (g : Option Command) : Type 0 where
  pub over : Bool
  pub reply : Reply
  pub tells : t ≡ tell over reply
  pub word : is_given g ≡ eqb reply.status success

-- a step that stops
abbrev Stops : Step Arrived → Type 0
Stops (goes a) = Unit {0}
Stops (stops t) = Says t none

plain-says : (c : Card) (w : ℕ) → eqb w success ≡ false → Stops (stops_with c w)
unfolding tell
plain-says c w e = record { over = false; reply = fails c w; tells = refl; word = rw e refl }

choice-says : (over : Bool) (d : List ℕ) (c lost : Card) (o : Option Command) → Stops (by_choice over d c lost o)
choice-says over d c lost none = record { over = over; reply = fails lost wrong_parameters; tells = refl; word = refl }
choice-says over d c lost (some k) = tt

step5-says : (i : Instruction) (cmd : List ℕ) (o : Opened) → Stops (step5 i cmd o)
unfolding step5
step5-says i cmd o = choice-says _ _ _ _ ((row_of i).lists (p1_of cmd) (p2_of cmd))

step4-says : (i : Instruction) (cmd : List ℕ) (c : Card) (field : List ℕ) → Stops (then (step4 i cmd c field) (λ o. step5 i cmd o))
unfolding step4
step4-says i cmd c field = go (is_plain i) (in_stage i c.channel.stage) (opened_by c cmd field)
  where
    go : (plain staged : Bool) (x : Option (List ℕ))
        → Stops (then (cond plain (goes (record { card = c; data' = field })) (cond staged (by_opening c field x) (stops_with c conditions_not_met)))
        (λ o. step5 i cmd o))
    go true staged x = step5-says i cmd (record { card = c; data' = field })
    go false true none = plain-says (closed c) security_not_met refl
    go false true (some d) = step5-says i cmd (record { card = with_mac c (take 16 field); data' = d })
    go false false x = plain-says c conditions_not_met refl

past-says : (cmd : List ℕ) (c : Card) → Stops (past_step1 cmd c)
unfolding past_step1
past-says cmd c = go (data_of cmd) (name_of (is_initialised c) (cla_of cmd) (ins_of cmd))
  where
    go : (o : Option (List ℕ)) (n : Named)
        → Stops (then (by_form c o) (λ field. then (by_name c n) (λ i. then (step4 i cmd c field) (λ y. step5 i cmd y))))
    go none n = plain-says c wrong_length refl
    go (some field) (Err unnamed.WrongClass) = plain-says c unknown_class refl
    go (some field) (Err unnamed.Unknown) = plain-says c unknown_instruction refl
    go (some field) (Ok i) = step4-says i cmd c field

-- ---- a command at its checks
given_word : (k : Command) (w : ℕ) → is_given (given_by k w) ≡ eqb w success
given_word k w = go (eqb w success)
  where
    go : (b : Bool) → is_given (cond b (some k) none) ≡ b
    go true = refl
    go false = refl

verdict-says : (a : Arrived) (s : List ℕ) (v : Verdict) → Says ((by_verdict a v).answer s) (given_by a.command (word_by a s v))
verdict-says a s (Ok k) = record {
  over = a.over;
  reply = reply_of a.command a.card a.data' s;
  tells = refl;
  word = given_word a.command (reply_of a.command a.card a.data' s).status;
}
verdict-says a s (Err w) = record { over = a.over; reply = fails a.lost w; tells = refl; word = given_word a.command w }

finish-says : (y : Step Arrived) → Stops y → (s : List ℕ) → Says ((finish y).answer s) (given_past s y)
unfolding step6
finish-says (goes a) h s = verdict-says a s (verdict (supply_of a.command) (checks_of a.command a.card a.data'))
finish-says (stops t) h s = h

decide-says : (c : Card) (cmd s : List ℕ) → Says ((decide c cmd).answer s) (given c cmd s)
unfolding decide given arrival
decide-says c cmd s = finish-says (arrival c cmd) (past-says cmd (step1 cmd c)) s

-- ---- which command it is
given-came : (c : Card) (cmd s : List ℕ) (k : Command) → given c cmd s ≡ some k → Came c cmd k
unfolding given
given-came c cmd s k = go (arrival c cmd) refl
  where
    go : (y : Step Arrived) → arrival c cmd ≡ y → given_past s y ≡ some k → Came c cmd k
    go (goes a) e g = record { arrived = a; goes' = e; names = given_is (word_by a s (verdict (supply_of a.command) (checks_of a.command a.card a.data'))) a.command k g }
    go (stops t) e g = never k g

-- ---- ANSWER
taken : (c : Card) (cmd s : List ℕ) (room : ℕ) → (answer_out c cmd s room).refusal ≡ 0 → answer_out c cmd s room ≡ answered_at (decide c cmd).fault_offset ((decide c cmd).answer s)
unfolding answer_out
taken c cmd s room = by-test Taken (is_sound c)
    (λ _. by-test Taken (ltb room answer_room) (λ _ z. absurd (omega (arith, z)))
    (λ _. by-test Taken (suits (decide c cmd).supply s) (λ _ z. refl) (λ _ z. absurd (omega (arith, z)))))
    (λ _ z. absurd (omega (arith, z)))
  where
    Taken : AnswerOut → Type 0
    Taken o = o.refusal ≡ 0 → o ≡ answered_at (decide c cmd).fault_offset ((decide c cmd).answer s)

pub told : (c : Card) (cmd s : List ℕ) (room : ℕ) → (answer_out c cmd s room).refusal ≡ 0 → Told c cmd s room
told c cmd s room z =
    let h = decide-says c cmd s in
    record {
      over = h.over;
      reply = h.reply;
      fault_offset = (decide c cmd).fault_offset;
      answer = taken c cmd s room z ∙ ap (answered_at (decide c cmd).fault_offset) h.tells;
      word = h.word;
      came = given-came c cmd s;
    }
