-- The order of checks for a command, steps 1 to 6 (RULES 5): each step a definition of its own, in order, and at the
-- end `arrival`, steps 1 to 5 one after the other, and `decide`, the whole. Every length, Lc included, is in bytes.
use Rattle.std.specs.Prelude.{ℕ, ◌+◌, Bool, ◌&&◌, ◌||◌, not, cond, List, [], ◌∷◌, ltb, leb, eqb, length, take, drop, get_or, Err, Ok}
use Rattle.std.proofs.Math.Option.{Option, none, some}
use Rattle.octets.specs.Bytes.{same_bytes}
use Rattle.channel_rules.specs.Message.{command_head, open_field}
use Rattle.card.specs.declared.Card.{Card}
use Rattle.card.specs.State.{closed, forgotten}
use Rattle.card.specs.Slots.{is_zero}
use Rattle.rules.specs.declared.Instruction.{Instruction}
use Rattle.rules.specs.declared.Instruction.TheVariants as ins
use Rattle.rules.specs.Results.{Named}
use Rattle.rules.specs.declared.Unnamed.TheVariants as unnamed
use Rattle.rules.specs.declared.Loss.{Loss}
use Rattle.rules.specs.declared.Loss.TheVariants as loss
use Rattle.rules.specs.declared.Command.{Command}
use Rattle.rules.specs.declared.Supply.{Supply}
use Rattle.rules.specs.Results.{Verdict}
use Rattle.rules.specs.Words.{wrong_length, conditions_not_met, security_not_met, wrong_parameters, unknown_instruction, unknown_class, wrong_data, Check, verdict, Reply, fails}
use Rattle.rules.specs.Supplies.{no_supply}
use Rattle.rules.specs.Rules.{outcome_of, no_fault}
use Rattle.rules.specs.Commands.{rule_of}
use Rattle.rules.specs.Rows.{row_of, class80, offered, is_plain}
use Rattle.rules.specs.Channel.{session_of, with_mac, Outgoing, plainly, tell}

-- ---- a step goes on with what it found, or stops with an answer
pub data Step (A : Type 0) : Type 0 where
  goes : A → Step A
  stops : Outgoing → Step A

abbrev pub then : {A B : Type 0} → Step A → (A → Step B) → Step B
then (goes x) next = next x
then (stops t) next = stops t

-- a plain status word
abbrev pub stops_with : {A : Type 0} → Card → ℕ → Step A
stops_with c w = stops (plainly (fails c w))

-- ---- step 1 (RULES 5.1), by the first two bytes, however short the command
abbrev pub begins : ℕ → List ℕ → Bool
begins instruction cmd = same_bytes (take 2 cmd) (0x80 ∷ instruction ∷ [])

-- in stage 1 anything but 80 11 drops the channel
abbrev pub dropping : List ℕ → Card → Card
dropping cmd c = cond (eqb c.channel.stage 1 && not (begins 0x11 cmd)) (closed c) c

-- anything but 80 12 forgets a pending pairing
abbrev pub forgetting : List ℕ → Card → Card
forgetting cmd c = cond (begins 0x12 cmd) c (forgotten c)

unfoldable pub step1 : List ℕ → Card → Card
step1 cmd c = forgetting cmd (dropping cmd c)

-- ---- step 2 (RULES 5.2), the form: the command's data as received, or 6700
abbrev pub lc_of : List ℕ → ℕ
lc_of cmd = get_or cmd 4 0

-- byte 4 is Lc, 1 to 255, and the whole is 5 + Lc bytes, or 6 + Lc with Le
abbrev pub lc_fits : ℕ → ℕ → Bool
lc_fits lc whole = not (is_zero lc) && (eqb whole (5 + lc) || eqb whole (6 + lc))

unfoldable pub data_of : List ℕ → Option (List ℕ)
data_of cmd =
    cond (ltb (length cmd) 4) none
    (cond (leb (length cmd) 5) (some [])
    (cond (lc_fits (lc_of cmd) (length cmd)) (some (take (lc_of cmd) (drop 5 cmd))) none))

abbrev pub by_form : Card → Option (List ℕ) → Step (List ℕ)
by_form c none = stops_with c wrong_length
by_form c (some field) = goes field

abbrev pub step2 : List ℕ → Card → Step (List ℕ)
step2 cmd c = by_form c (data_of cmd)

-- the header CLA INS P1 P2, which a command of a right form has
abbrev pub header_of : List ℕ → List ℕ
header_of cmd = take 4 cmd

abbrev pub cla_of : List ℕ → ℕ
cla_of cmd = get_or cmd 0 0

abbrev pub ins_of : List ℕ → ℕ
ins_of cmd = get_or cmd 1 0

abbrev pub p1_of : List ℕ → ℕ
p1_of cmd = get_or cmd 2 0

abbrev pub p2_of : List ℕ → ℕ
p2_of cmd = get_or cmd 3 0

-- ---- step 3 (RULES 5.3), class and instruction
-- the one of a list that has this instruction byte
abbrev pub with_byte : ℕ → List Instruction → Named
with_byte b [] = (Err unnamed.Unknown)
with_byte b (i ∷ more) = cond (eqb b (row_of i).byte) (Ok i) (with_byte b more)

-- class 80, or 00 with A4
abbrev pub by_class : ℕ → ℕ → Named
by_class cla b =
    cond (eqb cla 0x80) (with_byte b class80)
    (cond (eqb cla 0 && eqb b (row_of ins.Select).byte) (Ok ins.Select) (Err unnamed.WrongClass))

-- an initialised card has no INIT; before INIT there are SELECT and INIT alone
abbrev pub on_card : Bool → Named → Named
on_card initialised (Ok i) = cond (offered (row_of i).offer initialised) (Ok i) (Err unnamed.Unknown)
on_card initialised (Err unnamed.WrongClass) = (Err unnamed.WrongClass)
on_card initialised (Err unnamed.Unknown) = (Err unnamed.Unknown)

unfoldable pub name_of : Bool → ℕ → ℕ → Named
name_of initialised cla b = on_card initialised (by_class cla b)

abbrev pub is_initialised : Card → Bool
is_initialised c = not (is_zero c.initialised)

abbrev pub by_name : Card → Named → Step Instruction
by_name c (Ok i) = goes i
by_name c (Err unnamed.WrongClass) = stops_with c unknown_class
by_name c (Err unnamed.Unknown) = stops_with c unknown_instruction

abbrev pub step3 : List ℕ → Card → Step Instruction
step3 cmd c = by_name c (name_of (is_initialised c) (cla_of cmd) (ins_of cmd))

-- ---- step 4 (RULES 5.4): a plain command goes on with its data as it is; the others need the stage, and their data is opened
pub record Opened : Type 0 where
  pub card : Card
  pub data' : List ℕ

-- the MAC of the command is the next IV (RULES 8.1)
abbrev pub by_opening : Card → List ℕ → Option (List ℕ) → Step Opened
by_opening c field none = stops_with (closed c) security_not_met
by_opening c field (some d) = goes (record { card = with_mac c (take 16 field); data' = d })

-- whether the channel is in a stage that the instruction needs (RULES 5.4)
abbrev pub in_stage : Instruction → ℕ → Bool
in_stage i stage = leb (row_of i).stage stage

-- what the card opens of a command's field (RULES 5.4)
abbrev pub opened_by : Card → List ℕ → List ℕ → Option (List ℕ)
opened_by c cmd field = open_field (session_of c.channel) (command_head (header_of cmd)) field

unfoldable pub step4 : Instruction → List ℕ → Card → List ℕ → Step Opened
step4 i cmd c field =
    cond (is_plain i) (goes (record { card = c; data' = field }))
    (cond (in_stage i c.channel.stage) (by_opening c field (opened_by c cmd field)) (stops_with c conditions_not_met))

-- ---- step 5 (RULES 5.5): P1 and P2
-- OPEN closes any channel before steps 5 and 6 (RULES 6.6)
abbrev pub begun : Loss → Card → Card
begun loss.Channel c = closed c
begun loss.HalfOpen c = c
begun loss.Pending c = c
begun loss.Nothing c = c

-- what an error at step 5 or 6 leaves (RULES 6.1, last column): MUTUAL in stage 1 gives the channel up (RULES 6.7); PAIR with P1 01 ends the
-- pending pairing (RULES 6.8)
abbrev pub failed : Loss → ℕ → Card → Card
failed loss.Channel p1 c = c
failed loss.HalfOpen p1 c = cond (eqb c.channel.stage 2) c (closed c)
failed loss.Pending p1 c = cond (eqb p1 1) (forgotten c) c
failed loss.Nothing p1 c = c

-- what step 5 goes on with (RULES 5.5): the command and its data, the card, the card that an error leaves, and whether the command came over
-- the channel
pub record Arrived : Type 0 where
  pub command : Command
  pub data' : List ℕ
  pub card : Card
  pub lost : Card
  pub over : Bool

abbrev pub by_choice : Bool → List ℕ → Card → Card → Option Command → Step Arrived
by_choice over d c lost none = stops (tell over (fails lost wrong_parameters))
by_choice over d c lost (some k) = goes (record { command = k; data' = d; card = c; lost = lost; over = over })

unfoldable pub step5 : Instruction → List ℕ → Opened → Step Arrived
step5 i cmd o =
    let c = begun (row_of i).loss o.card in
    by_choice (not (is_plain i)) o.data' c (failed (row_of i).loss (p1_of cmd) c) ((row_of i).lists (p1_of cmd) (p2_of cmd))

-- ---- steps 1 to 5 (RULES 5): the command at its own checks, or the answer of the step that stops
unfoldable pub past_step1 : List ℕ → Card → Step Arrived
past_step1 cmd c =
    then (step2 cmd c) (λ field.
    then (step3 cmd c) (λ i.
    then (step4 i cmd c field) (λ o.
    step5 i cmd o)))

unfoldable pub arrival : Card → List ℕ → Step Arrived
arrival c cmd = past_step1 cmd (step1 cmd c)

-- ---- step 6 (RULES 5.6): the command's checks, then comparison or supply
-- the parts of a command's rule; the PIN and the PUK that are compared are those of the card
abbrev pub checks_of : Command → Card → List ℕ → List Check
checks_of k c d = (rule_of k).checks c d

abbrev pub supply_of : Command → Supply
supply_of k = (rule_of k).supply

abbrev pub reply_of : Command → Card → List ℕ → List ℕ → Reply
reply_of k c d s = (rule_of k).reply (outcome_of (rule_of k).compares c.pins d) c d s

-- ---- the fault offset (RULES 5.9) of a command whose checks give the status word w: its rule's, where that is 6A80
unfoldable pub fault_at : Command → List ℕ → ℕ → ℕ
fault_at k d w = cond (eqb w wrong_data) ((rule_of k).place d) no_fault

-- what the order of checks comes to: the supply that is read, with the data for it; the answer, from the supply; and the fault offset
pub record Decision : Type 0 where
  pub supply : Supply
  pub data' : List ℕ
  pub answer : List ℕ → Outgoing
  pub fault_offset : ℕ

-- an answer that reads no supply, and its fault offset
abbrev pub ends_at : ℕ → Outgoing → Decision
ends_at n t = record { supply = no_supply; data' = []; answer = λ _. t; fault_offset = n }

-- an answer before step 6
abbrev pub ends : Outgoing → Decision
ends t = ends_at no_fault t

abbrev pub by_verdict : Arrived → Verdict → Decision
by_verdict a (Ok k) = record {
  supply = k;
  data' = a.data';
  answer = λ s. tell a.over (reply_of a.command a.card a.data' s);
  fault_offset = no_fault;
}
by_verdict a (Err w) = ends_at (fault_at a.command a.data' w) (tell a.over (fails a.lost w))

unfoldable pub step6 : Arrived → Decision
step6 a = by_verdict a (verdict (supply_of a.command) (checks_of a.command a.card a.data'))

-- ---- the whole (RULES 5)
abbrev pub finish : Step Arrived → Decision
finish (goes a) = step6 a
finish (stops t) = ends t

unfoldable pub decide : Card → List ℕ → Decision
decide c cmd = finish (arrival c cmd)
