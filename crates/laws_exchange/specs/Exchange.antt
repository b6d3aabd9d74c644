-- Terminal and card together (RULES 11.2): SEAL makes a command, ANSWER answers it, UNSEAL opens the
-- answer, the terminal starting with the card's own session. What each gives is their own definition. Every length and room is in bytes.
use Rattle.std.specs.Prelude.{ℕ, ◌≤◌, ◌≡◌, true, false, List, [], ◌∷◌, ◌++◌, ◌↔◌, length, take, drop, Ok}
use Rattle.std.proofs.Math.Option.{Option, none, some}
use Rattle.octets.specs.Bytes.{Bytes}
use Rattle.channel_rules.specs.declared.Session.{Session}
use Rattle.channel_rules.specs.Message.{Keyed, with_iv, command_head, open_field}
use Rattle.channel_rules.specs.Terminal.{Out, seal_out, sealed_response, unseal_out}
use Rattle.card.specs.declared.Card.{Card}
use Rattle.card.specs.Sound.{is_sound}
use Rattle.card.specs.Shape.{Shaped}
use Rattle.rules.specs.declared.Instruction.{Instruction}
use Rattle.rules.specs.declared.Command.{Command}
use Rattle.rules.specs.declared.Command.TheVariants as command
use Rattle.rules.specs.Words.{success, word, Hold, Reply}
use Rattle.rules.specs.Supplies.{suits}
use Rattle.rules.specs.Rows.{row_of, is_plain}
use Rattle.rules.specs.Channel.{session_of, with_mac}
use Rattle.rules.specs.Steps.{data_of, cla_of, ins_of, p1_of, p2_of, name_of, is_initialised, in_stage, checks_of, supply_of, reply_of}
use Rattle.rules.specs.Engine.{AnswerOut, answer_out}
use Rattle.laws_exchange.specs.Opens.{PastStep4, reply_to, fault_to}

-- what the types say of every card that code holds
pub record Typed (c : Card) : Type 0 where
  pub shaped : Shaped c
  pub keyed : Keyed (session_of c.channel)
  pub path : Bytes c.keys.current.bytes

-- ---- one turn: header and data for SEAL, a supply for ANSWER, and a buffer for each of the three with room enough
pub record Turn : Type 0 where
  pub header : List ℕ
  pub data' : List ℕ
  pub supply : List ℕ
  pub sealroom : ℕ
  pub answerroom : ℕ
  pub unsealroom : ℕ
  pub four : length header ≡ 4
  pub most : length data' ≤ 223
  pub headerbytes : Bytes header
  pub databytes : Bytes data'
  pub supplybytes : Bytes supply
  pub sealenough : 261 ≤ sealroom
  pub answerenough : 258 ≤ answerroom
  pub unsealenough : 223 ≤ unsealroom

abbrev pub sealed_by : Session → Turn → Out
sealed_by s t = seal_out s t.header t.data' t.sealroom

abbrev pub answered_by : Card → Turn → AnswerOut
answered_by c t = answer_out c (sealed_by (session_of c.channel) t).bytes t.supply t.answerroom

abbrev pub unsealed_by : Card → Turn → Out
unsealed_by c t = unseal_out (sealed_by (session_of c.channel) t).session (answered_by c t).bytes t.unsealroom

-- ---- SEAL alone, for every header and data that it takes: its output has the right form, its field opens to the data, and the card that
-- opens it holds the session that SEAL gives
pub record SealOpens (s : Session) (t : Turn) (sent : Out) : Type 0 where
  pub taken : sent.refusal ≡ 0
  pub form : data_of sent.bytes ≡ some (drop 5 sent.bytes)
  pub opens : open_field s (command_head t.header) (drop 5 sent.bytes) ≡ some t.data'
  pub same : with_iv s (take 16 (drop 5 sent.bytes)) ≡ sent.session

-- ---- the header names an instruction over the channel on this card, in a stage that it goes in; P1 and P2 are any
pub record Names (c : Card) (header : List ℕ) : Type 0 where
  pub instruction : Instruction
  pub name : name_of (is_initialised c) (cla_of header) (ins_of header) ≡ Ok instruction
  pub sealed : is_plain instruction ≡ false
  pub stage : in_stage instruction c.channel.stage ≡ true

-- the command that its P1 and P2 name, if any
abbrev pub listed : (c : Card) (header : List ℕ) → Names c header → Option Command
listed c header n = (row_of n.instruction).lists (p1_of header) (p2_of header)

-- the card after the opening: its IV is the MAC of the command
abbrev pub opened : Card → Turn → Card
opened c t = with_mac c (sealed_by (session_of c.channel) t).session.iv

-- ---- the whole turn, where the command's definition gives the reply r: none of the three refuses; the answer is r's response data and
-- status word, sealed, and UNSEAL gives them; the card is r's, with the IV of the answer; and both ends hold the same session again
pub record Exchanged (r : Reply) (sent : Out) (told : AnswerOut) (got : Out) : Type 0 where
  pub taken : sent.refusal ≡ 0
  pub answered : told.refusal ≡ 0
  pub accepted : got.refusal ≡ 0
  pub answer : told.bytes ≡ sealed_response sent.session (r.response ++ word r.status)
  pub plain : got.bytes ≡ r.response ++ word r.status
  pub card : told.card ≡ with_mac r.card got.session.iv
  pub same : got.session ≡ session_of told.card.channel
  pub keyed : Keyed got.session

abbrev pub Exchange : Card → Turn → Reply → Type 0
Exchange c t r = Exchanged r (sealed_by (session_of c.channel) t) (answered_by c t) (unsealed_by c t)

-- ---- the claims
-- in stage 2 a command that opens, answered with the reply r and the fault offset n: stage 2 stays, and the card meets the types still, so that
-- the next turn can begin
pub record InStage2 (c : Card) (t : Turn) (r : Reply) (n : ℕ) : Type 0 where
  pub turn : Exchange c t r
  pub fault_offset : (answered_by c t).fault_offset ≡ n
  pub stays : (answered_by c t).card.channel.stage ≡ 2
  pub typed : Typed (answered_by c t).card

-- the reply is the one of the order of checks for the opened data: 6A86 where P1 and P2 are not listed; else the status word of the command's
-- first check that does not hold, or what its definition replies
abbrev pub replied : (c : Card) (t : Turn) → Names c t.header → Reply
replied c t n = reply_to (listed c t.header n) (opened c t) t.data' t.supply

-- and the fault offset that goes with it
abbrev pub faulted : (c : Card) (t : Turn) → Names c t.header → ℕ
faulted c t n = fault_to (listed c t.header n) (opened c t) t.data'

-- the supply is right, where a command is listed and its checks hold
abbrev pub Supplied : (c : Card) (t : Turn) → Names c t.header → Type 0
Supplied c t n = (k : Command) → listed c t.header n ≡ some k → Hold (checks_of k (opened c t) t.data')
    → suits (supply_of k) t.supply ≡ true

-- P1 and P2 that are not listed: the terminal reads 6A86 and no more, and of the card nothing but the IV has changed
pub record Unlisted (c : Card) (t : Turn) : Type 0 where
  pub plain : (unsealed_by c t).bytes ≡ 0x6A ∷ 0x86 ∷ []
  pub card : (answered_by c t).card ≡ with_mac c (unsealed_by c t).session.iv

-- MUTUAL in stage 1 with its 32 bytes: UNSEAL gives the random and 9000, and the card is in stage 2
pub record ToStage2 (c : Card) (t : Turn) : Type 0 where
  pub turn : Exchange c t (reply_of command.Mutual (opened c t) t.data' t.supply)
  pub random : (unsealed_by c t).bytes ≡ t.supply ++ word success
  pub fault_offset : (answered_by c t).fault_offset ≡ 255
  pub stage : (answered_by c t).card.channel.stage ≡ 2
  pub typed : Typed (answered_by c t).card

pub record Together : Type 0 where
  -- the field of SEAL's output opens, whatever the header; the command opens ..
  pub opens : (s : Session) (t : Turn) → Keyed s → SealOpens s t (sealed_by s t)
  -- ... on a card in stage 2 exactly where the header names an instruction over the channel
  pub opensexactly : (c : Card) (t : Turn) → is_sound c ≡ true → Typed c → c.channel.stage ≡ 2
      → PastStep4 c (sealed_by (session_of c.channel) t).bytes ↔ Names c t.header
  -- such headers in stage 2: class 80, the byte of any instruction over the channel, and any P1 and P2
  pub named : (c : Card) (i : Instruction) (p1 p2 : ℕ) → is_sound c ≡ true → c.channel.stage ≡ 2 → is_plain i ≡ false
      → (n : Names c (0x80 ∷ (row_of i).byte ∷ p1 ∷ p2 ∷ [])) × (listed c (0x80 ∷ (row_of i).byte ∷ p1 ∷ p2 ∷ []) n ≡ (row_of i).lists p1 p2)
  -- SEAL, ANSWER, UNSEAL: in stage 2 every command that opens, among them those whose P1 and P2 are not listed; and MUTUAL from stage 1 to its
  -- success
  pub answers : (c : Card) (t : Turn) (n : Names c t.header) → is_sound c ≡ true → Typed c → c.channel.stage ≡ 2 → Supplied c t n
      → InStage2 c t (replied c t n) (faulted c t n)
  pub unlisted : (c : Card) (t : Turn) (n : Names c t.header) → is_sound c ≡ true → Typed c → c.channel.stage ≡ 2
      → listed c t.header n ≡ none → Unlisted c t
  pub authenticates : (c : Card) (t : Turn) → is_sound c ≡ true → Typed c → c.channel.stage ≡ 1 → t.header ≡ 0x80 ∷ 0x11 ∷ 0 ∷ 0 ∷ []
      → length t.data' ≡ 32 → length t.supply ≡ 32 → ToStage2 c t
