-- What ASK and ANSWER give for any card, command, supply and buffer (RULES 3.5, 3.6), from what the order of checks decides (Steps.antt,
-- `decide`). Every length, room and count is in bytes.
use Rattle.std.specs.Prelude.{ℕ, cond, List, [], ltb, eqb}
use Rattle.refusals.specs.Refusals.{no_refusal, unsound, no_room, wrong_supply, ask_room, answer_room}
use Rattle.card.specs.declared.Card.{Card}
use Rattle.card.specs.Sound.{is_sound}
use Rattle.rules.specs.Supplies.{suits}
use Rattle.rules.specs.Channel.{Outgoing}
use Rattle.rules.specs.Rules.{no_fault}
use Rattle.rules.specs.Steps.{Decision, decide}

-- ---- ASK (RULES 3.5): which supply ANSWER will read, with the command's data for it; nothing where ANSWER reads none
pub record AskOut : Type 0 where
  pub refusal : ℕ
  pub kind : ℕ
  pub bytes : List ℕ

-- refused (RULES 3.2)
abbrev pub ask_refused : ℕ → AskOut
ask_refused n = record { refusal = n; kind = 0; bytes = [] }

-- not refused (RULES 3.5)
abbrev pub asked : Decision → AskOut
asked d = record { refusal = no_refusal; kind = d.supply.kind; bytes = cond (eqb d.supply.kind 0) [] d.data' }

unfoldable pub ask_out : Card → List ℕ → ℕ → AskOut
ask_out c cmd room =
    cond (is_sound c) (cond (ltb room ask_room) (ask_refused no_room) (asked (decide c cmd))) (ask_refused unsound)

-- ---- ANSWER (RULES 3.6): the next card, the bytes of the answer, and the fault offset (RULES 5.9); a refusal gives back the card that it was given
-- (RULES 3.2), and tells no fault
pub record AnswerOut : Type 0 where
  pub refusal : ℕ
  pub card : Card
  pub bytes : List ℕ
  pub fault_offset : ℕ

abbrev pub answer_refused : Card → ℕ → AnswerOut
answer_refused c n = record { refusal = n; card = c; bytes = []; fault_offset = no_fault }

-- not refused (RULES 3.6), with this fault offset; and with none
abbrev pub answered_at : ℕ → Outgoing → AnswerOut
answered_at n t = record { refusal = no_refusal; card = t.card; bytes = t.bytes; fault_offset = n }

abbrev pub answered : Outgoing → AnswerOut
answered t = answered_at no_fault t

abbrev pub with_supply : Card → Decision → List ℕ → AnswerOut
with_supply c d s = cond (suits d.supply s) (answered_at d.fault_offset (d.answer s)) (answer_refused c wrong_supply)

unfoldable pub answer_out : Card → List ℕ → List ℕ → ℕ → AnswerOut
answer_out c cmd s room =
    cond (is_sound c) (cond (ltb room answer_room) (answer_refused c no_room) (with_supply c (decide c cmd) s)) (answer_refused c unsound)
