-- What ASK and ANSWER report and leave in the buffer (RULES 3.2), from what their definitions give (Engine.antt). The code's contracts cite this, and
-- so does what a run of calls shows (crate `laws_two_runs`). Every count is in bytes.
use Rattle.std.specs.Prelude.{ℕ, ◌≡◌, List, length}
use Rattle.octets.specs.Bytes.{written}
use Rattle.rules.specs.declared.Asked.{Asked}
use Rattle.rules.specs.declared.Answered.{Answered}
use Rattle.rules.specs.Engine.{AskOut, AnswerOut}

-- ---- ASK: the count is the number of bytes that the definition gives, and these are in the buffer from its start
abbrev pub ask_report : AskOut → Asked
ask_report o = record { refusal = o.refusal; kind = o.kind; count = length o.bytes }

abbrev pub ask_leaves : AskOut → List ℕ → List ℕ
ask_leaves o before = written o.bytes before

pub record AskDid (o : AskOut) (r : Asked) (before after : List ℕ) : Type 0 where
  pub told : r ≡ ask_report o
  pub left : after ≡ ask_leaves o before

-- ---- ANSWER likewise, with the fault offset and the next card
abbrev pub answer_report : AnswerOut → Answered
answer_report o = record { refusal = o.refusal; count = length o.bytes; fault_offset = o.fault_offset; card = o.card }

abbrev pub answer_leaves : AnswerOut → List ℕ → List ℕ
answer_leaves o before = written o.bytes before

pub record AnswerDid (o : AnswerOut) (r : Answered) (before after : List ℕ) : Type 0 where
  pub told : r ≡ answer_report o
  pub left : after ≡ answer_leaves o before
