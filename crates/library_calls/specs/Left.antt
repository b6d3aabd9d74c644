-- What is told and the record that is left, as the one answer that the operation by value gives (RULES 3.8).
-- Counts and offsets are in bytes; WALK counts fields.
use Rattle.std.specs.Prelude.{ℕ}
use Rattle.card.specs.declared.Card.{Card}
use Rattle.channel_rules.specs.declared.Session.{Session}
use Rattle.sound.specs.declared.Answer.{Answer}
use Rattle.rules.specs.declared.Answered.{Answered}
use Rattle.channel_terminal.specs.declared.Outcome.{Outcome}
use Rattle.record_write.specs.declared.Written.{Written}
use Rattle.template_walk.specs.Walk.{WalkOut}
use Rattle.phrase_reverse.specs.declared.Entropy.{Entropy}
use Rattle.library_calls.specs.declared.Counted.{Counted}
use Rattle.library_calls.specs.declared.AnswerTold.{AnswerTold}
use Rattle.library_calls.specs.declared.WalkTold.{WalkTold}

-- RESET and READ tell the refusal's number
abbrev pub answer_of : ℕ → Card → Answer
answer_of n c = record { refusal = n; card = c }

-- ANSWER tells the refusal's number, the count and the fault offset
abbrev pub answered_of : AnswerTold → Card → Answered
answered_of r c = record { refusal = r.refusal; count = r.count; fault_offset = r.fault_offset; card = c }

-- SEAL and UNSEAL tell the refusal's number and the count
abbrev pub session_outcome : Counted → Session → Outcome
session_outcome r s = record { refusal = r.refusal; count = r.count; session = s }

-- WRITE too
abbrev pub written_of : Counted → Written
written_of r = record { refusal = r.refusal; count = r.count }

-- and ENTROPY
abbrev pub entropy_of : Counted → Entropy
entropy_of r = record { refusal = r.refusal; count = r.count }

-- WALK tells the refusal's number, the count and the fault offset
abbrev pub walk_out_of : WalkTold → WalkOut
walk_out_of r = record { refusal = r.refusal; count = r.count; offset = r.fault_offset }
