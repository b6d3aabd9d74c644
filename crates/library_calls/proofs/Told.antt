-- What a caller is told, with the record that is left, says all of it: two that give the same answer are the same. A number that is told as well
-- would have to be in the answers of the operations by value, and so in what a run shows.
-- Assumes nothing.
use mathlib.Core.Path.{◌≡◌, ap}
use Rattle.card.specs.declared.Card.{Card}
use Rattle.channel_rules.specs.declared.Session.{Session}
use Rattle.rules.specs.declared.Answered.{Answered}
use Rattle.channel_terminal.specs.declared.Outcome.{Outcome}
use Rattle.template_walk.specs.Walk.{WalkOut}
use Rattle.phrase_reverse.specs.declared.Entropy.{Entropy}
use Rattle.library_calls.specs.declared.Counted.{Counted}
use Rattle.library_calls.specs.declared.AnswerTold.{AnswerTold}
use Rattle.library_calls.specs.declared.WalkTold.{WalkTold}
use Rattle.library_calls.specs.Left.{answered_of, session_outcome, walk_out_of, entropy_of}

-- what is told of an answer, of an outcome, of WALK and of ENTROPY
abbrev of_answered : Answered → AnswerTold
of_answered a = record { refusal = a.refusal; count = a.count; fault_offset = a.fault_offset }

abbrev of_outcome : Outcome → Counted
of_outcome o = record { refusal = o.refusal; count = o.count }

abbrev of_walk : WalkOut → WalkTold
of_walk w = record { refusal = w.refusal; count = w.count; fault_offset = w.offset }

abbrev of_entropy : Entropy → Counted
of_entropy e = record { refusal = e.refusal; count = e.count }

pub answered-told : (r s : AnswerTold) (c : Card) → answered_of r c ≡ answered_of s c → r ≡ s
answered-told r s c e = ap of_answered e

pub session-told : (r s : Counted) (k : Session) → session_outcome r k ≡ session_outcome s k → r ≡ s
session-told r s k e = ap of_outcome e

pub walk-told : (r s : WalkTold) → walk_out_of r ≡ walk_out_of s → r ≡ s
walk-told r s e = ap of_walk e

pub entropy-told : (r s : Counted) → entropy_of r ≡ entropy_of s → r ≡ s
entropy-told r s e = ap of_entropy e
