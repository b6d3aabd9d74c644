-- What a run shows is what the operations do: at each call it shows what the contract of the operation lets its code report and leave in the buffer,
-- and of a report nothing is left out but PIN and PUK of the card in it. Every length is in bytes.
use Rattle.std.specs.Prelude.{ℕ, ◌≡◌, List, length}
use Rattle.card.specs.declared.Card.{Card}
use Rattle.sound.specs.declared.Answer.{Answer}
use Rattle.sound.specs.Reset.{reset_answer}
use Rattle.rules.specs.declared.Asked.{Asked}
use Rattle.rules.specs.declared.Answered.{Answered}
use Rattle.rules.specs.Engine.{ask_out, answer_out}
use Rattle.rules.specs.Reports.{AskDid, AnswerDid}
use Rattle.laws_two_runs.specs.Runs.{ask, answer, reset, Report, of_ask, of_answer, of_reset, answered_with, reset_with, shown, seen_at, next_at, Agree}

-- the second report is the first, or the first with another card that agrees with its own
abbrev pub SameReport : Report → Report → Type 0
SameReport (of_ask r) s = s ≡ of_ask r
SameReport (of_answer r) s = (d : Card) × (Agree r.card d × (s ≡ of_answer (answered_with d r)))
SameReport (of_reset r) s = (d : Card) × (Agree r.card d × (s ≡ of_reset (reset_with d r)))

pub record Shown : Type 0 where
  -- the report, the buffer, and the card that is passed on
  pub asks : (c : Card) (cmd before after : List ℕ) (r : Asked) → AskDid (ask_out c cmd (length before)) r before after
      → ((seen_at c (ask cmd before)).report ≡ of_ask r) × ((seen_at c (ask cmd before)).buffer ≡ after) × (next_at c (ask cmd before) ≡ c)
  pub answers : (c : Card) (cmd s before after : List ℕ) (r : Answered) → AnswerDid (answer_out c cmd s (length before)) r before after
      → ((seen_at c (answer cmd s before)).report ≡ shown (of_answer r))
      × ((seen_at c (answer cmd s before)).buffer ≡ after)
      × (next_at c (answer cmd s before) ≡ r.card)
  pub resets : (c : Card) (r : Answer) → r ≡ reset_answer c → ((seen_at c reset).report ≡ shown (of_reset r)) × (next_at c reset ≡ r.card)
  -- reports that are shown alike are the same but for PIN and PUK of their cards
  pub alike : (r s : Report) → shown r ≡ shown s → SameReport r s
