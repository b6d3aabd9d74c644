-- What a call did: the comparison that it made, the command that it gave 9000 for, and whether it left the channel in stage 2. All of it is read
-- off the call and the card that it was given, by the rulebook's arrival, verdict and reply.
use Rattle.std.specs.Prelude.{ℕ, Bool, cond, List, [], ◌∷◌, eqb, length, Err, Ok}
use Rattle.std.proofs.Math.Option.{Option, none, some}
use Rattle.refusals.specs.Refusals.{no_refusal}
use Rattle.card.specs.declared.Card.{Card}
use Rattle.rules.specs.declared.Command.{Command}
use Rattle.rules.specs.Results.{Verdict}
use Rattle.rules.specs.Words.{success, verdict}
use Rattle.rules.specs.Steps.{Step, goes, stops, Arrived, arrival, checks_of, supply_of, reply_of}
use Rattle.rules.specs.Engine.{answer_out}
use Rattle.rules.specs.Comparison.{Comparison}
use Rattle.laws_two_runs.specs.Runs.{Call, ask, answer, reset, comparison_at, next_at}

-- ---- the command that gives 9000, if any (RULES 5.6): one that came to its checks, by the status word of the check that fails or of its reply
abbrev pub given_by : Command → ℕ → Option Command
given_by k status = cond (eqb status success) (some k) none

abbrev pub word_by : Arrived → List ℕ → Verdict → ℕ
word_by a s (Ok k) = (reply_of a.command a.card a.data' s).status
word_by a s (Err w) = w

abbrev pub given_at6 : List ℕ → Arrived → Option Command
given_at6 s a = given_by a.command (word_by a s (verdict (supply_of a.command) (checks_of a.command a.card a.data')))

abbrev pub given_past : List ℕ → Step Arrived → Option Command
given_past s (goes a) = given_at6 s a
given_past s (stops t) = none

-- what ANSWER gives 9000 for where it is not refused
unfoldable pub given : Card → List ℕ → List ℕ → Option Command
given c cmd s = given_past s (arrival c cmd)

-- only ANSWER gives status words, and a numbered refusal gives none
unfoldable pub succeeded_at : Card → Call → Option Command
succeeded_at c (ask cmd buf) = none
succeeded_at c (answer cmd s buf) = cond (eqb (answer_out c cmd s (length buf)).refusal no_refusal) (given c cmd s) none
succeeded_at c reset = none

-- ---- what a call did: the comparison that it made, if any; the command that it gave 9000 for, if any; whether the card that it left is in stage 2
pub record Event : Type 0 where
  pub compared : Option Comparison
  pub succeeded : Option Command
  pub in2 : Bool

unfoldable pub event_at : Card → Call → Event
event_at c k = record {
  compared = comparison_at c k;
  succeeded = succeeded_at c k;
  in2 = eqb (next_at c k).channel.stage 2;
}

-- each call of a list, given the card that the one before it left
unfoldable pub events_of : Card → List Call → List Event
events_of c [] = []
events_of c (k ∷ more) = event_at c k ∷ events_of (next_at c k) more
