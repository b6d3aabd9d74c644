-- When a command compares the PIN or the PUK, and when the comparison comes out right (RULES 6.3). It follows from the order of checks, the
-- command's rule and the card that the call was given, not from the answer. VERIFY's one check is that tries are left, and the last check of
-- UNBLOCK is that of its data: where all hold, the comparison is made.
use Rattle.std.specs.Prelude.{ℕ, Bool, List, Err, Ok}
use Rattle.std.proofs.Math.Option.{Option, none, some}
use Rattle.card.specs.declared.Pins.{Pins}
use Rattle.card.specs.declared.Card.{Card}
use Rattle.rules.specs.Results.{Verdict}
use Rattle.rules.specs.Words.{verdict}
use Rattle.rules.specs.Rules.{Secret, right_by}
use Rattle.rules.specs.Commands.{rule_of}
use Rattle.rules.specs.Steps.{Step, goes, stops, Arrived, arrival, checks_of, supply_of}

-- ---- a comparison: of which of the two, and whether it comes out right
pub record Comparison : Type 0 where
  pub of : Secret
  pub right : Bool

abbrev pub compared : Option Secret → Pins → List ℕ → Option Comparison
compared none p d = none
compared (some s) p d = some (record { of = s; right = right_by s p d })

-- a command at its checks compares where all of them hold and its rule says so
abbrev pub compared_by : Pins → Arrived → Verdict → Option Comparison
compared_by p a (Ok s) = compared (rule_of a.command).compares p a.data'
compared_by p a (Err w) = none

abbrev pub compared_at6 : Pins → Arrived → Option Comparison
compared_at6 p a = compared_by p a (verdict (supply_of a.command) (checks_of a.command a.card a.data'))

abbrev pub compared_past : Pins → Step Arrived → Option Comparison
compared_past p (goes a) = compared_at6 p a
compared_past p (stops t) = none

-- what a command compares that is given to ANSWER and is not refused, with PIN and PUK of the card that the call was given
unfoldable pub comparison : Card → List ℕ → Option Comparison
comparison c cmd = compared_past c.pins (arrival c cmd)
