-- A command over the channel that opens (RULES 5.4), one that comes to its own checks, and what its definition then answers (RULES 5.6); and what
-- the rules answer to every command that opens (RULES 5.5, 5.6).
-- Every length is in bytes.
use Rattle.std.specs.Prelude.{ℕ, ◌≡◌, true, false, List, Err, Ok}
use Rattle.std.proofs.Math.Option.{Option, none, some}
use Rattle.card.specs.declared.Card.{Card}
use Rattle.rules.specs.declared.Instruction.{Instruction}
use Rattle.rules.specs.declared.Command.{Command}
use Rattle.rules.specs.Results.{Verdict}
use Rattle.rules.specs.Words.{wrong_parameters, verdict, Reply, fails}
use Rattle.rules.specs.Rules.{no_fault}
use Rattle.rules.specs.Rows.{is_plain}
use Rattle.rules.specs.Steps.{goes, step1, data_of, cla_of, ins_of, name_of, is_initialised, Opened, step4, Arrived, arrival, checks_of, supply_of, reply_of, fault_at}

-- a command over the channel that opens (RULES 5.1 to 5.4): on the card that step 1 leaves, step 2 takes its form, step 3 names an instruction that
-- is not plain, and step 4 goes on
pub record PastStep4 (c : Card) (cmd : List ℕ) : Type 0 where
  pub field : List ℕ
  pub instruction : Instruction
  pub opened : Opened
  pub form : data_of cmd ≡ some field
  pub name : name_of (is_initialised (step1 cmd c)) (cla_of cmd) (ins_of cmd) ≡ Ok instruction
  pub sealed : is_plain instruction ≡ false
  pub opens : step4 instruction cmd (step1 cmd c) field ≡ goes opened

-- the command, its data as received, and what steps 1 to 5 come to
pub record Opens (c : Card) (cmd : List ℕ) : Type 0 where
  pub field : List ℕ
  pub arrived : Arrived
  pub form : data_of cmd ≡ some field
  pub there : arrival c cmd ≡ goes arrived
  pub over : arrived.over ≡ true

-- step 6 where an error leaves the card as it is there: the reply, or the status word of the first check that does not hold
abbrev pub outcome_by : Command → Card → List ℕ → List ℕ → Verdict → Reply
outcome_by k c d s (Ok x) = reply_of k c d s
outcome_by k c d s (Err w) = fails c w

abbrev pub outcome : Command → Card → List ℕ → List ℕ → Reply
outcome k c d s = outcome_by k c d s (verdict (supply_of k) (checks_of k c d))

-- steps 5 and 6 of a command that opened in stage 2: 6A86 where its P1 and P2 name no command, else the outcome of the one that they name
abbrev pub reply_to : Option Command → Card → List ℕ → List ℕ → Reply
reply_to none c d s = fails c wrong_parameters
reply_to (some k) c d s = outcome k c d s

-- and the fault offset beside it (RULES 5.9)
abbrev pub fault_by : Command → List ℕ → Verdict → ℕ
fault_by k d (Ok x) = no_fault
fault_by k d (Err w) = fault_at k d w

abbrev pub fault_of : Command → Card → List ℕ → ℕ
fault_of k c d = fault_by k d (verdict (supply_of k) (checks_of k c d))

abbrev pub fault_to : Option Command → Card → List ℕ → ℕ
fault_to none c d = no_fault
fault_to (some k) c d = fault_of k c d
