-- What 9000 in an event has to do with the answer: where ANSWER is not refused, it tells one reply, sealed or plain, whose status word is 9000 exactly if
-- the event names a command, and that command is the one that came to its checks. Every room is in bytes.
use Rattle.std.specs.Prelude.{ℕ, ◌≡◌, Bool, true, false, List, eqb}
use Rattle.std.proofs.Math.Option.{Option, none, some}
use Rattle.card.specs.declared.Card.{Card}
use Rattle.rules.specs.declared.Command.{Command}
use Rattle.rules.specs.Words.{success, Reply}
use Rattle.rules.specs.Channel.{tell}
use Rattle.rules.specs.Steps.{goes, Arrived, arrival}
use Rattle.rules.specs.Engine.{answered_at, answer_out}
use Rattle.laws_allowance.specs.Events.{given}

abbrev pub is_given : Option Command → Bool
is_given none = false
is_given (some k) = true

-- the command that steps 1 to 5 came to
pub record Came (c : Card) (cmd : List ℕ) (k : Command) : Type 0 where
  pub arrived : Arrived
  pub goes' : arrival c cmd ≡ goes arrived
  pub names : arrived.command ≡ k

pub record Told (c : Card) (cmd s : List ℕ) (room : ℕ) : Type 0 where
  pub over : Bool
  pub reply : Reply
  pub fault_offset : ℕ
  pub answer : answer_out c cmd s room ≡ answered_at fault_offset (tell over reply)
  pub word : is_given (given c cmd s) ≡ eqb reply.status success
  pub came : (k : Command) → given c cmd s ≡ some k → Came c cmd k
