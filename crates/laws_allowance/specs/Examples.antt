-- Histories that show that no claim is empty: each count comes to its most, each call that is no comparison occurs, and so do the calls with 9000.
-- Every length is in bytes.
use Rattle.std.specs.Prelude.{ℕ, ◌≡◌, false, List}
use Rattle.std.proofs.Math.Option.{none, some}
use Rattle.rules.specs.declared.Command.{Command}
use Rattle.rules.specs.declared.Command.TheVariants as command
use Rattle.rules.specs.Rules.{pin, puk}
use Rattle.rules.specs.Steps.{goes, Arrived, arrival}
use Rattle.laws_two_runs.specs.Runs.{Call, answer}
use Rattle.laws_allowance.specs.Events.{succeeded_at, event_at}
use Rattle.laws_allowance.specs.History.{guesses, History, events_in, card_after}
use Rattle.laws_allowance.specs.Guard.{OnPinlessPath, is_guarded}

-- a history with this many wrong PINs and wrong PUKs that count
pub record Guessed (pins puks : ℕ) : Type 0 where
  pub history : History
  pub pins' : guesses pin (events_in history) ≡ pins
  pub puks' : guesses puk (events_in history) ≡ puks

-- and a call after it that comes to the checks of this command with these data, and makes no comparison
pub record Uncompared (pins puks : ℕ) (k : Command) (data' : List ℕ) : Type 0 where
  pub guessed : Guessed pins puks
  pub bytes : List ℕ
  pub supply : List ℕ
  pub buffer : List ℕ
  pub arrived : Arrived
  pub arrives : arrival (card_after guessed.history) bytes ≡ goes arrived
  pub names : arrived.command ≡ k
  pub entered : arrived.data' ≡ data'
  pub unmade : (event_at (card_after guessed.history) (answer bytes supply buffer)).compared ≡ none

-- a history, and a call after it that gives 9000 for this command on a card that is not on a PIN-less path
pub record Succeeds (k : Command) : Type 0 where
  pub history : History
  pub call : Call
  pub gives : succeeded_at (card_after history) call ≡ some k
  pub off : OnPinlessPath (card_after history) → ⊥

-- a history after which SIGN gives 9000 on a PIN-less path, though the latest comparison came out wrong
pub record SignsUnguarded : Type 0 where
  pub history : History
  pub call : Call
  pub gives : succeeded_at (card_after history) call ≡ some command.Sign
  pub on : OnPinlessPath (card_after history)
  pub unguarded : is_guarded (events_in history) ≡ false
