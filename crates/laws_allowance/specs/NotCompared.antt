-- What is no comparison: VERIFY with no PIN tries left; UNBLOCK with PIN tries left, with no PUK tries left, or with data of a wrong form.
-- Every length is in bytes.
use Rattle.std.specs.Prelude.{ℕ, ◌≡◌, false, List}
use Rattle.std.proofs.Math.Option.{none}
use Rattle.card.specs.declared.Card.{Card}
use Rattle.rules.specs.declared.Command.TheVariants as command
use Rattle.rules.specs.Commands.{is_unblocking}
use Rattle.rules.specs.Steps.{Arrived}
use Rattle.laws_two_runs.specs.Runs.{answer}
use Rattle.laws_allowance.specs.Events.{event_at}

-- ANSWER with a command that steps 1 to 5 brought to its checks as `a`
pub record NotCompared (c : Card) (cmd s buf : List ℕ) (a : Arrived) : Type 0 where
  pub verify : a.command ≡ command.Verify → c.pins.pin_tries ≡ 0 → (event_at c (answer cmd s buf)).compared ≡ none
  pub pinleft : a.command ≡ command.Unblock → (c.pins.pin_tries ≡ 0 → ⊥) → (event_at c (answer cmd s buf)).compared ≡ none
  pub pukspent : a.command ≡ command.Unblock → c.pins.puk_tries ≡ 0 → (event_at c (answer cmd s buf)).compared ≡ none
  pub form : a.command ≡ command.Unblock → is_unblocking a.data' ≡ false → (event_at c (answer cmd s buf)).compared ≡ none
