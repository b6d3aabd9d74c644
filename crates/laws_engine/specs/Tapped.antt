-- What becomes of the tap record at an ANSWER (RULES 6.20). Every length is in bytes.
use Rattle.std.specs.Prelude.{ℕ, ◌≡◌, true, List}
use Rattle.card.specs.declared.Card.{Card}
use Rattle.card.specs.State.{tap_of}
use Rattle.card.specs.Sound.{is_ndef}
use Rattle.rules.specs.declared.Command.TheVariants as command
use Rattle.rules.specs.Commands.{is_verified}
use Rattle.rules.specs.Steps.{goes, Arrived, arrival}

-- ---- the next card has the tap record of the card given; or the command came to its own checks as SET NDEF, the PIN of the card given is
-- verified, its data, as opened, are of the form that SET NDEF takes, and they are the tap record
pub data TapAfter (c : Card) (cmd : List ℕ) (next : Card) : Type 0 where
  kept : next.tap ≡ c.tap → TapAfter c cmd next
  set : (a : Arrived) → arrival c cmd ≡ goes a → a.command ≡ command.SetNdef → is_verified c.pins ≡ true → is_ndef a.data' ≡ true
      → next.tap ≡ tap_of a.data' → TapAfter c cmd next
