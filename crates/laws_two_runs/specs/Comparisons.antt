-- What RULES 6.3 says of comparisons, sentence by sentence, beside the rulebook's `comparison`, which follows from the order of checks and the
-- rules (proofs/Comparisons: the two are the same). Every length is in bytes.
use Rattle.std.specs.Prelude.{ℕ, ◌≡◌, Bool, ◌&&◌, not, cond, List, take}
use Rattle.std.proofs.Math.Option.{Option, none, some}
use Rattle.octets.specs.Bytes.{same_bytes}
use Rattle.card.specs.declared.Pins.{Pins}
use Rattle.card.specs.declared.Card.{Card}
use Rattle.card.specs.Slots.{is_zero}
use Rattle.rules.specs.declared.Command.TheVariants as command
use Rattle.rules.specs.Rules.{Secret, pin, puk}
use Rattle.rules.specs.Commands.{is_unblocking}
use Rattle.rules.specs.Channel.{Outgoing}
use Rattle.rules.specs.Steps.{goes, stops, Arrived, arrival}
use Rattle.rules.specs.Comparison.{Comparison, comparison}

abbrev pub comparison_of : Secret → Bool → Comparison
comparison_of s b = record { of = s; right = b }

-- VERIFY compares with tries left, and it comes out right exactly when the data are the PIN
unfoldable pub pin_comparison : Pins → List ℕ → Option Comparison
pin_comparison p d = cond (is_zero p.pin_tries) none (some (comparison_of pin (same_bytes d p.pin)))

-- UNBLOCK past its data check: no PIN tries are left, PUK tries are, and the data are 18 bytes whose last six are digits
abbrev pub past_data_check : Pins → List ℕ → Bool
past_data_check p d = is_zero p.pin_tries && not (is_zero p.puk_tries) && is_unblocking d

-- it compares there, and it comes out right exactly when the first 12 bytes are the PUK
unfoldable pub puk_comparison : Pins → List ℕ → Option Comparison
puk_comparison p d = cond (past_data_check p d) (some (comparison_of puk (same_bytes (take 12 d) p.puk))) none

-- a PIN comparison is VERIFY past step 5, a PUK comparison UNBLOCK; no other command makes one, and none is made where a step before stops.
-- PIN and PUK are those of the card that the call was given, the data are opened
pub record Comparisons (c : Card) (cmd : List ℕ) : Type 0 where
  pub stopped : (t : Outgoing) → arrival c cmd ≡ stops t → comparison c cmd ≡ none
  pub verify : (a : Arrived) → arrival c cmd ≡ goes a → a.command ≡ command.Verify → comparison c cmd ≡ pin_comparison c.pins a.data'
  pub unblock : (a : Arrived) → arrival c cmd ≡ goes a → a.command ≡ command.Unblock → comparison c cmd ≡ puk_comparison c.pins a.data'
  pub others : (a : Arrived) → arrival c cmd ≡ goes a → (a.command ≡ command.Verify → ⊥) → (a.command ≡ command.Unblock → ⊥)
      → comparison c cmd ≡ none
