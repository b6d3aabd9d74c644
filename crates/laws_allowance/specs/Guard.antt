-- What a private key that goes out and a signature need: that the latest comparison came out right, and that the channel has not left stage 2 since.
use Rattle.std.specs.Prelude.{◌≡◌, Bool, true, false, ◌&&◌, List, [], ◌∷◌}
use Rattle.std.proofs.Math.Option.{Option, none, some}
use Rattle.card.specs.declared.Card.{Card}
use Rattle.card.specs.State.{path_bytes}
use Rattle.card.specs.Slots.{all_of}
use Rattle.rules.specs.declared.ExportPath.{ExportPath}
use Rattle.rules.specs.declared.ExportPart.TheVariants as export_part
use Rattle.rules.specs.declared.Command.TheVariants as command
use Rattle.rules.specs.Comparison.{Comparison}
use Rattle.laws_two_runs.specs.Runs.{Call}
use Rattle.laws_allowance.specs.Events.{Event, succeeded_at}
use Rattle.laws_allowance.specs.History.{from_latest, History, events_in, card_after}

-- ---- a comparison, of the PIN or of the PUK, and one that came out right
abbrev pub is_made : Option Comparison → Bool
is_made none = false
is_made (some x) = true

abbrev pub came_right : Option Comparison → Bool
came_right none = false
came_right (some x) = x.right

-- ---- the first of these calls compared and it came out right, and it and all others left the channel in stage 2
abbrev pub right_first : List Event → Bool
right_first [] = false
right_first (e ∷ more) = came_right e.compared

abbrev pub still_open : List Event → Bool
still_open events = right_first events && all_of (λ e. e.in2) events

-- the latest comparison came out right, and the channel has not left stage 2 since
abbrev pub is_guarded : List Event → Bool
is_guarded events = still_open (from_latest (λ e. is_made e.compared) events)

-- the PIN-less path is not empty, and it is the current path
abbrev pub OnPinlessPath : Card → Type 0
OnPinlessPath c = (c.keys.pinless.len ≡ 0 → ⊥) × (path_bytes c.keys.current ≡ path_bytes c.keys.pinless)

-- ---- what is claimed of the call after a history: 9000 for SIGN, unless the card that it is given is on a PIN-less path, or for EXPORT with P2 00
pub record Guard (h : History) (k : Call) : Type 0 where
  pub signs : succeeded_at (card_after h) k ≡ some command.Sign → (OnPinlessPath (card_after h) → ⊥) → is_guarded (events_in h) ≡ true
  pub exports : (which : ExportPath) → succeeded_at (card_after h) k ≡ some (command.Export which export_part.PrivateAndPublic)
      → is_guarded (events_in h) ≡ true
