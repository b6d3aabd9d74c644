-- What the parts of the check in code mean: a step is the next card where the command goes, or none. Every length is in bytes.
use Rattle.std.specs.Prelude.{ℕ, ◌≤◌, ◌≡◌, List, length, take, Some, None}
use Rattle.std.specs.Prelude as code
use Rattle.std.proofs.Math.Option.{Option, none, some}
use Rattle.card.specs.declared.Pins.{Pins}
use Rattle.card.specs.declared.Keys.{Keys}
use Rattle.card.specs.declared.Card.{Card}
use Rattle.card.specs.Sizes.{path_most_bytes}
use Rattle.plan_rules.specs.Known.{bare}
use Rattle.plan_steps.specs.declared.Step.{Step}

abbrev pub stepped : ℕ → code.Option Step → Option Card
stepped flag (Some r) = some (bare flag r.pins r.keys)
stepped flag None = none

-- the step from these parts is what f makes of their card, before INIT and after it
abbrev pub Leads : (Card → Option Card) → Pins → Keys → code.Option Step → Type 0
Leads f p k r = (flag : ℕ) → f (bare flag p k) ≡ stepped flag r

-- so many bytes of a path's room are in use, where the card says `len`
pub record InUse (len n : ℕ) : Type 0 where
  pub most : n ≤ path_most_bytes
  pub same : (s : List ℕ) → length s ≡ path_most_bytes → take n s ≡ take len s
