-- What becomes of verification at a call of ASK, ANSWER or RESET (RULES 6.2).
use Rattle.std.specs.Prelude.{ℕ, ◌≡◌, Bool, true, ◌&&◌, ◌⊎◌, eqb}
use Rattle.std.proofs.Math.Option.{Option, some}
use Rattle.card.specs.declared.Card.{Card}
use Rattle.card.specs.Sound.{is_sound}
use Rattle.rules.specs.Rules.{Secret, pin, puk}
use Rattle.rules.specs.Commands.{is_verified}
use Rattle.rules.specs.Comparison.{Comparison}
use Rattle.laws_commands.specs.Verified.{verified_after}
use Rattle.laws_two_runs.specs.Runs.{Call, comparison_at, next_at}

-- a comparison of this secret that came out right
abbrev pub right : Secret → Option Comparison
right s = some (record { of = s; right = true })

-- the channel not in stage 2, and the PIN not verified
abbrev pub Lost : Card → Type 0
Lost c = (c.channel.stage ≡ 2 → ⊥) × (c.pins.verified ≡ 0)

pub record Verification (c : Card) (k : Call) : Type 0 where
  -- of a sound card: after the call the PIN is verified exactly if the channel is in stage 2, and the comparison that the call made, or, where
  -- it made none, what was before, says so
  pub exactly : is_sound c ≡ true
      → is_verified (next_at c k).pins ≡ (eqb (next_at c k).channel.stage 2 && verified_after (comparison_at c k) (is_verified c.pins))
  -- of every card: where the channel leaves stage 2, verification ends
  pub ends : c.channel.stage ≡ 2 → ((next_at c k).channel.stage ≡ 2 → ⊥) → (next_at c k).pins.verified ≡ 0
  -- of every card: verification begins only in stage 2, with the right PIN or the right PUK
  pub begins : c.pins.verified ≡ 0 → ((next_at c k).pins.verified ≡ 0 → ⊥)
      → (c.channel.stage ≡ 2) × ((comparison_at c k ≡ right pin) ⊎ (comparison_at c k ≡ right puk))
