-- Agreement of two cards is equality of what is left with PIN and PUK put away, and step 1 looks at neither.
-- Assumes nothing.
use mathlib.Core.Path.{◌≡◌, refl, ap, ◌∙◌}
use mathlib.Core.Bool.{◌&&◌, not}
use mathlib.Core.List.{List}
use Prim.Native.Nat.{ℕ}
use lib.Dec.{eqb}
use Rattle.card.specs.declared.Card.{Card}
use Rattle.card.specs.State.{with_secrets, closed, forgotten, unverified}
use Rattle.rules.specs.Steps.{begins, dropping, forgetting, step1}
use Rattle.laws_commands.specs.Lawful.{erase}
use Rattle.laws_commands.proofs.Erasure.{cond_map}
use Rattle.laws_engine.proofs.Sound.{step1-keeps}
use Rattle.laws_two_runs.specs.Runs.{Agree}

-- ---- Agree
pub agree-erase : (c d : Card) → Agree c d → erase c ≡ erase d
agree-erase c d a = cc (a.initialised, a.identity, a.pintries, a.puktries, a.verified, a.pairing, a.keys, a.channel, a.tap)

pub erase-agree : (c d : Card) → erase c ≡ erase d → Agree c d
erase-agree c d e = record {
  initialised = ap (λ (x : Card). x.initialised) e;
  identity = ap (λ (x : Card). x.identity) e;
  pintries = ap (λ (x : Card). x.pins.pin_tries) e;
  puktries = ap (λ (x : Card). x.pins.puk_tries) e;
  verified = ap (λ (x : Card). x.pins.verified) e;
  pairing = ap (λ (x : Card). x.pairing) e;
  keys = ap (λ (x : Card). x.keys) e;
  channel = ap (λ (x : Card). x.channel) e;
  tap = ap (λ (x : Card). x.tap) e;
}

-- the second of two cards that agree is the first with another PIN and PUK
pub agree-swap : (c d : Card) → Agree c d → with_secrets d.pins.pin d.pins.puk c ≡ d
agree-swap c d a = ap (with_secrets d.pins.pin d.pins.puk) (agree-erase c d a)

-- ---- step 1 looks at neither
module _ (cmd : List ℕ) (c : Card) where
  -- and leaves PIN, PUK and tries as they are
  pub step1-pins : unverified (step1 cmd c).pins ≡ unverified c.pins
  step1-pins = step1-keeps (λ (x : Card). unverified x.pins ≡ unverified c.pins) (λ _ e. e) (λ _ e. e) cmd c refl

  pub step1-swap : (p q : List ℕ) → step1 cmd (with_secrets p q c) ≡ with_secrets p q (step1 cmd c)
  unfolding step1
  step1-swap p q =
      ap (forgetting cmd) (cond_map (with_secrets p q) (eqb c.channel.stage 1 && not (begins 0x11 cmd)) (closed c) c)
      ∙ cond_map (with_secrets p q) (begins 0x12 cmd) (dropping cmd c) (forgotten (dropping cmd c))
