-- The two numbers hold the 8 bits at the place (`eight-at`).
-- Assumes nothing.
use mathlib.Core.Path.{ap₂, sym, ◌∙◌}
use Prim.Native.Nat.{ℕ, ◌+◌, ◌-◌, ◌*◌, ◌/◌, ◌%◌, ◌^◌}
use native.Mathlib.Omega.{arith}
use Rattle.phrase_rules.specs.Reverse.{from_two_bytes}
use Rattle.phrase_rules.proofs.Numbers.{length-from_two_bytes}
use Rattle.phrase_bits.proofs.Windows.{eight-at}
use Rattle.phrase_bits.proofs.byte_at.Goals as goal

pub returns : goal.returns
returns c = let words = c.args.words.now in
    let place = c.args.k * 8 in (
      c.bits_at.ensures
          ∙ ap₂ (λ (x y : ℕ). (x * 2048 + y) / 2 ^ (14 - place % 11) % 2 ^ 8) c.low_bits_in.ensures.0 c.low_bits_in-2.ensures.0
          ∙ sym (eight-at (from_two_bytes words) place (omega (arith, length-from_two_bytes words))),
      omega (arith, c.bits_at.ensures),
    )
