-- The shift and the remainder are the definition's quotient and remainder, for the power of 2 fits 32 bits.
-- Assumes nothing.
use mathlib.Core.Path.{ap}
use Prim.Native.Nat.{ℕ, ◌/◌, ◌%◌, ◌^◌}
use native.Mathlib.Nat.{one-le-pow}
use native.Mathlib.Omega.{arith}
use Rattle.phrase_bits.proofs.Windows.{power-fits}
use Rattle.phrase_bits.proofs.bits_at.Goals as goal

pub nonzero_rem-result : goal.nonzero_rem-result
nonzero_rem-result c = rw (power-fits c.args.width_bits (omega arith)) (one-le-pow c.args.width_bits 2 (omega arith))

pub returns : goal.returns
returns c = ap (λ (p : ℕ). c.args.x / 2 ^ c.args.bits_after % p) (power-fits c.args.width_bits (omega arith))
