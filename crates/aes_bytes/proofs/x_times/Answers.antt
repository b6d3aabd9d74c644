-- A shift and a product by the bit that falls out are XTIMES, by its definition.
-- Assumes nothing.
use mathlib.Core.Path.{ap}
use Prim.Native.Nat.{ℕ, ◌*◌, ◌%◌}
use lib.Bits.{bit_xor}
use native.Mathlib.Omega.{arith}
use Rattle.aes_field.specs.Field.{x_times}
use Rattle.aes_bytes.proofs.x_times.Goals as goal

pub returns : goal.returns
unfolding x_times
returns c = ap (λ (y : ℕ). bit_xor (c.args.b * 2 % 256) (y * 27)) (omega arith)
