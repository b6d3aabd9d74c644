-- The checksum has at most 8 bits, so that the product fits.
-- Assumes nothing.
use mathlib.Core.Path.{ap}
use Prim.Native.Nat.{ℕ, ◌*◌}
use native.Mathlib.Omega.{arith}
use Rattle.rules.proofs.Phrases.{bits_most}
use Rattle.command_mnemonic.proofs.entropy_bytes.Goals as goal

pub overflow_mul-result : goal.overflow_mul-result
overflow_mul-result c = record { fits = omega (arith, c.checksum_bits.ensures, bits_most c.args.which) }

pub returns : goal.returns
returns c = ap (λ (n : ℕ). 4 * n) c.checksum_bits.ensures
