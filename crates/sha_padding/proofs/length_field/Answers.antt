-- The length in bits, modulo 2^64, byte by byte.
-- Assumes nothing.
use mathlib.Core.Path.{refl, ◌∙◌}
use Prim.Native.Nat.{ℕ}
use native.Mathlib.Omega.{arith}
use Rattle.octets.proofs.Lists.{◌&◌}
use Rattle.sha_padding.proofs.length_field.Goals as goal

pub returns : goal.returns
returns c = let l : ℕ = c.args.l in
    c.to_be_bytes.ensures
    ∙ (omega arith & omega arith & omega arith & omega arith & omega arith & omega arith & omega arith & omega arith & refl)
