-- The size of a phrase's checksum in bits (RULES 6.22).
-- Assumes nothing.
use Prim.Native.Nat.{◌≤◌}
use native.Mathlib.Omega.{arith}
use Rattle.rules.specs.declared.Phrase.{Phrase}
use Rattle.rules.specs.declared.Phrase.TheVariants as phrase
use Rattle.rules.specs.Rows.{checksum_bits}

-- ---- from 4 to 8
pub bits-least : (x : Phrase) → 4 ≤ checksum_bits x
bits-least phrase.Words12 = omega arith
bits-least phrase.Words15 = omega arith
bits-least phrase.Words18 = omega arith
bits-least phrase.Words21 = omega arith
bits-least phrase.Words24 = omega arith

pub bits_most : (x : Phrase) → checksum_bits x ≤ 8
bits_most phrase.Words12 = omega arith
bits_most phrase.Words15 = omega arith
bits_most phrase.Words18 = omega arith
bits_most phrase.Words21 = omega arith
bits_most phrase.Words24 = omega arith
