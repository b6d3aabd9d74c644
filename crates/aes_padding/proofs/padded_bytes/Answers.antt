-- The padded length, by its definition.
-- Assumes nothing.
use mathlib.Core.Path.{refl}
use Rattle.aes_padding.specs.Padding.{padded_bytes}
use Rattle.aes_padding.proofs.padded_bytes.Goals as goal

pub returns : goal.returns
unfolding padded_bytes
returns c = refl
