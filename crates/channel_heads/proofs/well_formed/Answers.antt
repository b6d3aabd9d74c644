-- The three tests joined are the definition's.
-- Assumes nothing.
use mathlib.Core.Path.{refl}
use Rattle.channel_heads.proofs.well_formed.Goals as goal

pub returns : goal.returns
returns c = refl
