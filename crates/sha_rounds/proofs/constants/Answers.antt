-- The constant table is K of the definitions, entry for entry.
-- Assumes nothing.
use mathlib.Core.Path.{refl}
use Rattle.sha_rules.specs.Constants.{K}
use Rattle.sha_rounds.proofs.constants.Goals as goal

pub returns : goal.returns
unfolding K
returns c = refl
