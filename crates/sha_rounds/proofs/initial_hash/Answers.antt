-- The constant table is the initial hash value of the definitions, entry for entry.
-- Assumes nothing.
use mathlib.Core.Path.{refl}
use Rattle.sha_rules.specs.Constants.{H⁰}
use Rattle.sha_rounds.proofs.initial_hash.Goals as goal

pub returns : goal.returns
unfolding H⁰
returns c = refl
