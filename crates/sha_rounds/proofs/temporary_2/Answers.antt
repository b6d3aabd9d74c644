-- The sum is the definition's, term for term.
-- Assumes nothing.
use mathlib.Core.Path.{refl}
use Rattle.sha_rules.specs.Hash.{T₂}
use Rattle.sha_rounds.proofs.temporary_2.Goals as goal

pub returns : goal.returns
unfolding T₂
returns c = rw (c.add.ensures, c.maj.ensures, c.big_sigma_0.ensures) refl
