-- Each rotation is the definition's, and so is their exclusive-or.
-- Assumes nothing.
use mathlib.Core.Path.{refl}
use Rattle.sha_rules.specs.Words.{σ₀}
use Rattle.sha_words.proofs.small_sigma_0.Goals as goal

pub returns : goal.returns
unfolding σ₀
returns c = rw (c.rotate.ensures, c.rotate-2.ensures) refl
