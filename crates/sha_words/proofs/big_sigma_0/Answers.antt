-- Each rotation is the definition's, and so is their exclusive-or.
-- Assumes nothing.
use mathlib.Core.Path.{refl}
use Rattle.sha_rules.specs.Words.{Σ₀}
use Rattle.sha_words.proofs.big_sigma_0.Goals as goal

pub returns : goal.returns
unfolding Σ₀
returns c = rw (c.rotate.ensures, c.rotate-2.ensures, c.rotate-3.ensures) refl
