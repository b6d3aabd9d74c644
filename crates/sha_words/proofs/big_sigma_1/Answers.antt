-- Each rotation is the definition's, and so is their exclusive-or.
-- Assumes nothing.
use mathlib.Core.Path.{refl}
use Rattle.sha_rules.specs.Words.{Σ₁}
use Rattle.sha_words.proofs.big_sigma_1.Goals as goal

pub returns : goal.returns
unfolding Σ₁
returns c = rw (c.rotate.ensures, c.rotate-2.ensures, c.rotate-3.ensures) refl
