-- The eight words are the definition's, with the two temporary words made once.
-- Assumes nothing.
use mathlib.Core.Path.{refl}
use Rattle.sha_rules.specs.Hash.{round}
use Rattle.sha_rounds.proofs.round_of.Goals as goal

pub returns : goal.returns
unfolding round
returns c = rw (c.add-2.ensures, c.add.ensures, c.temporary_2-t2.ensures, c.temporary_1-t1.ensures) refl
