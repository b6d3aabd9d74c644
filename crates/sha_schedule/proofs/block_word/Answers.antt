-- The four bytes are those that the definition names, and they are within the block.
-- Assumes nothing.
use mathlib.Core.Path.{refl}
use Rattle.sha_rules.specs.Hash.{word}
use Rattle.sha_schedule.proofs.block_word.Goals as goal

pub returns : goal.returns
unfolding word
returns c = rw c.join.ensures refl
