-- The code is the definition.
-- Assumes nothing.
use Rattle.std.proofs.Common.{rules}
use Rattle.sha_rules.specs.Words.{Ch}
use Rattle.sha_words.proofs.ch.Goals as goal

pub returns : goal.returns
unfolding Ch
returns c = search rules
