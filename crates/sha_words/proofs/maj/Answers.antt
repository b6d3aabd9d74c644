-- The code is the definition.
-- Assumes nothing.
use Rattle.std.proofs.Common.{rules}
use Rattle.sha_rules.specs.Words.{Maj}
use Rattle.sha_words.proofs.maj.Goals as goal

pub returns : goal.returns
unfolding Maj
returns c = search rules
