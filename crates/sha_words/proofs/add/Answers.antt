-- The library's sum that wraps is the sum modulo 2^32.
-- Assumes nothing.
use Rattle.std.proofs.Common.{rules}
use Rattle.sha_rules.specs.Words.{◌⊞◌}
use Rattle.sha_words.proofs.add.Goals as goal

pub returns : goal.returns
unfolding ◌⊞◌
returns c = search rules
