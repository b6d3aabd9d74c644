-- A shifted 1 is the word of Rcon.
-- Assumes nothing.
use Rattle.std.proofs.Common.{rules}
use Rattle.aes_word_keys.proofs.Changes.{rcon-word}
use Rattle.aes_word_keys.proofs.round_constant.Goals as goal

pub returns : goal.returns
returns c = rcon-word c.args.j (search rules)
