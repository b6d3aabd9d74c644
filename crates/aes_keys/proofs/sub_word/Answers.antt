-- The S-box of each byte of a word.
-- Assumes nothing.
use Rattle.std.proofs.Common.{rules, tests}
use Rattle.octets.proofs.Made.{mapped_by}
use Rattle.aes_field.specs.Field.{sub_byte}
use Rattle.aes_rules.specs.Schedule.{sub_word}
use Rattle.aes_keys.proofs.sub_word.Goals as goal

pub returns : goal.returns
unfolding sub_word
returns c = mapped_by _ sub_byte _ c.args.t c.map.result 0 _ (search rules) c.map.ensures.items (λ x r q e. search (rules, tests))
