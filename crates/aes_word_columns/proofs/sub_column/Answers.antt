-- The word has the four bytes that the S-box gives.
-- Assumes nothing.
use mathlib.Core.Path.{refl, ◌∙◌}
use Rattle.octets.proofs.Lists.{◌&◌}
use Rattle.aes_word_columns.proofs.sub_column.Goals as goal

pub returns : goal.returns
returns c = c.word_of.ensures
    ∙ (c.sub_byte.ensures & c.sub_byte-2.ensures & c.sub_byte-3.ensures & c.sub_byte-4.ensures & refl)
