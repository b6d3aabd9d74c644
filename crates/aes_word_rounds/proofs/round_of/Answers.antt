-- The four columns are the round's.
-- Assumes nothing.
use Rattle.aes_word_rounds.proofs.States.{round-words}
use Rattle.aes_word_rounds.proofs.round_of.Goals as goal

pub returns : goal.returns
returns c = let g = c.args in
    round-words g.s g.w.now g.r c.well_formed.1.1.1.1.1.1.0.1.0.1 c.requires.w_len c.requires.r_bound
    c.mix_column.result c.mix_column-2.result c.mix_column-3.result c.mix_column-4.result
    c.mix_column.ensures c.mix_column-2.ensures c.mix_column-3.ensures c.mix_column-4.ensures
