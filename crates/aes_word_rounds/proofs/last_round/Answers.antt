-- The four columns are the last round's.
-- Assumes nothing.
use native.Mathlib.Omega.{arith}
use Rattle.aes_word_rounds.proofs.States.{last-words}
use Rattle.aes_word_rounds.proofs.last_round.Goals as goal

pub returns : goal.returns
returns c = let g = c.args in
    last-words g.s g.w.now 14 c.well_formed.1.1.0.1.0.1 c.requires.w_len (omega arith)
    c.sub_column.result c.sub_column-2.result c.sub_column-3.result c.sub_column-4.result
    c.sub_column.ensures c.sub_column-2.ensures c.sub_column-3.ensures c.sub_column-4.ensures
