-- `bytes_of` meets its contract: the word is `-`, or its pieces decide.
-- Assumes nothing.
use mathlib.Core.Path.{sym, ◌∙◌}
use lib.ListN.{length}
use Rattle.soft_word_bytes.proofs.WordFacts.{reads_none, reads-pieces}
use Rattle.soft_word_bytes.proofs.bytes_of.Goals as goal

pub returns-then-same : goal.returns-then-same
returns-then-same c = let a = c.args in
    reads_none a.last.now a.w.now (length a.out.now) (sym c.same.ensures ∙ c.if-same.true)

pub returns : goal.returns
returns c = let a = c.args in
    let other = sym c.same.ensures ∙ c.if-same.false in
    reads-pieces a.last.now a.w.now (length a.out.now) other c.pieces.ensures
