-- The three cases of the next word, by the word's number.
-- Assumes nothing.
use Rattle.aes_keys.proofs.Words.{next-eighth, next-fourth, next-other}
use Rattle.aes_keys.proofs.next_word.Goals as goal

pub returns-then-k-eq0 : goal.returns-then-k-eq0
returns-then-k-eq0 c = next-eighth c.args.w.now c.word_at-old.result c.word_at-temp.result c.word_at-old.ensures c.word_at-temp.ensures
    c.rot_word.result c.sub_word.result c.round_constant.result c.xor_blocks.result c.xor_blocks-then-k-eq0.result
    c.if-k-eq0.true c.rot_word.ensures c.sub_word.ensures c.round_constant.ensures c.xor_blocks.ensures c.xor_blocks-then-k-eq0.ensures

pub returns-then-k-eq4 : goal.returns-then-k-eq4
returns-then-k-eq4 c = next-fourth c.args.w.now c.word_at-old.result c.word_at-temp.result c.word_at-old.ensures c.word_at-temp.ensures
    c.sub_word-then-k-eq4.result c.xor_blocks-then-k-eq4.result c.if-k-eq0.false c.if-k-eq4.true c.sub_word-then-k-eq4.ensures c.xor_blocks-then-k-eq4.ensures

pub returns : goal.returns
returns c = next-other c.args.w.now c.word_at-old.result c.word_at-temp.result c.word_at-old.ensures c.word_at-temp.ensures
    c.xor_blocks-2.result c.if-k-eq0.false c.if-k-eq4.false c.xor_blocks-2.ensures
