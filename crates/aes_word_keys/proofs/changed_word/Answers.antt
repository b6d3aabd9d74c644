-- The two cases of the changed word, by the word's number.
-- Assumes nothing.
use Rattle.std.proofs.Common.{rules}
use Rattle.aes_word_keys.proofs.Changes.{changed-eighth, changed-fourth}
use Rattle.aes_word_keys.proofs.changed_word.Goals as goal

pub returns-then-n-eq0 : goal.returns-then-n-eq0
returns-then-n-eq0 c = changed-eighth c.args.n c.args.x c.sub_turned.result c.round_constant.result c.if-n-eq0.true c.sub_turned.ensures c.round_constant.ensures

pub returns : goal.returns
returns c = changed-fourth c.args.n c.args.x c.sub_column.result (search rules) c.if-n-eq0.false c.sub_column.ensures
