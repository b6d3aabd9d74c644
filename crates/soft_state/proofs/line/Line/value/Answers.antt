-- `Line::value` meets its contract: what the buffer has from its start, as far as was answered, is what the word means.
-- Assumes nothing.
use Rattle.std.proofs.Common.{rules}
use Rattle.text_words.specs.Words.{word_of}
use Rattle.soft_state.specs.Items.{items}
use Rattle.soft_state.proofs.LineFacts.{value-read-whole}
use Rattle.soft_state.proofs.line.Line.value.Goals as goal

pub returns : goal.returns
returns g c = let a = c.args in
    rw c.truncate.ensures
    (value-read-whole (items a.desk.now.last) (word_of a.k a.self.now.bytes.now) _ c.in_ok-len.len c.bytes_of.ensures (search rules) c.as_slice-last.ensures c.word.ensures (search rules) (search rules) (search rules))
