-- `split_word` meets its contract. The loop's invariant: the line so far has no blank.
-- Assumes nothing.
use Rattle.std.proofs.Common.{◌≡◌, ◌+◌, drop}
use Rattle.text_words.specs.Words.{letters}
use Rattle.text_words.proofs.split_word.Given as goal

abbrev pub invariant-loop-i : goal.invariant-loop-i
invariant-loop-i l = letters l.s ≡ l.i + letters (drop l.i l.s)
