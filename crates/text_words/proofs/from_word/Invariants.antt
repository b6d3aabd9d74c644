-- `from_word` meets its contract. The loop's invariant: the line so far is blanks.
-- Assumes nothing.
use Rattle.std.proofs.Common.{◌≡◌, drop}
use Rattle.text_words.specs.Words.{from_word}
use Rattle.text_words.proofs.from_word.Given as goal

abbrev pub invariant-loop-i : goal.invariant-loop-i
invariant-loop-i l = from_word l.s ≡ from_word (drop l.i l.s)
