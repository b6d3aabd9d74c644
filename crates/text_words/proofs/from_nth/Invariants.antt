-- `from_nth` meets its contract. The loop's invariant: what is left is the line's end, and what is left to pass over are the words before it.
-- Assumes nothing.
use Rattle.std.proofs.Common.{◌≡◌, ◌-◌}
use Rattle.text_words.specs.Words.{word_from, word_of, IsEnd}
use Rattle.text_words.proofs.from_nth.Given as goal

abbrev pub invariant-loop-i : goal.invariant-loop-i
invariant-loop-i l = IsEnd l.s l.rest × (word_of l.k l.s ≡ word_from (l.k - l._i) l.rest)
