-- `count` meets its contract. The loop's invariant: the words counted and those that begin later are all words.
-- Assumes nothing.
use Rattle.std.proofs.Common.{◌≡◌, ◌+◌, ◌≤◌, drop}
use Rattle.text_words.specs.Words.{words_behind, word_count}
use Rattle.text_words.proofs.count.Given as goal

abbrev pub invariant-loop-c : goal.invariant-loop-c
invariant-loop-c l = record {
  left : word_count l.s ≡ l.n + words_behind l.blank_before (drop l.c-index l.s);
  most : l.n ≤ l.c-index;
}
