-- `pieces` meets its contract. The loop's invariant: the pieces passed are put, and the pieces left decide.
-- Assumes nothing.
use lib.ListN.{length}
use Rattle.soft_word_bytes.proofs.WordFacts.{Joining}
use Rattle.soft_word_bytes.proofs.pieces.Given as goal

abbrev pub invariant-loop-p : goal.invariant-loop-p
invariant-loop-p l = Joining l.w l.last l.initial.out l.out (length l.yielded) l.len
