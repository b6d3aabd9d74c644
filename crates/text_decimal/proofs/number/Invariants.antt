-- `number` meets its contract. The loop's invariant: the characters read are digits and spell n, which is at most 1024.
-- Assumes nothing.
use Rattle.text_decimal.proofs.number.Given as goal
use Rattle.text_decimal.proofs.Facts.{Read}

abbrev pub invariant-loop-c : goal.invariant-loop-c
invariant-loop-c l = Read l.w l.n l.c-index
