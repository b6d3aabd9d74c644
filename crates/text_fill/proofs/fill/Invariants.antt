-- `fill` meets its contract. The loop's invariant: the bytes so far are written, and b is the next.
-- Assumes nothing.
use Rattle.std.proofs.Common.{length, ◌≡◌, ◌+◌, ◌*◌, ◌%◌}
use Rattle.octets.proofs.Filling.{Filled}
use Rattle.text_fill.specs.Steps.{stepped}
use Rattle.text_fill.proofs.fill.Given as goal

abbrev pub invariant-loop-x : goal.invariant-loop-x
invariant-loop-x l = record {
  filled : Filled (length l.initial.buf) (stepped l.first l.step (length l.initial.buf)) l.buf l.x-index;
  next : l.b ≡ (l.first + l.x-index * l.step) % 256;
}
