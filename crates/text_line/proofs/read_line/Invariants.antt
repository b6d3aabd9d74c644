-- `read_line`: invariant: the line has no more bytes than there is room for.
-- Assumes nothing.
use mathlib.Core.Path.{◌≡◌}
use Prim.Native.Nat.{◌≤◌}
use lib.ListN.{length}
use Rattle.text_line.proofs.read_line.Given as goal

abbrev pub invariant-loop-byte : goal.invariant-loop-byte
invariant-loop-byte g l = l.len ≤ length l.buf × (length l.buf ≡ length l.initial.buf)
