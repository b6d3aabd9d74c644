-- `hex::decode` meets its contract. The loop's invariant: the bytes passed are those that the text spells, and all their
-- characters are digits.
-- Assumes nothing.
use Rattle.std.proofs.Common.{length}
use Rattle.octets.proofs.Filling.{Filled}
use Rattle.text_hex.specs.Hex.{bytes_of, Spelled}
use Rattle.text_hex.proofs.hex.decode.Given as goal

abbrev pub invariant-loop-i : goal.invariant-loop-i
invariant-loop-i l = record {
  filled : Filled (length l.initial.out) (bytes_of (length l.initial.out) l.text) l.out l.i;
  spelled : Spelled l.i l.text;
}
