-- The two bytes are those of number k (`from-two-at`).
-- Assumes nothing.
use mathlib.Core.Path.{sym, ◌∙◌}
use native.Mathlib.Omega.{arith}
use Rattle.phrase_bits.proofs.Windows.{from-two-at}
use Rattle.phrase_bits.proofs.number_in.Goals as goal

pub returns : goal.returns
returns c = c.two_bytes.ensures ∙ sym (from-two-at c.args.words.now c.args.k (omega arith))
