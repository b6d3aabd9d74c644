-- A law of PAIR: where the checks of its first step hold, the data have 32 bytes.
-- Assumes nothing.
use mathlib.Core.Path.{◌≡◌}
use mathlib.Core.List.{List}
use Prim.Native.Nat.{ℕ}
use lib.ListN.{length}
use borrow.Author.Tests.{eqb-true}
use Rattle.card.specs.declared.Pairing.{Pairing}
use Rattle.rules.specs.Words.{Hold}
use Rattle.rules.specs.Commands.{pair_first_checks}

-- ---- pair_first_checks: the data are a challenge
pub first-data : (p : Pairing) (stage : ℕ) (d : List ℕ) → Hold (pair_first_checks p stage d) → length d ≡ 32
unfolding pair_first_checks
first-data p stage d h = eqb-true _ _ h.1.0
