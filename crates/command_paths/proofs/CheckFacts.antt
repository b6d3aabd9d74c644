-- What the checks of DERIVE and SET PIN-LESS PATH say of the data. Every length is in bytes.
-- Assumes nothing.
use mathlib.Core.List.{List}
use Prim.Native.Nat.{ℕ, ◌≤◌}
use lib.ListN.{length}
use borrow.Author.Tests.{leb-true}
use Rattle.card.proofs.Tests.{both}
use Rattle.card.specs.declared.Pins.{Pins}
use Rattle.card.specs.declared.Keys.{Keys}
use Rattle.rules.specs.Words.{Hold}
use Rattle.rules.specs.Commands.{derive_checks, pinless_checks}

-- ---- derive_checks, pinless_checks: the data are at most 40 bytes
pub derive-data : (p : Pins) (k : Keys) (d : List ℕ) → Hold (derive_checks p k d) → length d ≤ 40
unfolding derive_checks
derive-data p k d h = leb-true _ _ (both _ _ h.1.0).0

pub pinless-data : (p : Pins) (d : List ℕ) → Hold (pinless_checks p d) → length d ≤ 40
unfolding pinless_checks
pinless-data p d h = leb-true _ _ (both _ _ h.1.0).0
