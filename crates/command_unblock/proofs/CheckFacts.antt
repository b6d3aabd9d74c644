-- What UNBLOCK's checks say of the card's PIN and PUK and of the data. Lengths are in bytes.
-- Assumes nothing.
use mathlib.Core.Path.{◌≡◌}
use mathlib.Core.List.{List}
use Prim.Native.Nat.{ℕ, ◌-◌, ◌<◌}
use native.Mathlib.Omega.{arith}
use lib.ListN.{length, take, drop, length-drop}
use lib.Seq.{take_all}
use borrow.Author.Tests.{eqb-true}
use Rattle.card.specs.declared.Pins.{Pins}
use Rattle.card.proofs.Tests.{both}
use Rattle.rules.specs.Words.{Hold}
use Rattle.rules.specs.Commands.{unblock_checks}
use Rattle.command_parts.proofs.CheckFacts.{not-zero}

-- ---- unblock_checks: a try of the PUK is left, and the data are 18 bytes
module _ (p : Pins) (d : List ℕ) (h : Hold (unblock_checks p d)) where
  pub unblock-try : 0 < p.puk_tries
  unfolding unblock_checks
  unblock-try = not-zero _ h.1.0

  pub unblock-long : length d ≡ 18
  unfolding unblock_checks
  unblock-long = eqb-true _ _ (both _ _ h.1.1.0).0

-- what comes after the PUK, up to the end
pub after-puk : (d : List ℕ) → take (length d - 12) (drop 12 d) ≡ drop 12 d
after-puk d = take_all (length d - 12) (drop 12 d) (omega (arith, length-drop 12 d))
