-- What VERIFY's check says of the card's PIN and PUK.
-- Assumes nothing.
use Prim.Native.Nat.{◌<◌}
use Rattle.card.specs.declared.Pins.{Pins}
use Rattle.rules.specs.Words.{Hold}
use Rattle.rules.specs.Commands.{verify_checks}
use Rattle.command_parts.proofs.CheckFacts.{not-zero}

-- ---- verify_checks: a try is left
pub verify-try : (p : Pins) → Hold (verify_checks p) → 0 < p.pin_tries
unfolding verify_checks
verify-try p h = not-zero _ h.0
