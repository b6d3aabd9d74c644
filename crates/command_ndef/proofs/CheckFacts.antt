-- What the checks of SET NDEF say of the data, and its verdict as the code makes it, check by check. Every length is in bytes.
-- Assumes nothing.
use Rattle.std.specs.Prelude.{Err, Ok}
use mathlib.Core.Path.{◌≡◌}
use mathlib.Core.Bool.{Bool, cond}
use mathlib.Core.List.{List}
use Prim.Native.Nat.{ℕ, ◌≤◌}
use lib.ListN.{length}
use Rattle.card.specs.declared.Pins.{Pins}
use Rattle.card.specs.Sizes.{tap_most_bytes}
use Rattle.card.specs.Sound.{is_ndef}
use Rattle.card.proofs.TapFacts.{ndef-length}
use Rattle.rules.specs.Results.{Verdict}
use Rattle.rules.specs.Words.{Hold, verdict, conditions_not_met, wrong_data}
use Rattle.rules.specs.Supplies.{no_supply}
use Rattle.rules.specs.Commands.{is_verified, ndef_checks}

-- ---- ndef_checks: the data are at most as many bytes as the tap record has room for
pub ndef-data : (p : Pins) (d : List ℕ) → Hold (ndef_checks p d) → length d ≤ tap_most_bytes
unfolding ndef_checks
ndef-data p d h = ndef-length d h.1.0

-- the PIN first, then the data
pub ndef-chain :
    (p : Pins) (d : List ℕ) (ndef : Bool) (read data-check pin-check : Verdict)
    → ndef ≡ is_ndef d
    → read ≡ Ok no_supply
    → data-check ≡ cond ndef read (Err wrong_data)
    → pin-check ≡ cond (is_verified p) data-check (Err conditions_not_met)
    → pin-check ≡ verdict no_supply (ndef_checks p d)
unfolding ndef_checks
ndef-chain p d ndef read data-check pin-check e r a b = rw (b, a, r, e)
