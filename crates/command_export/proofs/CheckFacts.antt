-- What EXPORT's checks say of the data. Every length is in bytes.
-- Assumes nothing.
use mathlib.Core.Path.{◌≡◌}
use mathlib.Core.Bool.{true}
use mathlib.Core.List.{List}
use Prim.Native.Nat.{ℕ, ◌≤◌, ◌%◌}
use native.Mathlib.Omega.{arith}
use lib.Dec.{leb, eqb}
use lib.ListN.{length}
use borrow.Author.Tests.{leb-true, eqb-true}
use Rattle.card.proofs.Tests.{both}
use Rattle.card.specs.declared.Pins.{Pins}
use Rattle.card.specs.declared.Keys.{Keys}
use Rattle.rules.specs.declared.ExportPath.{ExportPath}
use Rattle.rules.specs.declared.ExportPath.TheVariants as export_path
use Rattle.rules.specs.declared.ExportPart.{ExportPart}
use Rattle.rules.specs.Words.{Hold}
use Rattle.rules.specs.Commands.{is_export_data, export_checks}

-- ---- is_export_data: at most 40 bytes, whatever P1 is
data-long : (which : ExportPath) (d : List ℕ) → is_export_data which d ≡ true → length d ≤ 40
data-long export_path.Current d e = omega (arith, eqb-true (length d) 0 e)
data-long export_path.Given d e = leb-true (length d) 40 (both (leb (length d) 40) (eqb (length d % 4) 0) e).0
data-long export_path.MakeCurrent d e = leb-true (length d) 40 (both (leb (length d) 40) (eqb (length d % 4) 0) e).0

pub export-data : (p : Pins) (k : Keys) (which : ExportPath) (what : ExportPart) (d : List ℕ) → Hold (export_checks p k which what d)
    → length d ≤ 40
unfolding export_checks
export-data p k which what d h = data-long which d h.1.0
