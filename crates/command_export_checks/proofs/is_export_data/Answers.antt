-- By cases on P1, each with its own test.
-- Assumes nothing.
use mathlib.Core.Path.{refl}
use Rattle.command_export_checks.proofs.is_export_data.Goals as goal

pub returns-in-Current : goal.returns-in-Current
returns-in-Current c = rw c.in-Current.is refl

pub returns-in-Given : goal.returns-in-Given
returns-in-Given c = rw c.in-Given.is c.is_path.ensures

pub returns-in-MakeCurrent : goal.returns-in-MakeCurrent
returns-in-MakeCurrent c = rw c.in-MakeCurrent.is c.is_path-in-MakeCurrent.ensures
