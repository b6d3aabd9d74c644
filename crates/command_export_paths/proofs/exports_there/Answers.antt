-- By cases on P1: the current path, or the given one.
-- Assumes nothing.

use Rattle.command_export_paths.proofs.exports_there.Goals as goal

pub returns-in-Current : goal.returns-in-Current
returns-in-Current c = rw c.in-Current.is c.is_there-current.ensures

pub returns-in-Given : goal.returns-in-Given
returns-in-Given c = rw c.in-Given.is c.in_eip_1581-given.ensures

pub returns-in-MakeCurrent : goal.returns-in-MakeCurrent
returns-in-MakeCurrent c = rw c.in-MakeCurrent.is c.in_eip_1581-given.ensures
