-- By cases on P1: only the third changes the current path.
-- Assumes nothing.

use Rattle.command_export.proofs.keys_after.Goals as goal

pub returns-in-MakeCurrent : goal.returns-in-MakeCurrent
returns-in-MakeCurrent c = rw (c.in-MakeCurrent.is, c.with_current.ensures, c.path_of.ensures)
