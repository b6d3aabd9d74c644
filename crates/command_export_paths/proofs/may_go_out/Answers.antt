-- By cases on P2.
-- Assumes nothing.

use Rattle.command_export_paths.proofs.may_go_out.Goals as goal

pub returns-in-PrivateAndPublic : goal.returns-in-PrivateAndPublic
returns-in-PrivateAndPublic c = rw c.in-PrivateAndPublic.is c.exports_there.ensures
