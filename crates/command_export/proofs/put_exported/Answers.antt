-- By cases on P2: the parts of the supply are written as the template of what goes out.
-- Assumes nothing.

use Rattle.command_export.proofs.put_exported.Goals as goal

pub returns-in-PrivateAndPublic : goal.returns-in-PrivateAndPublic
returns-in-PrivateAndPublic c = rw c.in-PrivateAndPublic.is c.put_exported_pair.ensures

pub returns-in-PublicOnly : goal.returns-in-PublicOnly
returns-in-PublicOnly c = rw c.in-PublicOnly.is c.put_exported_public.ensures
