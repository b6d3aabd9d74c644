-- The test is the definition, with the answer of the comparison in its place.
-- Assumes nothing.

use Rattle.command_sign.proofs.on_pinless_path.Goals as goal

pub returns : goal.returns
returns c = cc
