-- The bytes are written into zeros, by `path-put`.
-- Assumes nothing.
use Rattle.command_paths.proofs.PathFacts.{path-put}
use Rattle.command_paths.proofs.path_of.Goals as goal

pub returns : goal.returns
returns c = path-put c.args.«data».now _ c.put.ensures
