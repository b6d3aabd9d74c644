-- The four bytes of the component, one by one.
-- Assumes nothing.
use mathlib.Core.Path.{sym}
use Rattle.command_export_paths.proofs.PathFacts.{same-four}
use Rattle.command_export_paths.proofs.is_hardened.Goals as goal

pub returns : goal.returns
returns c =
    sym (same-four c.args.path.now c.args.at 0x80 0 c.args.high c.args.low c.requires)
