-- `block` gives the slice's 16 bytes: a list of 16 elements is those elements, written out.
-- Assumes nothing.
use Rattle.std.proofs.Common.{rules}
use mathlib.Core.Path.{sym}
use Rattle.octets.proofs.Lists.{tabulated}
use Rattle.octets.proofs.block.Goals as goal

pub returns : goal.returns
returns c = sym (tabulated 16 c.args.s.now (search rules))
