-- The length in use, and the bytes after it.
-- Assumes nothing.
use Rattle.std.proofs.Common.{rules}
use native.Mathlib.Omega.{arith}
use lib.ListN.{length-set}
use Rattle.card.specs.Sizes.{path_most_bytes}
use Rattle.soft_card_put.proofs.Wrote.{wrote-room}
use Rattle.soft_card_put.proofs.with_path.Goals as goal

pub returns : goal.returns
returns c = let g = c.args in
    wrote-room g.s g.at g.x.len path_most_bytes g.x.bytes (search rules) (omega (arith, length-set g.s g.at g.x.len)) c.put.ensures
