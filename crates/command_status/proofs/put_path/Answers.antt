-- A path's bytes in use are written from the start.
-- Assumes nothing.
use Rattle.std.proofs.Common.{rules}
use mathlib.Core.Path.{◌≡◌, sym}
use native.Mathlib.Omega.{arith}
use lib.ListN.{length}
use lib.Seq.{length-take-le}
use Rattle.command_status.proofs.ReplyFacts.{path-wrote}
use Rattle.command_status.proofs.put_path.Goals as goal

pub slice_bounds-bytes-end : goal.slice_bounds-bytes-end
slice_bounds-bytes-end c = let l : length c.args.path.bytes ≡ 40 = search rules in omega arith

pub slice_bounds-put-end : goal.slice_bounds-put-end
slice_bounds-put-end c =
    sym (length-take-le c.wide-n.result c.args.path.bytes ((let l : length c.args.path.bytes ≡ 40 = search rules in omega arith)))

pub put-requires : goal.put-requires
put-requires c = omega (arith, (sym (length-take-le c.wide-n.result c.args.path.bytes ((let l : length c.args.path.bytes ≡ 40 = search rules in omega arith)))))

pub returns : goal.returns
returns c =
    path-wrote _ _ _ _ c.wide-n.ensures ((let l : length c.args.path.bytes ≡ 40 = search rules in omega arith))
    (omega (arith, c.wide-n.ensures, c.requires.0, c.requires.1)) c.put.ensures
