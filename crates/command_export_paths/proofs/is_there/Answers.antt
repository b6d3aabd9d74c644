-- The bytes in use of the card's path.
-- Assumes nothing.
use Rattle.std.proofs.Common.{rules}
use mathlib.Core.Path.{◌≡◌, sym, ap, ◌∙◌}
use Prim.Native.Nat.{ℕ}
use native.Mathlib.Omega.{arith}
use lib.ListN.{length, take}
use lib.Seq.{length-take-le}
use Rattle.rules.specs.Commands.{in_eip1581}
use Rattle.command_export_paths.proofs.is_there.Goals as goal

pub slice_bounds-bytes-end : goal.slice_bounds-bytes-end
slice_bounds-bytes-end c =
    let l : length c.args.path.bytes ≡ 40 = search rules in
    omega (arith, l, c.wide-end.ensures, c.requires)

pub slice_bounds-in_eip_1581-end : goal.slice_bounds-in_eip_1581-end
slice_bounds-in_eip_1581-end c = sym (length-take-le c.wide-end.result c.args.path.bytes ((let l : length c.args.path.bytes ≡ 40 = search rules in
    omega (arith, l, c.wide-end.ensures, c.requires))))

pub returns : goal.returns
returns c = c.in_eip_1581.ensures ∙ ap (λ (n : ℕ). in_eip1581 (take n c.args.path.bytes)) c.wide-end.ensures
