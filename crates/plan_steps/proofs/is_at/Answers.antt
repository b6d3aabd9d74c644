-- The bytes in use of the path are compared with those asked for.
-- Assumes nothing.
use Rattle.std.proofs.Common.{rules}
use mathlib.Core.Path.{◌≡◌, sym, ap, ◌∙◌}
use mathlib.Core.List.{List}
use Prim.Native.Nat.{ℕ}
use native.Mathlib.Omega.{arith}
use lib.ListN.{length}
use lib.Seq.{length-take-le}
use Rattle.octets.specs.Bytes.{same_bytes}
use Rattle.plan_steps.proofs.is_at.Goals as goal

pub slice_bounds-bytes-end : goal.slice_bounds-bytes-end
slice_bounds-bytes-end c = let l : length c.args.path.bytes ≡ 40 = search rules in omega (arith, l, c.in_use-end.ensures.most)

pub slice_bounds-same-end : goal.slice_bounds-same-end
slice_bounds-same-end c = let a = c.args in
    sym (length-take-le c.in_use-end.result a.path.bytes ((let l : length c.args.path.bytes ≡ 40 = search rules in omega (arith, l, c.in_use-end.ensures.most))))

pub returns : goal.returns
returns c =
    let l : length c.args.path.bytes ≡ 40 = search rules in
    c.same.ensures ∙ ap (λ (s : List ℕ). same_bytes s c.args.asked.now) (c.in_use-end.ensures.same c.args.path.bytes l)
