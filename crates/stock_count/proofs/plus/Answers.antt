-- `plus` fills its result from the front with the sums of the numbers.
-- Assumes nothing.
use Rattle.std.proofs.Common.{rules}
use mathlib.Core.Path.{◌≡◌, sym, ◌∙◌}
use Prim.Native.Nat.{◌-◌}
use native.Mathlib.Omega.{arith}
use lib.ListN.{length}
use Rattle.octets.proofs.Filling.{filled_none, filled-one, filled-all}
use Rattle.stock_rules.specs.Counts.{number_count}
use Rattle.stock_rules.proofs.PlusFacts.{get_d-plus, length-plus}
use Rattle.stock_count.proofs.plus.Goals as goal

pub loop-i-init : goal.loop-i-init
loop-i-init c = let l : length c.args.c ≡ number_count = search rules in
    let m : length c.args.d ≡ number_count = search rules in
    filled_none l (length-plus c.args.c c.args.d (omega arith) ∙ l)

pub overflow_add-sum : goal.overflow_add-sum
overflow_add-sum c = omega (arith, c.requires c.loop-i.i)

pub loop-i-preserved : goal.loop-i-preserved
loop-i-preserved c = filled-one _ c.loop-i.invariant (omega arith) (sym (get_d-plus c.args.c c.args.d c.loop-i.i))

pub returns : goal.returns
returns c = filled-all c.loop-i.invariant (omega arith)
