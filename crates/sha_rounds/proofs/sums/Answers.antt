-- The result is filled from the front with the sums of the words.
-- Assumes nothing.
use Rattle.std.proofs.Common.{rules}
use mathlib.Core.Path.{refl, sym, ◌∙◌}
use Prim.Native.Nat.{ℕ}
use native.Mathlib.Omega.{arith}
use lib.ListN.{get_or}
use Rattle.octets.proofs.Lists.{get_d_tabulate}
use Rattle.octets.proofs.Filling.{filled_none, filled-one, filled-all}
use Rattle.sha_rules.specs.Words.{◌⊞◌}
use Rattle.sha_rounds.proofs.sums.Goals as goal

pub loop-i-init : goal.loop-i-init
loop-i-init c = filled_none (search rules) refl

pub loop-i-preserved : goal.loop-i-preserved
loop-i-preserved c = let a = c.args in
    let i : ℕ = c.loop-i.i in
    filled-one _ c.loop-i.invariant (omega arith) (c.add.ensures ∙ sym (get_d_tabulate 8 (λ k. get_or a.s k 0 ⊞ get_or a.h k 0) i (omega arith)))

pub returns : goal.returns
returns c = filled-all c.loop-i.invariant (omega arith)
