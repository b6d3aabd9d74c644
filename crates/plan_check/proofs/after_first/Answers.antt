-- By whether the first command is whole, and by its head.
-- Assumes nothing.
use mathlib.Core.Path.{◌≡◌, sym, ap, ◌∙◌}
use mathlib.Core.Bool.{Bool, cond}
use mathlib.Core.Option.{none}
use mathlib.Core.List.{List}
use Prim.Native.Nat.{ℕ, ◌+◌, ◌-◌}
use native.Mathlib.Omega.{arith}
use lib.ListN.{take, drop}
use Rattle.rules.specs.Steps.{ins_of}
use Rattle.plan_rules.specs.Plan.{first_data, after_that}
use Rattle.plan_rules.specs.Known.{bare}
use Rattle.plan_rules.proofs.CommandFacts.{command_of}
use Rattle.plan_rules.proofs.RunFacts.{first_short, first-by-head}
use Rattle.plan_check.proofs.after_first.Goals as goal

data-bytes : {n end : ℕ} → end ≡ 5 + n → n ≡ end - 5
data-bytes e = omega arith

pub returns-then-plan-end : goal.returns-then-plan-end
returns-then-plan-end c = let a = c.args in
    first_short (bare a.flag a.pins a.keys) a.plan.now (omega (arith, c.first_bytes-end.ensures))

pub returns-then-not-is_head : goal.returns-then-not-is_head
returns-then-not-is_head c = let a = c.args in
    let k = bare a.flag a.pins a.keys in
    first-by-head k a.plan.now (omega (arith, c.first_bytes-end.ensures))
    ∙ ap (λ (h : Bool). after_that k (first_data a.plan.now) (cond h (command_of (ins_of a.plan.now)) none))
    (sym c.is_head.ensures ∙ c.if-not-is_head.true)

pub returns : goal.returns
returns c = let a = c.args in
    let k = bare a.flag a.pins a.keys in
    let s : List ℕ = a.plan.now in
    first-by-head k s (omega (arith, c.first_bytes-end.ensures))
    ∙ ap (λ (h : Bool). after_that k (first_data s) (cond h (command_of (ins_of s)) none))
    (sym c.is_head.ensures ∙ c.if-not-is_head.false)
    ∙ ap (λ (n : ℕ). after_that k (take n (drop 5 s)) (command_of (ins_of s))) (data-bytes c.first_bytes-end.ensures)
    ∙ c.after_ins.ensures a.flag
