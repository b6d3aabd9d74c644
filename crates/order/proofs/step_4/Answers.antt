-- Plain, over the channel, or not in this stage.
-- Assumes nothing.
use mathlib.Core.Path.{◌≡◌, sym, subst}
use mathlib.Core.Bool.{false}
use mathlib.Core.List.{List}
use Prim.Native.Nat.{ℕ}
use native.Mathlib.Omega.{arith}
use lib.ListN.{length, take}
use Rattle.rules.specs.Words.{conditions_not_met}
use Rattle.order_ends.proofs.Ending.{stored, routes-as, ends-route}
use Rattle.order.proofs.Routing.{at-start, is-plain, not_plain, step4-plain, step4-stage, step4-opens}
use Rattle.order.proofs.step_4.Goals as goal

pub step_5-requires : goal.step_5-requires
step_5-requires c = let g = c.args in
    let p = c.requires in
    (p.0, rw (is-plain g.i c.stage_of-stage.result c.stage_of-stage.ensures c.if-stage-eq-STAGE_CLOSED.true), p.3)

pub returns-then-stage-eq-STAGE_CLOSED : goal.returns-then-stage-eq-STAGE_CLOSED
returns-then-stage-eq-STAGE_CLOSED c = let g = c.args in
    let p = c.requires in
    stored _ _ g.field.now _
    (routes-as _ _ _ g.field.now (step4-plain g.i c.stage_of-stage.result c.stage_of-stage.ensures g.cmd.now g.card g.field.now c.if-stage-eq-STAGE_CLOSED.true) c.step_5.ensures)
    (subst (λ (x : List ℕ). take (length g.field.now) x ≡ g.field.now) (sym c.put.ensures) (at-start g.plain.now g.field.now (omega (arith, p.1, p.2))))

pub returns-then-card-stage : goal.returns-then-card-stage
returns-then-card-stage c = let g = c.args in
    rw c.ends.ensures (ends-route false g.card conditions_not_met _ _ (step4-stage g.i c.stage_of-stage.result c.stage_of-stage.ensures g.cmd.now g.card g.field.now c.if-stage-eq-STAGE_CLOSED.false c.if-card-stage.true))

pub step_4_opens-requires : goal.step_4_opens-requires
step_4_opens-requires c = let g = c.args in
    let p = c.requires in
    (p.0, p.2, not_plain g.i c.stage_of-stage.result c.stage_of-stage.ensures c.if-stage-eq-STAGE_CLOSED.false, p.3)

pub returns : goal.returns
returns c = let g = c.args in
    routes-as _ _ _ _ (step4-opens g.i c.stage_of-stage.result c.stage_of-stage.ensures g.cmd.now g.card g.field.now c.if-stage-eq-STAGE_CLOSED.false c.if-card-stage.false) c.step_4_opens.ensures
