-- The array is filled from the front with the words of the schedule: the first 16 from the block, and each other from those before it.
-- Assumes nothing.
use Rattle.std.proofs.Common.{rules}
use mathlib.Core.Path.{◌≡◌, sym, ◌∙◌, subst}
use mathlib.Core.List.{List}
use Prim.Native.Nat.{ℕ, ◌+◌, ◌*◌, ◌≤◌, ◌<◌}
use native.Mathlib.Omega.{arith}
use Rattle.octets.proofs.Filling.{Filled, filled_none, filled-one, filled-all}
use Rattle.sha_rules.specs.Hash.{schedule}
use Rattle.sha_rules.proofs.Schedule.{length-schedule, schedule-first, schedule-next, schedule-word-agree, front-agree}
use Rattle.sha_schedule.proofs.schedule_of.Goals as goal

filled-to : {want r : List ℕ} {i : ℕ} (j : ℕ) → i ≡ j → Filled 64 want r i → Filled 64 want r j
filled-to {want} {r} j e f = subst (λ (k : ℕ). Filled 64 want r k) e f

pub loop-t-init : goal.loop-t-init
loop-t-init c = filled_none (search rules) (length-schedule c.args.m.now)

pub loop-t-preserved : goal.loop-t-preserved
loop-t-preserved c = let m : List ℕ = c.args.m.now in
    let l = c.loop-t in
    let below : l.t < 16 = omega arith in
    filled-one _ l.invariant (omega arith) (c.block_word.ensures ∙ sym (schedule-first m l.t below))

pub loop-step-init : goal.loop-step-init
loop-step-init c = filled-to _ (omega arith) c.loop-t.invariant

pub loop-i-init : goal.loop-i-init
loop-i-init c = filled-to _ (omega arith) c.loop-step.invariant

pub loop-i-preserved : goal.loop-i-preserved
loop-i-preserved c = let m : List ℕ = c.args.m.now in
    let l = c.loop-i in
    let at : ℕ = 8 * c.loop-step.step + l.i in
    let from : 16 ≤ at = omega arith in
    let below : at < 64 = omega arith in
    filled-to _ (omega arith) (filled-one _ l.invariant below (c.next_word-next.ensures ∙ schedule-word-agree l.w (schedule m) at from (front-agree l.w (schedule m) at l.invariant.front) ∙ sym (schedule-next m at from below)))

pub loop-step-preserved : goal.loop-step-preserved
loop-step-preserved c = filled-to _ (omega arith) c.loop-i.invariant

pub returns : goal.returns
returns c = filled-all c.loop-step.invariant (omega arith)
