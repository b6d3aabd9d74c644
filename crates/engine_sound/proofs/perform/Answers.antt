-- The command's reply, as it goes out.
-- Assumes nothing.
use lib.ListN.{length-take}
use Rattle.rules.specs.Channel.{tell}
use Rattle.rules.specs.Engine.{answered}
use Rattle.rules.specs.Words.{Reply}
use Prim.Native.Nat.{◌-◌}
use mathlib.Core.Path.{sym, ap}
use native.Mathlib.Omega.{arith}
use Rattle.engine_responses.proofs.Writing.{answer-as}
use Rattle.engine_sound.proofs.Answers.{replied, replied-short}
use Rattle.engine_sound.proofs.perform.Goals as goal

pub slice_bounds-tell-end : goal.slice_bounds-tell-end
slice_bounds-tell-end c = let d = c.act-done in
    let k = replied-short _ d.result _ _ d.ensures d.auto.out in
    omega (arith, k, d.auto.out)

pub tell-requires : goal.tell-requires
tell-requires c = let d = c.act-done in
    let k = replied-short _ d.result _ _ d.ensures d.auto.out in
    (omega (arith, k, length-take (d.result.count - 0) d.new.out), c.requires.paths_fit.1)

pub returns : goal.returns
returns c = let g = c.args in let d = c.act-done in answer-as _ _ _ _ _ (ap (λ (x : Reply). answered (tell g.over x)) (sym (replied _ d.result _ _ d.ensures (d.result.count - 0) (omega arith)))) c.tell.ensures
