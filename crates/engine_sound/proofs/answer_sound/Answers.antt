-- A supply that has not its form, and a command that a step ends.
-- Assumes nothing.
use lib.ListN.{take}
use mathlib.Core.List.{List, []}
use Rattle.rules.specs.Words.{fails}
use Rattle.rules.specs.Channel.{tell}
use Rattle.engine_responses.proofs.Writing.{answer-as}
use Rattle.engine_sound.proofs.Answers.{answer-nothing, did_at, answer-refused, answer-ended}
use mathlib.Core.Path.{sym, ◌∙◌}
use Rattle.engine_sound.proofs.answer_sound.Goals as goal

pub returns-then-not-supply_suits : goal.returns-then-not-supply_suits
returns-then-not-supply_suits c = let g = c.args in
    let going = c.in-Ok.going in
    answer-as _ _ _ _ _
    (answer-refused g.card _ going (take going.count c.route.new.plain) g.supply.now c.in-Ok.ensures (sym c.supply_suits.ensures ∙ c.if-not-supply_suits.true))
    (answer-nothing g.card 3 _ _ c.refused.ensures)

pub returns-in-Err : goal.returns-in-Err
returns-in-Err c = let g = c.args in
    let ended = c.in-Err.ended in
    let t = c.tell-told in
    answer-as _ _ _ _ _
    (answer-ended g.card _ ended [] g.supply.now c.in-Err.ensures)
    (did_at ended.fault_offset (tell ended.over (fails ended.card ended.status)) t.result _ _ _ t.ensures c.with_fault.ensures)
