-- By cases on what READ gives: refused, no tap record, a tap record.
-- Assumes nothing.
use Rattle.record_tap.proofs.PlaceFacts.{found_nowhere, found-factory, found_within, found-own}
use Rattle.record_tap.proofs.tap_place.Goals as goal

pub returns-then-told-ne-REFUSAL_NONE : goal.returns-then-told-ne-REFUSAL_NONE
returns-then-told-ne-REFUSAL_NONE c = found_nowhere _ _ c.read-told.ensures c.if-told-ne-REFUSAL_NONE.true

pub returns-then-count-eq0 : goal.returns-then-count-eq0
returns-then-count-eq0 c = found-factory _ _ c.read-told.ensures c.if-told-ne-REFUSAL_NONE.false _ c.wide-count.ensures c.if-count-eq0.true

pub overflow_sub-start : goal.overflow_sub-start
overflow_sub-start c = found_within _ _ c.read-told.ensures c.if-told-ne-REFUSAL_NONE.false _ c.wide-count.ensures c.if-count-eq0.false

pub returns : goal.returns
returns c = found-own _ _ c.read-told.ensures c.if-told-ne-REFUSAL_NONE.false _ c.wide-count.ensures c.if-count-eq0.false
