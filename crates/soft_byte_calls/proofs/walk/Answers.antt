-- The report of WALK, number by number.
-- Assumes nothing.
use mathlib.Core.Path.{ap, ◌∙◌}
use Rattle.template_walk.specs.Walk.{WalkOut}
use Rattle.soft_byte_calls.proofs.walk.Goals as goal

pub returns : goal.returns
returns c = let e = c.walk-w.ensures.1 in
    (c.refusal-refusal.ensures ∙ ap (λ (x : WalkOut). x.refusal) e, c.count-count.ensures ∙ ap (λ (x : WalkOut). x.count) e, c.fault_offset-fault_offset.ensures ∙ ap (λ (x : WalkOut). x.offset) e)
