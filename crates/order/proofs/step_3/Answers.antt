-- A known instruction goes on; the others end.
-- Assumes nothing.
use Rattle.std.specs.Prelude.{Err}
use mathlib.Core.Path.{sym, ◌∙◌}
use mathlib.Core.Bool.{false}
use Rattle.rules.specs.declared.Unnamed.TheVariants as unnamed
use Rattle.rules.specs.Words.{unknown_class, unknown_instruction}
use Rattle.order_ends.proofs.Ending.{routes-as, ends-route}
use Rattle.order.proofs.Routing.{plain-ends, step3-as, refusal-as}
use Rattle.order.proofs.step_3.Goals as goal

pub returns-in-Ok : goal.returns-in-Ok
returns-in-Ok c = let g = c.args in
    routes-as _ _ _ _ (step3-as g.cmd.now g.card g.field.now _ (sym c.in-Ok.is ∙ c.name.ensures)) c.step_4.ensures

pub returns-in-Err-WrongClass : goal.returns-in-Err-WrongClass
returns-in-Err-WrongClass c = let g = c.args in
    rw c.ends.ensures (ends-route false g.card unknown_class _ _ (step3-as g.cmd.now g.card g.field.now (Err unnamed.WrongClass) (refusal-as _ c.in-Err-WrongClass.is c.in-Err-WrongClass.field-0-is ∙ c.name.ensures) ∙ plain-ends g.card unknown_class))

pub returns-in-Err-Unknown : goal.returns-in-Err-Unknown
returns-in-Err-Unknown c = let g = c.args in
    rw c.ends-in-Err-Unknown.ensures (ends-route false g.card unknown_instruction _ _ (step3-as g.cmd.now g.card g.field.now (Err unnamed.Unknown) (refusal-as _ c.in-Err-Unknown.is c.in-Err-Unknown.field-0-is ∙ c.name.ensures) ∙ plain-ends g.card unknown_instruction))
