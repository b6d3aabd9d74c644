-- VERIFY goes where a try is left and the data are six digits.
-- Assumes nothing.
use Rattle.std.proofs.Common.{rules}
use mathlib.Core.Path.{◌∙◌, refl, sym, ap, ap₂}
use mathlib.Core.Bool.{Bool, ◌&&◌, cond}
use mathlib.Core.Option.{Option, none, some}
use Rattle.card.specs.declared.Pins.{Pins}
use Rattle.card.specs.declared.Card.{Card}
use Rattle.plan_rules.specs.Known.{bare}
use Rattle.plan_rules.proofs.AfterFacts.{after-verify}
use Rattle.plan_rules.specs.Plan.{reads}
use Rattle.plan_steps.proofs.after_verify.Goals as goal

pub returns-then-tried-right : goal.returns-then-tried-right
returns-then-tried-right c = λ flag.
    let a = c.args in
    after-verify (bare flag a.pins a.keys) a.«data».now (search rules)
    ∙ ap₂ {C = Option Card} (λ (b : Bool) (p : Pins). cond b (some (bare flag p a.keys)) none)
    (ap₂ ◌&&◌ (ap reads (sym c.verify_verdict.ensures) ∙ sym c.holds-tried.ensures) (sym c.is_pin-right.ensures) ∙ c.if-tried-right.true)
    (sym c.pin_right.ensures)

pub returns-else-tried-right : goal.returns-else-tried-right
returns-else-tried-right c = λ flag.
    let a = c.args in
    after-verify (bare flag a.pins a.keys) a.«data».now (search rules)
    ∙ ap₂ {C = Option Card} (λ (b : Bool) (p : Pins). cond b (some (bare flag p a.keys)) none)
    (ap₂ ◌&&◌ (ap reads (sym c.verify_verdict.ensures) ∙ sym c.holds-tried.ensures) (sym c.is_pin-right.ensures) ∙ c.if-tried-right.false)
    refl
