-- DERIVE goes where its checks hold, and the current path is new.
-- Assumes nothing.
use mathlib.Core.Path.{refl, sym, ap, ◌∙◌}
use mathlib.Core.Option.{Option, some}
use Rattle.card.specs.declared.Keys.{Keys}
use Rattle.card.specs.declared.Card.{Card}
use Rattle.rules.specs.Supplies.{derive_supply}
use Rattle.rules.specs.Commands.{derive_checks, with_current}
use Rattle.command_paths.proofs.CheckFacts.{derive-data}
use Rattle.plan_rules.specs.Known.{bare}
use Rattle.plan_rules.specs.Plan.{reads}
use Rattle.plan_rules.proofs.AfterFacts.{reads-hold, after-derive}
use Rattle.plan_steps.proofs.after_derive.Goals as goal

pub returns-then-not-holds : goal.returns-then-not-holds
returns-then-not-holds c = λ flag. let a = c.args in
    let e = ap reads (sym c.derive_verdict.ensures) ∙ sym c.holds.ensures ∙ c.if-not-holds.true in
    after-derive (bare flag a.pins a.keys) a.«data».now ∙ rw e refl

pub path_of-requires : goal.path_of-requires
path_of-requires c = let a = c.args in
    derive-data a.pins a.keys a.«data».now (reads-hold derive_supply (derive_checks a.pins a.keys a.«data».now) (ap reads (sym c.derive_verdict.ensures) ∙ sym c.holds.ensures ∙ c.if-not-holds.false))

pub returns : goal.returns
returns c = λ flag.
    let a = c.args in
    let e = ap reads (sym c.derive_verdict.ensures) ∙ sym c.holds.ensures ∙ c.if-not-holds.false in
    after-derive (bare flag a.pins a.keys) a.«data».now
    ∙ rw e (ap {B = Option Card} (λ (k : Keys). some (bare flag a.pins k)) (sym (c.with_current.ensures ∙ ap (with_current a.keys) c.path_of.ensures)))
