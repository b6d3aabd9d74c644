-- The report of the place.
-- Assumes nothing.
use mathlib.Core.Path.{sym, ap, ◌∙◌}
use Rattle.record_tap.specs.declared.TapPlace.{TapPlace}
use Rattle.library_calls.specs.Tapped.{tapped_of}
use Rattle.library_calls.proofs.tap_part.Goals as goal

pub returns-in-Nowhere : goal.returns-in-Nowhere
unfolding tapped_of
returns-in-Nowhere c = ap (λ (p : TapPlace). tapped_of p c.args.factory_bytes) (sym c.in-Nowhere.is ∙ c.tap_place.ensures)

pub returns-in-Own : goal.returns-in-Own
unfolding tapped_of
returns-in-Own c = ap (λ (p : TapPlace). tapped_of p c.args.factory_bytes) (sym c.in-Own.is ∙ c.tap_place.ensures)

pub returns-in-Factory : goal.returns-in-Factory
unfolding tapped_of
returns-in-Factory c = ap (λ (p : TapPlace). tapped_of p c.args.factory_bytes) (sym c.in-Factory.is ∙ c.tap_place.ensures)
