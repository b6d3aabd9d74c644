-- The part that the place names.
-- Assumes nothing.
use Rattle.std.proofs.Common.{rules}
use mathlib.Core.Path.{refl, sym, ◌∙◌}
use native.Mathlib.Omega.{arith}
use Rattle.record_tap.proofs.PlaceFacts.{part-within, part-nowhere, part-own, part-factory, lent}
use Rattle.record_tap.proofs.tap_record.Goals as goal

pub overflow_add-end : goal.overflow_add-end
overflow_add-end c = let h = part-within _ (sym c.in-Own.is ∙ c.tap_place.ensures) in search rules

pub slice_bounds-result-end-in-Own : goal.slice_bounds-result-end-in-Own
slice_bounds-result-end-in-Own c = let h = part-within _ (sym c.in-Own.is ∙ c.tap_place.ensures) in omega arith

pub returns-in-Nowhere : goal.returns-in-Nowhere
returns-in-Nowhere c = let e = (sym c.in-Nowhere.is ∙ c.tap_place.ensures) in (part-nowhere _ _ e, lent _ _ _ _ _ e tt)

pub returns-in-Own : goal.returns-in-Own
returns-in-Own c = let e = (sym c.in-Own.is ∙ c.tap_place.ensures) in (part-own _ _ e, lent _ _ _ _ _ e (refl, refl))

pub returns-in-Factory : goal.returns-in-Factory
returns-in-Factory c = let e = (sym c.in-Factory.is ∙ c.tap_place.ensures) in (part-factory _ _ e, lent _ _ _ _ _ e refl)
