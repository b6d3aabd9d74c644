-- Five fields, each at the place after the one before it, by `at_next`.
-- Assumes nothing.
use Rattle.card.specs.Sizes.{pin_bytes, puk_bytes, key_bytes, slot_bytes, slot_count}
use mathlib.Core.Path.{ap, ◌∙◌}
use mathlib.Core.List.{List}
use Prim.Native.Nat.{ℕ}
use Prim.Native.Nat.{◌*◌}
use Rattle.record_rules.specs.Parse.{slots_from}
use Rattle.record_card.proofs.AtFacts.{at_next, fit_at}
use Rattle.record_card.proofs.take_secrets.Goals as goal

pub returns : goal.returns
returns c = let z = c.requires in let a = at_next z c.take_field-a.ensures.1 in let b = at_next a c.take_field-b.ensures.1 in let d = at_next b c.take_field-c.ensures.1 in let e = at_next d c.take_field-d.ensures.1 in record { pins = rw (c.take_field-a.ensures.0 ∙ fit_at pin_bytes z, c.take_field-b.ensures.0 ∙ fit_at puk_bytes a, c.take_field-d.ensures.0 ∙ fit_at 2 d); pairing = rw (c.take_field-c.ensures.0 ∙ fit_at key_bytes b, c.slots_from-slots.ensures ∙ ap (λ (l : List ℕ). slots_from slot_count l) (c.take_field-next.ensures.0 ∙ fit_at (slot_bytes * slot_count) e)); next = at_next e c.take_field-next.ensures.1 }
