-- Four fields, each at the place after the one before it, by `at_next`.
-- Assumes nothing.
use Rattle.card.specs.Sizes.{key_bytes}
use mathlib.Core.Path.{◌∙◌}
use Rattle.record_card.proofs.AtFacts.{at_next, fit_at, path-at}
use Rattle.record_card.proofs.take_keys.Goals as goal

pub returns : goal.returns
returns c = let z = c.requires in
    let a = at_next z c.take_field-a.ensures.1 in
    let b = at_next a c.take_field-b.ensures.1 in
    let d = at_next b c.take_path-first.ensures.1 in
    record {
      keys = rw (c.take_field-a.ensures.0 ∙ fit_at 1 z, c.take_field-b.ensures.0 ∙ fit_at key_bytes a, c.take_path-first.ensures.0 ∙ path-at b, c.take_path-second.ensures.0 ∙ path-at d);
      next = at_next d c.take_path-second.ensures.1;
    }
