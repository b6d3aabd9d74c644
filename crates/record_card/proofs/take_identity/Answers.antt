-- Three fields, each at the place after the one before it, by `at_next`.
-- Assumes nothing.
use Rattle.card.specs.Sizes.{uid_bytes, public_key_bytes}
use mathlib.Core.Path.{ap, ◌∙◌}
use mathlib.Core.List.{List}
use Prim.Native.Nat.{ℕ}
use lib.ListN.{get_or}
use Rattle.record_card.proofs.AtFacts.{at-start, at_next, fit_at}
use Rattle.record_card.proofs.take_identity.Goals as goal

pub returns : goal.returns
returns c = let z = at-start c.args.s.now in let a = at_next z c.take_field-a.ensures.1 in let b = at_next a c.take_field-b.ensures.1 in record { flag = ap (λ (l : List ℕ). get_or l 0 0) (c.take_field-a.ensures.0 ∙ fit_at 1 z); identity = rw (c.take_field-b.ensures.0 ∙ fit_at uid_bytes a, c.take_field-next.ensures.0 ∙ fit_at public_key_bytes b); next = at_next b c.take_field-next.ensures.1 }
