-- The content is filled in from its span, and the place after it is given.
-- Assumes nothing.
use mathlib.Core.Path.{ap, ◌∙◌}
use mathlib.Core.List.{List}
use Prim.Native.Nat.{ℕ}
use lib.ListN.{length}
use Rattle.record_rules.specs.Parse.{fit}
use Rattle.record_spans.proofs.take_field.Goals as goal

pub returns : goal.returns
returns c = let p = c.content_span-field.ensures in (c.fill.ensures ∙ ap (λ (x : List ℕ). fit (length c.args.dst.now) x) p.inside, record { within = p.within; rest = p.behind })
