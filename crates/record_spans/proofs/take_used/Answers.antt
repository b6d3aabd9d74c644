-- Room filled from a field, by cases on whether the content is longer than the room.
-- Assumes nothing.
use mathlib.Core.Path.{sym, ap, ◌∙◌}
use mathlib.Core.List.{List}
use Prim.Native.Nat.{ℕ, min}
use lib.ListN.{length}
use native.Mathlib.Omega.{arith}
use native.Mathlib.Nat.{min-eq_left, min-eq_right}
use Rattle.record_rules.specs.Parse.{fit}
use Rattle.record_spans.proofs.PlaceFacts.{span-length}
use Rattle.record_spans.proofs.take_used.Goals as goal

pub returns-then-dst-count : goal.returns-then-dst-count
returns-then-dst-count c = let p = c.content_span-field.ensures in (
  record {
    bytes = c.fill.ensures ∙ ap (λ (x : List ℕ). fit (length c.args.dst.now) x) p.inside;
    used = c.fill.auto.dst ∙ sym (min-eq_right (omega (arith, span-length p, c.fill.auto.dst, c.if-dst-count.true)));
  },
  record { within = p.within; rest = p.behind },
)

pub returns : goal.returns
returns c = let p = c.content_span-field.ensures in (
  record {
    bytes = c.fill.ensures ∙ ap (λ (x : List ℕ). fit (length c.args.dst.now) x) p.inside;
    used = sym (ap (λ (n : ℕ). min n (length c.args.dst.now)) (span-length p) ∙ min-eq_left (omega (arith, c.fill.auto.dst, c.if-dst-count.false)));
  },
  record { within = p.within; rest = p.behind },
)
