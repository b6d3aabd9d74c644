-- A field's content: the three cases of `Spans`, by how much of the slice is left.
-- Assumes nothing.
use mathlib.Core.Path.{sym, ap₂, ◌∙◌}
use Prim.Native.Nat.{ℕ, ◌+◌, ◌*◌}
use native.Mathlib.Omega.{arith}
use Rattle.record_spans.proofs.PlaceFacts.{head_at, spans-none, spans-cut, spans-whole}
use Rattle.record_spans.proofs.content_span.Goals as goal

pub returns-then-s-at-lt-HEAD_BYTES : goal.returns-then-s-at-lt-HEAD_BYTES
returns-then-s-at-lt-HEAD_BYTES c = spans-none c.args.s.now c.args.at (omega arith) (omega arith)

pub overflow_mul-len : goal.overflow_mul-len
overflow_mul-len c = omega (arith, c.shared_slice_known-2-1.given (c.args.at + 1))

pub overflow_add-len : goal.overflow_add-len
overflow_add-len c = omega (arith, c.shared_slice_known-2-1.given (c.args.at + 1), c.shared_slice_known-3-1.given (c.args.at + 2))

pub returns-then-s-start : goal.returns-then-s-start
returns-then-s-start c = spans-cut c.args.s.now c.args.at (c.wide.result * 256 + c.wide-2.result) (ap₂ (λ (h l : ℕ). h * 256 + l) c.wide.ensures c.wide-2.ensures ∙ sym (head_at c.args.s.now c.args.at)) (omega arith) c.if-s-start.true

pub returns : goal.returns
returns c = spans-whole c.args.s.now c.args.at (c.wide.result * 256 + c.wide-2.result) (ap₂ (λ (h l : ℕ). h * 256 + l) c.wide.ensures c.wide-2.ensures ∙ sym (head_at c.args.s.now c.args.at)) (omega arith)
