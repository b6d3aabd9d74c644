-- What was seen from the end decides: the mark with only zeros after it, or that no list has this padding.
-- Assumes nothing.
use Rattle.std.proofs.Common.{◌+◌, ◌<◌, ◌∙◌, sym}
use native.Mathlib.Omega.{arith}
use Rattle.aes_padding.proofs.Marks.{marked, refused, not-whole, too-short, tail-at, tail-length, tail-zeros, spoiled, blank}
use Rattle.aes_padding.proofs.find_data.Goals as goal

pub returns-then-end-ne0 : goal.returns-then-end-ne0
returns-then-end-ne0 c = refused c.args.buf.now (not-whole c.args.buf.now c.if-end-ne0.true)

pub returns-in_err-start : goal.returns-in_err-start
returns-in_err-start c = c.from_residual.ensures ∙ refused c.args.buf.now (too-short c.args.buf.now (omega arith) c.in_err-start.ensures)

pub returns-in_err-mark : goal.returns-in_err-mark
returns-in_err-mark c = let start = c.in_ok-start in
    c.from_residual-in_err-mark.ensures
    ∙ refused c.args.buf.now (blank c.args.buf.now start.start (omega (arith, start.ensures.0, start.ensures.1)) (tail-zeros c.args.buf.now start.start 0 (λ k l. c.in_err-mark.ensures k) start.start (omega arith)))

pub returns-then-buf-mark : goal.returns-then-buf-mark
returns-then-buf-mark c = let start = c.in_ok-start in
    let i = c.in_ok-mark in
    let within : i.field-0 < 16 = omega (arith, start.ensures.0, start.ensures.1, i.ensures.0, tail-length c.args.buf.now start.start) in
    marked c.args.buf.now (start.start + i.field-0) (omega (arith, start.ensures.0, start.ensures.1)) (omega arith) (omega (arith, start.ensures.0, start.ensures.1)) c.if-buf-mark.true
    (tail-zeros c.args.buf.now start.start (i.field-0 + 1) (λ k l. i.ensures.2 k (omega arith)) (start.start + i.field-0 + 1) (omega arith))

pub returns-else-buf-mark : goal.returns-else-buf-mark
returns-else-buf-mark c = let start = c.in_ok-start in
    let i = c.in_ok-mark in
    refused c.args.buf.now
    (spoiled c.args.buf.now (start.start + i.field-0) c.if-buf-mark.false (λ z. i.ensures.1 (sym (tail-at c.args.buf.now start.start i.field-0) ∙ z))
    (tail-zeros c.args.buf.now start.start (i.field-0 + 1) (λ k l. i.ensures.2 k (omega arith)) (start.start + i.field-0 + 1) (omega arith)))
