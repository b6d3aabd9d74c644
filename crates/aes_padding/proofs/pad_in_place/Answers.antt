-- The mark, and the zeros after it, are where padding puts them; what follows is kept.
-- Assumes nothing.
use Rattle.std.proofs.Common.{rules, refl, ◌∙◌}
use native.Mathlib.Omega.{arith}
use Rattle.aes_padding.specs.Padding.{padded_bytes}
use Rattle.aes_padding.proofs.Writing.{written-pad, zeros-long}
use Rattle.aes_padding.proofs.pad_in_place.Goals as goal

pub overflow_add-end : goal.overflow_add-end
unfolding padded_bytes
overflow_add-end c = search rules

pub bounds-buf-data_bytes : goal.bounds-buf-data_bytes
unfolding padded_bytes
bounds-buf-data_bytes c = omega arith

pub overflow_add-data_bytes : goal.overflow_add-data_bytes
unfolding padded_bytes
overflow_add-data_bytes c = search rules

pub slice_bounds-fill-end : goal.slice_bounds-fill-end
unfolding padded_bytes
slice_bounds-fill-end c = search rules

pub returns-clause-value : goal.returns-clause-value
unfolding padded_bytes
returns-clause-value c = refl

pub returns-clause-buf_after : goal.returns-clause-buf_after
unfolding padded_bytes
returns-clause-buf_after c = written-pad c.args.buf.now c.args.data_bytes c.requires c.fill.new.self (c.fill.ensures.after (λ y e. e) ∙ zeros-long c.args.buf.now c.args.data_bytes c.requires)
