-- The record: the identity alone, or the groups of fields in a row, with field 34 or without it.
-- Assumes nothing.
use native.Mathlib.Omega.{arith}
use borrow.Author.Tests.{eq-eqb, ne_eqb}
use Rattle.record_rules.specs.Fields.{fields_in}
use Rattle.record_fields.proofs.Chain.{put_then}
use Rattle.record_write.proofs.put_record.Goals as goal

pub returns-then-card-eq0 : goal.returns-then-card-eq0
unfolding fields_in
returns-then-card-eq0 c = (rw (eq-eqb _ _ c.if-card-eq0.true) c.put_identity-a.ensures.0, omega arith)

pub put_tap-requires : goal.put_tap-requires
put_tap-requires c = let h = c.requires in
    (h.1.1.0, omega arith)

pub returns-then-form : goal.returns-then-form
unfolding fields_in
returns-then-form c = let h = c.requires in (
  rw (ne_eqb _ _ c.if-card-eq0.false, c.if-form.true)
      (put_then c.put_identity-a.ensures.0 (put_then c.put_secrets-b.ensures.0
      (put_then c.put_keys-c.ensures.0 c.put_tap.ensures.0 (omega arith)) (omega arith)) (omega arith)),
  omega arith,
)

pub returns : goal.returns
unfolding fields_in
returns c = let h = c.requires in (
  rw (ne_eqb _ _ c.if-card-eq0.false, c.if-form.false)
      (put_then c.put_identity-a.ensures.0 (put_then c.put_secrets-b.ensures.0
      c.put_keys-c.ensures.0 (omega arith)) (omega arith)),
  omega arith,
)
