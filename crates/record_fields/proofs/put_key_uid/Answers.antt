-- The key UID is one field, empty without a key.
-- Assumes nothing.
use Rattle.std.proofs.Common.{rules}
use borrow.Author.Tests.{eq-eqb, ne_eqb}
use native.Mathlib.Omega.{arith}
use Rattle.record_fields.proofs.put_key_uid.Goals as goal

pub returns-then-k-eq0 : goal.returns-then-k-eq0
returns-then-k-eq0 c = (rw (eq-eqb _ _ c.if-k-eq0.true) c.put_field.ensures.0, omega arith)

pub put_field-requires-2 : goal.put_field-requires-2
put_field-requires-2 c = search rules

pub returns : goal.returns
returns c = (rw (ne_eqb _ _ c.if-k-eq0.false) c.put_field-2.ensures.0, search rules)
