-- One field, whose content are the bytes in use.
-- Assumes nothing.
use mathlib.Core.Path.{sym, subst}
use mathlib.Core.List.{[], ◌∷◌}
use Prim.Native.Nat.{ℕ}
use native.Mathlib.Omega.{arith}
use lib.ListN.{take}
use lib.Seq.{length-take-le}
use Rattle.record_rules.specs.Fields.{record_field}
use Rattle.record_fields.specs.Put.{Put}
use Rattle.record_fields.proofs.put_used.Goals as goal

pub slice_bounds-put_field-end : goal.slice_bounds-put_field-end
slice_bounds-put_field-end c = sym (length-take-le c.wide-len.result c.args.room.now (omega (arith, c.wide-len.ensures)))

pub put_field-requires : goal.put_field-requires
put_field-requires c = omega (arith, (sym (length-take-le c.wide-len.result c.args.room.now (omega (arith, c.wide-len.ensures)))), c.wide-len.ensures)

pub returns : goal.returns
returns c = let wide = c.wide-len in (
  subst (λ (n : ℕ). Put (record_field c.args.tag (take n c.args.room.now) ∷ [])
      c.args.at c.args.buf.now c.put_field.result c.put_field.new.buf)
      wide.ensures c.put_field.ensures.0,
  omega (arith, (sym (length-take-le c.wide-len.result c.args.room.now (omega (arith, c.wide-len.ensures)))), wide.ensures),
)
