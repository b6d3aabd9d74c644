-- One field: the content of the first slots.
-- Assumes nothing.
use Rattle.std.proofs.Common.{rules}
use mathlib.Core.Path.{◌≡◌, sym, subst}
use mathlib.Core.List.{List, [], ◌∷◌}
use Prim.Native.Nat.{ℕ, ◌*◌}
use native.Mathlib.Omega.{arith}
use lib.ListN.{length}
use lib.Seq.{length-take-le}
use Rattle.card.specs.Sizes.{slot_bytes, slot_count}
use Rattle.record_rules.specs.Fields.{record_field, slots_tag}
use Rattle.record_fields.specs.Put.{Put}
use Rattle.record_fields.proofs.put_slots.Goals as goal

pub slice_bounds-put_field-end : goal.slice_bounds-put_field-end
slice_bounds-put_field-end c = let l : length c.first_slots-content.result ≡ slot_bytes * slot_count = search rules in
    let h = c.requires.0 in
    sym (length-take-le (slot_bytes * c.args.count) c.first_slots-content.result (omega (arith, l, h)))

pub put_field-requires : goal.put_field-requires
put_field-requires c = let h = c.requires in
    omega (
      arith,
      (let l : length c.first_slots-content.result ≡ slot_bytes * slot_count = search rules in
          let h = c.requires.0 in
          sym (length-take-le (slot_bytes * c.args.count) c.first_slots-content.result (omega (arith, l, h)))),
      h,
    )

pub returns : goal.returns
returns c = (
  subst (λ (x : List ℕ). Put (record_field slots_tag x ∷ []) c.args.at c.args.buf.now c.put_field.result c.put_field.new.buf)
      c.first_slots-content.ensures c.put_field.ensures.0,
  let h = c.requires.0 in omega (
    arith,
    (let l : length c.first_slots-content.result ≡ slot_bytes * slot_count = search rules in
        let h = c.requires.0 in
        sym (length-take-le (slot_bytes * c.args.count) c.first_slots-content.result (omega (arith, l, h)))),
    h,
  ),
)
