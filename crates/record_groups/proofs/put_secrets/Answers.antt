-- Five fields in a row, by `put_then`; the lengths are those of the arrays.
-- Assumes nothing.
use Rattle.std.proofs.Common.{rules}
use native.Mathlib.Omega.{arith}
use Rattle.record_fields.proofs.Chain.{put_then}
use mathlib.Core.Path.{◌≡◌}
use lib.ListN.{length}
use Rattle.record_groups.proofs.put_secrets.Goals as goal

pub put_field-a-requires : goal.put_field-a-requires
put_field-a-requires c =
    let a : length c.args.pins.pin ≡ 6 = search rules in
    let b : length c.args.pins.puk ≡ 12 = search rules in
    let s : length c.args.pairing.secret ≡ 32 = search rules in
    omega (arith, a, b, s, c.requires)

pub put_field-b-requires : goal.put_field-b-requires
put_field-b-requires c =
    let a : length c.args.pins.pin ≡ 6 = search rules in
    let b : length c.args.pins.puk ≡ 12 = search rules in
    let s : length c.args.pairing.secret ≡ 32 = search rules in
    omega (arith, a, b, s, c.requires)

pub put_field-c-requires : goal.put_field-c-requires
put_field-c-requires c =
    let a : length c.args.pins.pin ≡ 6 = search rules in
    let b : length c.args.pins.puk ≡ 12 = search rules in
    let s : length c.args.pairing.secret ≡ 32 = search rules in
    omega (arith, a, b, s, c.requires)

pub put_field-d-requires : goal.put_field-d-requires
put_field-d-requires c =
    let a : length c.args.pins.pin ≡ 6 = search rules in
    let b : length c.args.pins.puk ≡ 12 = search rules in
    let s : length c.args.pairing.secret ≡ 32 = search rules in
    omega (arith, a, b, s, c.requires)

pub put_slots-requires : goal.put_slots-requires
put_slots-requires c =
    let h = c.requires in
    let a : length c.args.pins.pin ≡ 6 = search rules in
    let b : length c.args.pins.puk ≡ 12 = search rules in
    let s : length c.args.pairing.secret ≡ 32 = search rules in
    (omega (arith, h), omega (arith, a, b, s, h))

pub returns : goal.returns
returns c =
    let h = c.requires in
    let a : length c.args.pins.pin ≡ 6 = search rules in
    let b : length c.args.pins.puk ≡ 12 = search rules in
    let s : length c.args.pairing.secret ≡ 32 = search rules in (
      put_then (put_then (put_then (put_then c.put_field-a.ensures.0 c.put_field-b.ensures.0 (omega arith)) c.put_field-c.ensures.0 (omega arith)) c.put_field-d.ensures.0 (omega arith))
          c.put_slots.ensures.0 (omega arith),
      omega arith,
    )
