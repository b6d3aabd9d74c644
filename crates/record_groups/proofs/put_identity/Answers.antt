-- Three fields in a row, by `put_then`; the lengths are those of the arrays.
-- Assumes nothing.
use Rattle.std.proofs.Common.{rules}
use native.Mathlib.Omega.{arith}
use Rattle.record_fields.proofs.Chain.{put_then}
use mathlib.Core.Path.{◌≡◌}
use lib.ListN.{length}
use Rattle.record_groups.proofs.put_identity.Goals as goal

pub put_field-a-requires : goal.put_field-a-requires
put_field-a-requires c =
    let u : length c.args.identity.uid ≡ 16 = search rules in
    let k : length c.args.identity.public_key ≡ 65 = search rules in
    omega (arith, u, k)

pub put_field-b-requires : goal.put_field-b-requires
put_field-b-requires c =
    let u : length c.args.identity.uid ≡ 16 = search rules in
    let k : length c.args.identity.public_key ≡ 65 = search rules in
    omega (arith, u, k)

pub put_field-requires : goal.put_field-requires
put_field-requires c =
    let u : length c.args.identity.uid ≡ 16 = search rules in
    let k : length c.args.identity.public_key ≡ 65 = search rules in
    omega (arith, u, k)

pub returns : goal.returns
returns c =
    let u : length c.args.identity.uid ≡ 16 = search rules in
    let k : length c.args.identity.public_key ≡ 65 = search rules in
    (put_then (put_then c.put_field-a.ensures.0 c.put_field-b.ensures.0 (omega arith)) c.put_field.ensures.0 (omega arith), omega arith)
