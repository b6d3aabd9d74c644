-- The message's end, the byte 80 and the length are written over zeros, each in its place.
-- Assumes nothing.
use Rattle.std.proofs.Common.{rules}
use mathlib.Core.Path.{◌≡◌, ap, ◌∙◌}
use mathlib.Core.List.{List}
use Prim.Native.Nat.{ℕ, ◌+◌, ◌-◌, ◌%◌}
use native.Mathlib.Omega.{arith}
use lib.ListN.{length, take, set, length-set}
use Rattle.sha_rules.specs.Padding.{padding_bytes}
use Rattle.sha_padding.proofs.Ends.{written}
use Rattle.sha_padding.proofs.padded.Goals as goal

pub put-requires-2 : goal.put-requires-2
put-requires-2 c = let field : length c.length_field.result ≡ 8 = search rules in
    let room : length c.put.new.buf ≡ 128 = search rules in
    simp length-set (omega (arith, c.end_bytes-end.ensures))

pub returns : goal.returns
returns c =
    let rest : List ℕ = c.args.rest.now in
    let end : ℕ = c.end_bytes-end.result in
    ap (take (c.args.l % 64 + padding_bytes c.args.l)) c.put-2.ensures
    ∙ written rest c.args.l c.requires _ c.length_field.result (end - 8) (omega (arith, c.end_bytes-end.ensures)) (ap (λ (e : List ℕ). set e (length rest) 0x80) c.put.ensures) c.length_field.ensures
