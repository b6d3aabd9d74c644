-- The end with its padding is whole blocks.
-- Assumes nothing.
use Rattle.std.proofs.Common.{rules}
use mathlib.Core.Path.{◌≡◌, sym, ap, ◌∙◌}
use mathlib.Core.List.{List}
use Prim.Native.Nat.{ℕ, ◌+◌, ◌/◌, ◌%◌}
use native.Mathlib.Omega.{arith}
use lib.ListN.{length, take}
use lib.Seq.{length-take-le}
use Rattle.sha_rules.specs.Padding.{padding_bytes}
use Rattle.sha_rules.specs.Hash.{blocks}
use Rattle.sha_hash.proofs.hash_end.Goals as goal

pub slice_bounds-hash_blocks-end : goal.slice_bounds-hash_blocks-end
slice_bounds-hash_blocks-end c = let p : List ℕ = c.padded-last.result in
    let long : length p ≡ 128 = search rules in
    sym (length-take-le c.end_bytes-end.result p (omega (arith, c.end_bytes-end.ensures)))

pub hash_blocks-requires : goal.hash_blocks-requires
hash_blocks-requires c = let p : List ℕ = c.padded-last.result in
    let long : length p ≡ 128 = search rules in
    record { k_value = search rules; s_len = omega (arith, c.end_bytes-end.ensures, length-take-le c.end_bytes-end.result p (omega (arith, c.end_bytes-end.ensures))) }

pub returns : goal.returns
returns c = let p : List ℕ = c.padded-last.result in
    let a = c.args in
    let end : ℕ = c.end_bytes-end.result in
    let long : length p ≡ 128 = search rules in
    let number : length (take end p) / 64 ≡ (a.l % 64 + padding_bytes a.l) / 64 = omega (arith, c.end_bytes-end.ensures, length-take-le end p (omega (arith, c.end_bytes-end.ensures))) in
    c.hash_blocks.ensures
    ∙ ap (λ (n : ℕ). blocks n a.h (take end p)) number
    ∙ ap (blocks ((a.l % 64 + padding_bytes a.l) / 64) a.h) (ap (λ (n : ℕ). take n p) c.end_bytes-end.ensures ∙ c.padded-last.ensures)
