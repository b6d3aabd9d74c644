-- Padding written in place: the mark, then zeros up to the end of the block; what follows is kept.
-- Assumes nothing.
use mathlib.Core.Path.{◌≡◌, ap}
use mathlib.Core.List.{List, [], ◌∷◌, ◌++◌}
use Prim.Native.Nat.{ℕ, ◌+◌, ◌-◌, ◌%◌, ◌≤◌}
use native.Mathlib.Omega.{arith}
use lib.ListN.{length, take, drop, set, replicate, length-drop, length-set}
use lib.Seq.{drop-set-lt, length-take-le}
use Rattle.std.proofs.Math.Seq.{take-suc-set}
use Rattle.std.proofs.lemmas.Grind.{common_steps}
use borrow.Rule.Slice.PartMut.{put_mid}
use Rattle.octets.specs.Bytes.{written}
use Rattle.aes_padding.specs.Padding.{padded_bytes, pad}
use Rattle.aes_padding.proofs.Laws.{length-pad, padded-larger}

module _ (s : List ℕ) (n : ℕ) (room : padded_bytes n ≤ length s) where
  short : length (take n s) ≡ n
  short = length-take-le n s (omega (arith, padded-larger n))

  -- the part that the zeros fill is as long as they are
  pub zeros-long : replicate {A = ℕ} (length (take (padded_bytes n - (n + 1)) (drop (n + 1) (set s n 128)))) 0 ≡ replicate (padded_bytes n - (n + 1)) 0
  zeros-long =
      ap (λ (k : ℕ). replicate k 0)
      (length-take-le (padded_bytes n - (n + 1)) (drop (n + 1) (set s n 128)) (omega (arith, length-drop (n + 1) (set s n 128), length-set s n 128, padded-larger n)))

  pub written-pad : (zeros : List ℕ) → zeros ≡ replicate (padded_bytes n - (n + 1)) 0
      → put_mid (n + 1) (padded_bytes n - (n + 1)) (set s n 128) zeros ≡ written (pad (take n s)) s
  unfolding pad padded_bytes
  written-pad zeros e =
      let front : take (n + 1) (set s n 128) ≡ take n s ++ (128 ∷ []) = grind (arith, common_steps, take-suc-set) in
      let behind : drop (padded_bytes n - (n + 1)) (drop (n + 1) (set s n 128)) ≡ drop (length (pad (take n s))) s = grind (arith, common_steps, drop-set-lt, length-pad, short) in
      let count : padded_bytes n - (n + 1) ≡ 15 - length (take n s) % 16 = omega (arith, short) in
      rw (front, behind, e, count) (grind (arith, common_steps))
