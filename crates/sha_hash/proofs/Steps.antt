-- A message's blocks, one after the other: what is left to do after a block is the rest. Its whole blocks, and then its end with the padding, give
-- its digest.
-- Assumes nothing.
use mathlib.Core.Path.{◌≡◌, sym, ap, ap₂, ◌∙◌}
use mathlib.Core.List.{List, ◌++◌}
use Prim.Native.Nat.{ℕ, ◌+◌, ◌-◌, ◌*◌, ◌/◌, ◌%◌, ◌≤◌}
use native.Mathlib.Omega.{arith}
use lib.ListN.{length, take, drop, length-drop}
use lib.Seq.{drop-drop, take_all, length-take-le}
use Rattle.sha_rules.specs.Constants.{H⁰}
use Rattle.sha_rules.specs.Padding.{padding_bytes, padding}
use Rattle.sha_rules.specs.Hash.{compress, blocks, digest, sha256}
use Rattle.sha_rules.proofs.Blocks.{blocks_more, sha256-parts}

pub step : (v u s : List ℕ) (i n L : ℕ) → n ≡ 64 → i + 64 ≤ L → u ≡ compress v (take n (drop i s))
    → blocks ((L - (i + 64)) / 64) u (drop (i + 64) s) ≡ blocks ((L - i) / 64) v (drop i s)
step v u s i n L hn h e =
    ap₂ (blocks k) (e ∙ ap (λ (j : ℕ). compress v (take j (drop i s))) hn) (sym (drop-drop 64 i s))
    ∙ sym (blocks_more v (drop i s) ((L - i) / 64) k (omega arith))
  where
    k : ℕ
    k = (L - (i + 64)) / 64

-- the hash value h₀ at the start, h after the whole blocks, v after the end, and the digest r
pub hashed : (m h₀ h v r : List ℕ) → h₀ ≡ H⁰
    → h ≡ blocks (length (take (length m / 64 * 64) m) / 64) h₀ (take (length m / 64 * 64) m)
    → v ≡ blocks ((length m % 64 + padding_bytes (length m)) / 64) h (take (length m - length m / 64 * 64) (drop (length m / 64 * 64) m) ++ padding (length m))
    → r ≡ digest v → r ≡ sha256 m
hashed m h₀ h v r e₀ e ev er =
    er
    ∙ ap digest
    (ev
    ∙ ap₂ (λ (x y : List ℕ). blocks ((length m % 64 + padding_bytes (length m)) / 64) x (y ++ padding (length m)))
    (e ∙ ap₂ (λ (n : ℕ) (x : List ℕ). blocks n x (take whole m)) number e₀)
    (take_all (length m - whole) (drop whole m) (omega (arith, length-drop whole m))))
    ∙ sym (sha256-parts m)
  where
    whole : ℕ
    whole = length m / 64 * 64

    number : length (take whole m) / 64 ≡ length m / 64
    number = omega (arith, length-take-le whole m (omega arith))
