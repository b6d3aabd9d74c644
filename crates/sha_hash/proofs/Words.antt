-- The digest grows by the four bytes of a word at a time.
-- Assumes nothing.
use mathlib.Core.Path.{◌≡◌, refl, sym, ap, ap₂, ◌∙◌}
use mathlib.Core.List.{List, [], ◌∷◌, ◌++◌, append_assoc}
use Prim.Native.Nat.{ℕ, ◌+◌, ◌*◌, ◌≤◌, ◌<◌}
use native.Mathlib.Numerals.{add-one}
use native.Mathlib.Omega.{arith}
use lib.ListN.{length, take, get_or}
use lib.Seq.{take-suc}
use Rattle.octets.specs.Bytes.{overwrite}
use Rattle.octets.proofs.Lists.{take-overwrite}
use Rattle.sha_rules.specs.Padding.{big_endian}
use Rattle.sha_rules.specs.Hash.{digest}

digest-append : (x y : List ℕ) → digest (x ++ y) ≡ digest x ++ digest y
digest-append [] y = refl
digest-append (w ∷ x) y =
    ap (λ (s : List ℕ). big_endian 4 w ++ s) (digest-append x y) ∙ sym (append_assoc (big_endian 4 w) (digest x) (digest y))

digest-more : (h : List ℕ) (i : ℕ) → i < length h → digest (take (i + 1) h) ≡ digest (take i h) ++ big_endian 4 (get_or h i 0)
digest-more h i l =
    ap (λ (n : ℕ). digest (take n h)) (add-one i)
    ∙ ap digest (take-suc h i 0 l)
    ∙ digest-append (take i h) (get_or h i 0 ∷ [])

pub grown : (h r b : List ℕ) (i : ℕ) → i < length h → 4 * i + 4 ≤ length r → take (4 * i) r ≡ digest (take i h)
    → b ≡ big_endian 4 (get_or h i 0) → take (4 * (i + 1)) (overwrite r (4 * i) b) ≡ digest (take (i + 1) h)
grown h r b i l fits e eb =
    ap (λ (n : ℕ). take n (overwrite r (4 * i) b)) next
    ∙ take-overwrite r (4 * i) b (omega (arith, long))
    ∙ ap₂ (λ (x y : List ℕ). x ++ y) e eb
    ∙ sym (digest-more h i l)
  where
    long : length b ≡ 4
    long = ap length eb

    next : 4 * (i + 1) ≡ 4 * i + length b
    next = omega (arith, long)
