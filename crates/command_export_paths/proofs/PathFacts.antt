-- The components of a path, compared one by one. Every length is in bytes.
-- Assumes nothing.
use mathlib.Core.Path.{◌≡◌, refl, sym, ap, ap₂, ◌∙◌}
use mathlib.Core.Bool.{Bool, true, false, ◌&&◌}
use mathlib.Core.List.{List, [], ◌∷◌, ◌++◌}
use Prim.Native.Nat.{ℕ, zero, suc, ◌+◌, ◌≤◌}
use native.Mathlib.Nat.{zero-add, suc-add}
use native.Mathlib.Omega.{arith}
use lib.Dec.{eqb}
use lib.ListN.{length, take, drop, get_or, length-drop}
use lib.Seq.{take_all, drop-cons, drop-drop}
use Rattle.octets.specs.Bytes.{same_bytes}
use Rattle.octets.proofs.Lists.{same-lengths}
use Rattle.rules.specs.Supplies.{part}
use Rattle.rules.specs.Commands.{eip1581_node, in_eip1581}

and-true : (b : Bool) → b && true ≡ b
and-true true = refl
and-true false = refl

and_assoc : (a b c : Bool) → (a && (b && c)) ≡ ((a && b) && c)
and_assoc true b c = refl
and_assoc false b c = refl

-- ---- one component: its four bytes
module _ (s : List ℕ) (at : ℕ) where
  abbrev byte_at : ℕ → ℕ
  byte_at n = get_or s (at + n) 0

  pub same-four : (a b c d : ℕ) → at + 4 ≤ length s
      → same_bytes (part at 4 s) (a ∷ b ∷ c ∷ d ∷ []) ≡ (eqb (get_or s at 0) a && (eqb (byte_at 1) b && (eqb (byte_at 2) c && eqb (byte_at 3) d)))
  same-four a b c d h =
      ap (λ (x : List ℕ). same_bytes (take 4 x) (a ∷ b ∷ c ∷ d ∷ [])) four
      ∙ ap (λ (t : Bool). eqb (get_or s at 0) a && (eqb (byte_at 1) b && (eqb (byte_at 2) c && t))) (and-true (eqb (byte_at 3) d))
    where
      next : (n m : ℕ) → at + n ≡ m → n ≤ 3 → drop m s ≡ byte_at n ∷ drop (suc m) s
      next n m e l = drop-cons s m 0 (omega (arith, e, l, h)) ∙ ap (λ (k : ℕ). get_or s k 0 ∷ drop (suc m) s) (sym e)

      four : drop at s ≡ get_or s at 0 ∷ byte_at 1 ∷ byte_at 2 ∷ byte_at 3 ∷ drop (suc (suc (suc (suc at)))) s
      four =
          drop-cons s at 0 (omega (arith, h))
          ∙ ap (λ (x : List ℕ). get_or s at 0 ∷ x)
          (next 1 (suc at) (omega arith) (omega arith)
          ∙ ap (λ (x : List ℕ). byte_at 1 ∷ x)
          (next 2 (suc (suc at)) (omega arith) (omega arith)
          ∙ ap (λ (x : List ℕ). byte_at 2 ∷ x) (next 3 (suc (suc (suc at))) (omega arith) (omega arith))))

-- ---- four bytes and the rest of a beginning
split : (n : ℕ) (s a b : List ℕ) → length a ≤ length s
    → same_bytes (take (length a + n) s) (a ++ b) ≡ (same_bytes (take (length a) s) a && same_bytes (take n (drop (length a) s)) b)
split n s [] b h = ap (λ (k : ℕ). same_bytes (take k s) b) (zero-add n)
split n [] (y ∷ a) b h = absurd (omega (arith, h))
split n (x ∷ s) (y ∷ a) b h =
    ap (λ (k : ℕ). same_bytes (take k (x ∷ s)) (y ∷ (a ++ b))) (suc-add (length a) n)
    ∙ ap (λ (t : Bool). eqb x y && t) (split n s a b (omega (arith, h)))
    ∙ and_assoc (eqb x y) (same_bytes (take (length a) s) a) (same_bytes (take n (drop (length a) s)) b)

-- ---- in_eip1581: three components, or a path that is too short for them
pub eip-short : (s : List ℕ) → length s ≤ 11 → in_eip1581 s ≡ false
eip-short s h = same-lengths (take 12 s) eip1581_node (λ e. omega (arith, e, ap length (take_all 12 s (omega arith))))

pub eip-long : (s : List ℕ) → 12 ≤ length s
    → in_eip1581 s
    ≡ (same_bytes (part 0 4 s) (0x80 ∷ 0 ∷ 0x00 ∷ 0x2B ∷ [])
    && (same_bytes (part 4 4 s) (0x80 ∷ 0 ∷ 0x00 ∷ 0x3C ∷ []) && same_bytes (part 8 4 s) (0x80 ∷ 0 ∷ 0x06 ∷ 0x2D ∷ [])))
eip-long s h =
    split 8 s (0x80 ∷ 0 ∷ 0x00 ∷ 0x2B ∷ []) (0x80 ∷ 0 ∷ 0x00 ∷ 0x3C ∷ 0x80 ∷ 0 ∷ 0x06 ∷ 0x2D ∷ []) (omega (arith, h))
    ∙ ap (λ (t : Bool). same_bytes (part 0 4 s) (0x80 ∷ 0 ∷ 0x00 ∷ 0x2B ∷ []) && t)
    (split 4 (drop 4 s) (0x80 ∷ 0 ∷ 0x00 ∷ 0x3C ∷ []) (0x80 ∷ 0 ∷ 0x06 ∷ 0x2D ∷ []) (omega (arith, h, length-drop 4 s))
    ∙ ap (λ (x : List ℕ). same_bytes (part 4 4 s) (0x80 ∷ 0 ∷ 0x00 ∷ 0x3C ∷ []) && same_bytes (take 4 x) (0x80 ∷ 0 ∷ 0x06 ∷ 0x2D ∷ []))
    (drop-drop 4 4 s))
