-- A part of a list, as the code copies it; how many bytes it has; and how many bytes a supply has that suits. Lengths are in bytes.
-- Assumes nothing.
use mathlib.Core.Path.{◌≡◌, ap, ◌∙◌}
use mathlib.Core.Bool.{true, false, ◌||◌}
use mathlib.Core.List.{List, [], ◌∷◌}
use Prim.Native.Nat.{ℕ, zero, suc, ◌+◌, ◌≤◌}
use native.Mathlib.Omega.{arith}
use lib.Dec.{eqb}
use lib.ListN.{length, take, drop, length-drop}
use lib.Seq.{length-take-le, take_all}
use borrow.Author.Tests.{eqb-true}
use Rattle.octets.specs.Bytes.{overwrite}
use Rattle.octets.proofs.Lists.{overwrite-whole}
use Rattle.card.proofs.Tests.{both}
use Rattle.rules.specs.declared.Supply.{Supply}
use Rattle.rules.specs.Supplies.{suits, part}

-- ---- suits: a supply that is read has its length
pub suits-long : (k : Supply) (s : List ℕ) → eqb k.kind 0 ≡ false → suits k s ≡ true → length s ≡ k.bytes
unfolding suits
suits-long k s z e = eqb-true _ _ (both _ _ (rw z at e)).0

-- a part ends within a list of that length
pub within : {k m n : ℕ} → m ≡ n → k ≤ n → k ≤ m
within e h = omega arith

-- ---- part: what was copied out of a list is a part of it
module _ (at n m : ℕ) (s : List ℕ) {y : List ℕ} where
  pub part-is : y ≡ take m (drop at s) → m ≡ n → y ≡ part at n s
  part-is e em = e ∙ ap (λ (k : ℕ). take k (drop at s)) em

  -- it was put over the whole of an array of n bytes
  pub part-copied : (z : List ℕ) → y ≡ overwrite z 0 (take m (drop at s)) → length z ≡ n → m ≡ n → at + n ≤ length s → y ≡ part at n s
  part-copied z e lz em h =
      e
      ∙ overwrite-whole z (take m (drop at s)) (omega (arith, length-take-le m (drop at s) (omega (arith, length-drop at s))))
      ∙ ap (λ (k : ℕ). take k (drop at s)) em

-- a part that ends within the list has all its bytes
pub part_length : (at n : ℕ) (s : List ℕ) → at + n ≤ length s → length (part at n s) ≡ n
part_length at n s h = length-take-le n (drop at s) (omega (arith, length-drop at s))

-- no part is longer than its number of bytes says
take-le : (n : ℕ) (s : List ℕ) → length (take n s) ≤ n
take-le zero s = omega arith
take-le (suc n) [] = omega arith
take-le (suc n) (x ∷ s) = omega (arith, take-le n s)

pub part-le : (at n : ℕ) (s : List ℕ) → length (part at n s) ≤ n
part-le at n s = take-le n (drop at s)

-- the part up to the list's end
pub part-rest : (at n : ℕ) (s : List ℕ) → length s ≡ at + n → part at n s ≡ drop at s
part-rest at n s h = take_all n (drop at s) (omega (arith, length-drop at s))
