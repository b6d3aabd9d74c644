-- What follows the first bytes of a buffer: the part that sealing and opening lend to the cipher and to the MAC. Lengths are in bytes.
-- Assumes nothing.
use mathlib.Core.Path.{◌≡◌, ap, ◌∙◌}
use mathlib.Core.List.{List, ◌++◌, append-nil}
use Prim.Native.Nat.{ℕ, ◌-◌}
use native.Mathlib.Omega.{arith}
use lib.ListN.{length, take, drop, length-drop, drop_of_length-le}
use lib.Seq.{take_all}

-- a part from byte a to the end is all that follows a
pub tail-is : (a : ℕ) (xs : List ℕ) → take (length xs - a) (drop a xs) ≡ drop a xs
tail-is a xs = take_all (length xs - a) (drop a xs) (omega (arith, length-drop a xs))

pub tail-put : (a : ℕ) (xs y : List ℕ) → take a xs ++ (y ++ drop (length xs - a) (drop a xs)) ≡ take a xs ++ y
tail-put a xs y =
    ap (λ (r : List ℕ). take a xs ++ (y ++ r)) (drop_of_length-le (drop a xs) {i = length xs - a} (omega (arith, length-drop a xs)))
    ∙ ap (λ (r : List ℕ). take a xs ++ r) (append-nil y)
