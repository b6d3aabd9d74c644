-- Counts added number by number: each number, the length, and that the order does not matter. Assumes nothing.
use mathlib.Core.Path.{◌≡◌, refl, sym, ap}
use mathlib.Core.List.{List, [], ◌∷◌}
use Prim.Native.Nat.{ℕ, zero, suc, ◌+◌}
use native.Mathlib.Nat.{zero-add}
use native.Mathlib.Omega.{arith}
use lib.ListN.{length, get_or}
use Rattle.octets.proofs.Lists.{◌&◌}
use Rattle.stock_rules.specs.Counts.{plus}

-- ---- plus
pub get_d-plus : (c d : List ℕ) (i : ℕ) → get_or (plus c d) i 0 ≡ get_or c i 0 + get_or d i 0
unfolding plus
get_d-plus [] d i = omega arith
get_d-plus (x ∷ c) [] i = omega arith
get_d-plus (x ∷ c) (y ∷ d) zero = refl
get_d-plus (x ∷ c) (y ∷ d) (suc i) = get_d-plus c d i

pub length-plus : (c d : List ℕ) → length c ≡ length d → length (plus c d) ≡ length c
unfolding plus
length-plus [] d l = sym l
length-plus (x ∷ c) [] l = refl
length-plus (x ∷ c) (y ∷ d) l = ap suc (length-plus c d (omega (arith, l)))

pub plus-swap : (c d : List ℕ) → plus c d ≡ plus d c
unfolding plus
plus-swap [] [] = refl
plus-swap [] (y ∷ d) = refl
plus-swap (x ∷ c) [] = refl
plus-swap (x ∷ c) (y ∷ d) = omega arith & plus-swap c d
