-- Facts for step 1: the first two bytes of a command. Lengths are in bytes.
-- Assumes nothing.
use mathlib.Core.Path.{◌≡◌, refl, sym, ap}
use mathlib.Core.Bool.{Bool, true, false, ◌&&◌}
use mathlib.Core.List.{List, [], ◌∷◌}
use Prim.Native.Nat.{ℕ, ◌<◌, ◌≤◌}
use native.Mathlib.Omega.{arith}
use lib.Dec.{eqb}
use lib.ListN.{length, get_or}
use Rattle.rules.specs.Steps.{begins}

-- ---- the first two bytes
and-true : (b : Bool) → b && true ≡ b
and-true true = refl
and-true false = refl

and-false : (b : Bool) → b && false ≡ false
and-false true = refl
and-false false = refl

pub begins-short : (b : ℕ) (cmd : List ℕ) → length cmd < 2 → false ≡ begins b cmd
begins-short b [] h = refl
begins-short b (x ∷ []) h = sym (and-false (eqb x 0x80))
begins-short b (x ∷ (y ∷ more)) h = absurd (omega (arith, h))

pub begins-long : (b : ℕ) (cmd : List ℕ) → 2 ≤ length cmd → eqb (get_or cmd 0 0) 0x80 && eqb (get_or cmd 1 0) b ≡ begins b cmd
begins-long b [] h = absurd (omega (arith, h))
begins-long b (x ∷ []) h = absurd (omega (arith, h))
begins-long b (x ∷ (y ∷ more)) h = ap (λ (t : Bool). eqb x 0x80 && t) (sym (and-true (eqb y b)))
