-- The verdict of two checks, from what the code's calls give.
-- Assumes nothing.
use Rattle.std.specs.Prelude.{Err}
use mathlib.Core.Path.{◌≡◌, ap, ap₂, ◌∙◌}
use mathlib.Core.Bool.{Bool, cond}
use Prim.Native.Nat.{ℕ}
use Rattle.rules.specs.Results.{Verdict}

-- The verdict r is that of the first, m that of the second, whose test b is d, and k is read past both
pub two-checks : {r m k n : Verdict} (v w : ℕ) (a b d : Bool) → r ≡ cond a m (Err v) → m ≡ cond b k (Err w) → b ≡ d → k ≡ n
    → r ≡ cond a (cond d n (Err w)) (Err v)
two-checks v w a b d e f g h =
    e ∙ ap (λ (x : Verdict). cond a x (Err v)) (f ∙ ap₂ (λ (y : Bool) (x : Verdict). cond y x (Err w)) g h)
