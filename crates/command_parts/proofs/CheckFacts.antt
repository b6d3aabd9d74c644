-- What a verdict says of the checks: where a supply is read, each of them holds, and the supply is the command's own; and a chain of checks, one by one.
-- Assumes nothing.
use Rattle.std.specs.Prelude.{Err, Ok}
use mathlib.Core.Path.{◌≡◌, refl, ap₂, ◌∙◌}
use mathlib.Core.Bool.{Bool, true, false, cond, not}
use mathlib.Core.List.{List, [], ◌∷◌}
use Prim.Native.Nat.{ℕ, ◌<◌}
use native.Mathlib.Omega.{arith}
use borrow.Author.Tests.{eqb-false, not-true}
use Rattle.card.specs.Slots.{is_zero}
use Rattle.rules.specs.declared.Supply.{Supply}
use Rattle.rules.specs.Results.{Verdict}
use Rattle.rules.specs.Words.{Check, verdict, Hold}

-- ---- verdict: where it reads a supply, each check holds and the supply is the one named
pub verdict-holds : (s : Supply) (checks : List Check) (x : Supply) → verdict s checks ≡ Ok x → Hold checks × (x ≡ s)
verdict-holds s [] x e = (tt, cc)
verdict-holds s (k ∷ more) x e = by-check k.holds refl e (verdict-holds s more x)
  where
    by-check : (b : Bool) → k.holds ≡ b → cond b (verdict s more) (Err k.otherwise) ≡ Ok x
        → (verdict s more ≡ Ok x → Hold more × (x ≡ s)) → ((k.holds ≡ true) × Hold more) × (x ≡ s)
    by-check true h f rest = let r = rest f in ((h, r.0), r.1)
    by-check false h f rest = let z : ◌≡◌ {A = ℕ} 0 1 = cc in absurd (omega arith)

-- ---- a check: its test b is d, and the verdict m after it is n
module _ (w : ℕ) (b d : Bool) (m : Verdict) {n v : Verdict} where
  pub check-then : v ≡ cond b m (Err w) → b ≡ d → m ≡ n → v ≡ cond d n (Err w)
  check-then e f g = e ∙ ap₂ (λ (x : Bool) (y : Verdict). cond x y (Err w)) f g

-- ---- a check that a number is not zero
pub not-zero : (n : ℕ) → not (is_zero n) ≡ true → 0 < n
not-zero n e = let h = eqb-false n 0 (not-true (is_zero n) e) in omega (arith, h)
