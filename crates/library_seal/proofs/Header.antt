-- SEAL of a header whose four bytes are read one by one is SEAL of the header.
-- Assumes nothing.
use mathlib.Core.Path.{◌≡◌, refl, subst}
use mathlib.Core.List.{List, [], ◌∷◌}
use Prim.Native.Nat.{ℕ}
use native.Mathlib.Omega.{arith}
use lib.ListN.{length, get_or}
use Rattle.channel_rules.specs.declared.Session.{Session}
use Rattle.channel_rules.specs.Terminal.{seal_out}
use Rattle.channel_terminal.specs.declared.Outcome.{Outcome}
use Rattle.channel_terminal.specs.Did.{Did}

abbrev pub four_of : List ℕ → List ℕ
four_of s = get_or s 0 0 ∷ get_or s 1 0 ∷ get_or s 2 0 ∷ get_or s 3 0 ∷ []

-- a list of four is its four elements
pub four : (s : List ℕ) → length s ≡ 4 → four_of s ≡ s
four [] e = absurd (omega (arith, e))
four (a ∷ []) e = absurd (omega (arith, e))
four (a ∷ b ∷ []) e = absurd (omega (arith, e))
four (a ∷ b ∷ c ∷ []) e = absurd (omega (arith, e))
four (a ∷ b ∷ c ∷ d ∷ []) e = refl
four (a ∷ b ∷ c ∷ d ∷ x ∷ s) e = absurd (omega (arith, e))

pub seal-by : (s : Session) (p : List ℕ) (n : ℕ) (hd : List ℕ) {r : Outcome} {b a : List ℕ} → length hd ≡ 4
    → Did (seal_out s (four_of hd) p n) r b a → Did (seal_out s hd p n) r b a
seal-by s p n hd {r} {b} {a} e d = subst (λ (k : List ℕ). Did (seal_out s k p n) r b a) (four hd e) d
