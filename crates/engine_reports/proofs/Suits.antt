-- The form of a supply. Lengths are in bytes.
-- Assumes nothing.
use mathlib.Core.Path.{◌≡◌, refl}
use mathlib.Core.Bool.{true, false, not}
use mathlib.Core.List.{List, [], ◌∷◌}
use Prim.Native.Nat.{ℕ}
use native.Mathlib.Omega.{arith}
use lib.Dec.{leb}
use lib.ListN.{length}
use borrow.Author.Tests.{eq-eqb, ne_eqb}
use Rattle.rules.specs.declared.Supply.{Supply}
use Rattle.rules.specs.Supplies.{flag_of, suits}

-- ---- the form of a supply
module _ (k : Supply) (s : List ℕ) where
  pub suits-unread : k.kind ≡ 0 → true ≡ suits k s
  unfolding suits
  suits-unread e = rw (e)

  module _ (read : k.kind ≡ 0 → ⊥) where
    pub suits-length : (length s ≡ k.bytes → ⊥) → false ≡ suits k s
    unfolding suits
    suits-length n = rw (ne_eqb k.kind 0 read, ne_eqb (length s) k.bytes n)

    module _ (long : length s ≡ k.bytes) where
      pub suits-unflagged : not k.flagged ≡ true → true ≡ suits k s
      unfolding suits
      suits-unflagged f = rw (ne_eqb k.kind 0 read, eq-eqb (length s) k.bytes long, f)

      pub suits-flagged : not k.flagged ≡ false → leb (flag_of s) 1 ≡ suits k s
      unfolding suits
      suits-flagged f = rw (ne_eqb k.kind 0 read, eq-eqb (length s) k.bytes long, f)

pub no_flag : (s : List ℕ) → length s ≡ 0 → true ≡ leb (flag_of s) 1
no_flag [] e = refl
no_flag (x ∷ s) e = absurd (omega (arith, e))
