-- Facts for step 2: the form of a command. Lengths are in bytes.
-- Assumes nothing.
use mathlib.Core.Path.{◌≡◌, refl, ap}
use mathlib.Core.Bool.{Bool, true, false, ◌||◌, not}
use mathlib.Core.Logic.{◌⊎◌, inl, inr, ⊎_elim}
use mathlib.Core.List.{List, [], ◌∷◌}
use mathlib.Core.Option.{none}
use Prim.Native.Nat.{ℕ, ◌+◌, ◌-◌, ◌<◌, ◌≤◌}
use native.Mathlib.Omega.{arith}
use lib.Dec.{eqb}
use lib.ListN.{length, get_or, take, drop, length-take}
use borrow.Author.Tests.{lt-ltb, le-ltb, le-leb, lt-leb, eqb-true}
use Rattle.card.proofs.Tests.{both}
use Rattle.rules.specs.Steps.{lc_fits, data_of}
use Rattle.order_form.specs.Form.{DataIn}

-- ---- tests
or_cases : (a b : Bool) → (a || b) ≡ true → (a ≡ true) ⊎ (b ≡ true)
or_cases true b e = inl refl
or_cases false b e = inr e

no-bytes : (s : List ℕ) → length s ≡ 0 → s ≡ []
no-bytes [] e = refl
no-bytes (x ∷ s) e = absurd (omega (arith, e))

-- ---- the form of a command
pub form-short : (cmd : List ℕ) → length cmd < 4 → data_of cmd ≡ none
unfolding data_of
form-short cmd h = rw (lt-ltb (length cmd) 4 h)

module _ (cmd field : List ℕ) (header : 4 ≤ length cmd) where
  pub form-bare : length cmd ≤ 5 → length field ≡ 0 → DataIn cmd field
  unfolding data_of
  form-bare h e = record {
    header = header;
    short = omega (arith, e);
    holds = rw (le-ltb (length cmd) 4 header, le-leb (length cmd) 5 h, no-bytes field e);
  }

  pub form-data : 5 < length cmd → (lc : ℕ) → lc ≡ get_or cmd 4 0 → lc < 256 → lc_fits lc (length cmd) ≡ true
      → field ≡ take lc (drop 5 cmd) → DataIn cmd field
  unfolding data_of
  form-data h lc e byte f g = record {
    header = header;
    short = omega (arith, ap length g, length-take lc (drop 5 cmd), byte);
    holds = rw (le-ltb (length cmd) 4 header, lt-leb (length cmd) 5 h, ← e, f, g);
  }

pub lc-within : (lc n : ℕ) → lc_fits lc n ≡ true → 5 + lc ≤ n
lc-within lc n f = ⊎_elim
    (λ t. omega (arith, eqb-true n (5 + lc) t))
    (λ t. omega (arith, eqb-true n (6 + lc) t))
    (or_cases (eqb n (5 + lc)) (eqb n (6 + lc)) (both (not (eqb lc 0)) (eqb n (5 + lc) || eqb n (6 + lc)) f).1)

module _ (cmd : List ℕ) (header : 4 ≤ length cmd) where
  pub form-wrong : 5 < length cmd → (lc : ℕ) → lc ≡ get_or cmd 4 0 → lc_fits lc (length cmd) ≡ false → data_of cmd ≡ none
  unfolding data_of
  form-wrong h lc e f = rw (le-ltb (length cmd) 4 header, lt-leb (length cmd) 5 h, ← e, f)
