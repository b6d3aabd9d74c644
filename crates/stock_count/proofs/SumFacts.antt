-- What the two tests of soundness say of two counts, and that no number of their sum passes 32 bits. Assumes nothing.
use mathlib.Core.Path.{◌≡◌, sym, ap₂, ◌∙◌}
use mathlib.Core.Bool.{Bool, true, false, not, ◌&&◌}
use mathlib.Core.List.{List}
use Prim.Native.Nat.{ℕ, ◌+◌, ◌<◌}
use native.Mathlib.Omega.{arith}
use lib.ListN.{length, get_or}
use Rattle.card.proofs.Tests.{both}
use Rattle.stock_rules.specs.Counts.{number_count, is_count}
use Rattle.stock_rules.proofs.CountFacts.{count-rules, number-most}

-- x and y are what the tests gave
module _ {x y : Bool} (c d : List ℕ) (e : x ≡ is_count c) (g : y ≡ is_count d) where
  pub one-unsound : (x && y) ≡ false → (is_count c && is_count d) ≡ false
  one-unsound t = sym (ap₂ ◌&&◌ e g) ∙ t

  pub both-sound : (x && y) ≡ true → (is_count c ≡ true) × (is_count d ≡ true)
  both-sound t = both (is_count c) (is_count d) (sym (ap₂ ◌&&◌ e g) ∙ t)

pub sums-fit : (c d : List ℕ) → length c ≡ number_count → length d ≡ number_count → (is_count c ≡ true) × (is_count d ≡ true)
    → (i : ℕ) → get_or c i 0 + get_or d i 0 < 4294967296
sums-fit c d l m h i = omega (arith, number-most c l (count-rules c h.0) i, number-most d m (count-rules d h.1) i)
