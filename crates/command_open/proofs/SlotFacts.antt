-- The slot of an index: one that is there, or a free one.
-- Assumes nothing.
use mathlib.Core.Path.{◌≡◌, refl}
use mathlib.Core.List.{List, [], ◌∷◌}
use Prim.Native.Nat.{ℕ, zero, suc, ◌≤◌, ◌<◌}
use native.Mathlib.Nat.{not-suc-le-zero, le_of_suc-le-suc}
use lib.ListN.{length, get_or}
use Rattle.card.specs.declared.Slot.{Slot}

-- ---- get_or: an element that is there does not depend on what is read for one that is not
pub get_d_any : (s : List Slot) (i : ℕ) (d e : Slot) → i < length s → get_or s i d ≡ get_or s i e
get_d_any [] i d e h = absurd (not-suc-le-zero h)
get_d_any (x ∷ s) zero d e h = refl
get_d_any (x ∷ s) (suc i) d e h = get_d_any s i d e (le_of_suc-le-suc h)

pub get_d_past : (s : List Slot) (i : ℕ) (d : Slot) → length s ≤ i → get_or s i d ≡ d
get_d_past [] i d h = refl
get_d_past (x ∷ s) zero d h = absurd (not-suc-le-zero h)
get_d_past (x ∷ s) (suc i) d h = get_d_past s i d (le_of_suc-le-suc h)
