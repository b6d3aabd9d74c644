-- Facts about the length of each slot's key: one slot more. Assumes nothing.
use mathlib.Core.Path.{◌≡◌, sym, ap, ◌∙◌, subst}
use mathlib.Core.List.{List, [], ◌∷◌, ◌++◌}
use Prim.Native.Nat.{ℕ, ◌+◌, ◌<◌}
use native.Mathlib.Numerals.{add-one}
use lib.ListN.{length, take, get_or}
use lib.Seq.{take-suc}
use Rattle.card.specs.declared.Slot.{Slot}
use Rattle.card.specs.Sizes.{key_bytes}
use Rattle.card.specs.Shape.{KeysLong}

keys-append : (s t : List Slot) → KeysLong s → KeysLong t → KeysLong (s ++ t)
keys-append [] t h g = g
keys-append (x ∷ s) t h g = (h.0, keys-append s t h.1 g)

pub keys-suc : (s : List Slot) (k : ℕ) (d : Slot) → k < length s → KeysLong (take k s) → length (get_or s k d).key ≡ key_bytes
    → KeysLong (take (k + 1) s)
keys-suc s k d h g e =
    subst KeysLong (sym (ap (λ (n : ℕ). take n s) (add-one k) ∙ take-suc s k d h))
    (keys-append (take k s) (get_or s k d ∷ []) g (e, tt))
