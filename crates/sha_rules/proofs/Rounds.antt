-- The rounds of the working variables, one after the other.
-- Assumes nothing.
use mathlib.Core.Path.{◌≡◌, refl, sym, ap, ap₂, ◌∙◌}
use mathlib.Core.List.{List}
use Prim.Native.Nat.{ℕ, ◌+◌}
use native.Mathlib.Numerals.{add-one}
use lib.ListN.{get_or}
use Rattle.sha_rules.specs.Constants.{K}
use Rattle.sha_rules.specs.Hash.{round, rounds}

pub rounds-none : (w s : List ℕ) → rounds w 0 s ≡ s
unfolding rounds
rounds-none w s = refl

-- one round more, with the constants in a table k
pub rounds-more : (k w h : List ℕ) {u v : List ℕ} (t n : ℕ) → k ≡ K → n ≡ t + 1 → u ≡ rounds w t h → v ≡ round (get_or k t 0) (get_or w t 0) u
    → v ≡ rounds w n h
unfolding rounds
rounds-more k w h {u} t n ek en eu ev =
    ev
    ∙ ap₂ (λ (x s : List ℕ). round (get_or x t 0) (get_or w t 0) s) ek eu
    ∙ ap (λ (j : ℕ). rounds w j h) (sym (en ∙ add-one t))
