-- Numbers that are, one by one, what the rows of a table say are the count by that table. Assumes nothing.
use mathlib.Core.Path.{◌≡◌, refl}
use mathlib.Core.List.{List, [], ◌∷◌, map}
use Prim.Native.Nat.{ℕ}
use Rattle.octets.proofs.Lists.{◌&◌}
use Rattle.sound.specs.declared.Answer.{Answer}

abbrev pub Each : List (Answer → ℕ) → Answer → List ℕ → Type 0
Each [] a [] = Unit {0}
Each [] a (n ∷ s) = ⊥
Each (f ∷ fs) a [] = ⊥
Each (f ∷ fs) a (n ∷ s) = (n ≡ f a) × Each fs a s

pub each_row : (fs : List (Answer → ℕ)) (a : Answer) (s : List ℕ) → Each fs a s → s ≡ map (λ f. f a) fs
each_row [] a [] h = refl
each_row [] a (n ∷ s) h = absurd h
each_row (f ∷ fs) a [] h = absurd h
each_row (f ∷ fs) a (n ∷ s) h = h.0 & each_row fs a s h.1
