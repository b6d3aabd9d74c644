-- The test of a whole list is the library's word for what `all` answers.
-- Assumes nothing.
use Rattle.std.proofs.Common.{◌≡◌, refl, ap, Bool, ◌&&◌, List, [], ◌∷◌}
use Rattle.std.specs.List.{list_all}
use Rattle.card.specs.Slots.{all_of}

pub all_of-chain : {A : Type 0} (p : A → Bool) (s : List A) → list_all p s ≡ all_of p s
unfolding all_of
all_of-chain p [] = refl
all_of-chain p (x ∷ s) = ap (λ b. p x && b) (all_of-chain p s)
