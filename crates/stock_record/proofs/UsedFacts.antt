-- The used slots are those that the library counts.
-- Assumes nothing.
use Rattle.std.proofs.Common.{◌≡◌, refl, ap, ◌∙◌, sym, Bool, true, false, cond, List, [], ◌∷◌, ℕ, ◌+◌, ◌≤◌, length, eqb, arith, count_by}
use Rattle.std.proofs.lemmas.List.Sums.{sum_by-cons}
use Rattle.card.specs.declared.Slot.{Slot}
use Rattle.stock_rules.specs.Rows.{used_slots}

-- the slot is used
abbrev pub is_used : Slot → Bool
is_used s = eqb s.filled 1

pub counted_used : (s : List Slot) → count_by is_used s ≡ used_slots s
unfolding used_slots
counted_used [] = refl
counted_used (x ∷ s) = sum_by-cons (λ (y : Slot). cond (is_used y) 1 0) x s ∙ ap (λ n. cond (is_used x) 1 0 + n) (counted_used s)
