-- The first free slot of a list of any length, which PAIR fills (RULES 6.8), and what makes an answer the right one.
use Rattle.std.specs.Prelude.{ℕ, ◌+◌, ◌<◌, ◌≡◌, cond, List, [], ◌∷◌, length, get_or, Option, Some, None}
use Rattle.card.specs.declared.Slot.{Slot}
use Rattle.card.specs.State.{free_slot}
use Rattle.card.specs.Slots.{is_free}

-- the answer of a search that began k slots further on
abbrev pub after : ℕ → Option ℕ → Option ℕ
after k (Some i) = Some (k + i)
after k None = None

-- the index of the first slot, if it is free; else that of the first free one after it
unfoldable pub first_free : List Slot → Option ℕ
first_free [] = None
first_free (s ∷ more) = cond (is_free s) (Some 0) (after 1 (first_free more))

-- the slot with this index is there and free; no slot below it is
pub record LeastFree (slots : List Slot) (i : ℕ) : Type 0 where
  pub within : i < length slots
  pub free : (get_or slots i free_slot).filled ≡ 0
  pub below : (k : ℕ) → k < i → (get_or slots k free_slot).filled ≡ 0 → ⊥

-- what each answer says of the slots (RULES 6.8): the least index of a free one, which PAIR fills and answers; or that none is free,
-- for which PAIR answers 6A84
abbrev pub Says : List Slot → Option ℕ → Type 0
Says slots (Some i) = LeastFree slots i
Says slots None = (k : ℕ) → k < length slots → (get_or slots k free_slot).filled ≡ 0 → ⊥
