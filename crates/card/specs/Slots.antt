-- Tests over all the elements of a list, and over the slots. Nothing here depends on how many slots there are.
use Rattle.std.specs.Prelude.{ℕ, List, [], ◌∷◌, Bool, true, false, ◌&&◌, ◌||◌, not, leb, eqb}
use Rattle.card.specs.declared.Slot.{Slot}

module _ {A : Type 0} where
  -- whether each element passes the test
  unfoldable pub all_of : (A → Bool) → List A → Bool
  all_of p [] = true
  all_of p (x ∷ s) = p x && all_of p s

  -- whether some element passes the test
  unfoldable pub some_of : (A → Bool) → List A → Bool
  some_of p [] = false
  some_of p (x ∷ s) = p x || some_of p s

-- a zero byte, and a list of them
abbrev pub is_zero : ℕ → Bool
is_zero b = eqb b 0

abbrev pub all_zero : List ℕ → Bool
all_zero s = all_of is_zero s

-- the slot is free
abbrev pub is_free : Slot → Bool
is_free s = is_zero s.filled

-- the slot's flag is at most `most`, and the key of a free slot is zero (RULES 2.3)
abbrev pub slot_within : ℕ → Slot → Bool
slot_within most s = leb s.filled most && (not (is_free s) || all_zero s.key)
