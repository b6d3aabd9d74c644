-- What the stock count counts (RULES 10.6): one table over what READ answers for a record, and the totals of it over a list of records.
use Rattle.std.specs.Prelude.{ℕ, ◌+◌, Bool, ◌&&◌, not, cond, List, [], ◌∷◌, map, eqb}
use Rattle.card.specs.declared.Slot.{Slot}
use Rattle.card.specs.Slots.{is_zero}
use Rattle.sound.specs.declared.Answer.{Answer}
use Rattle.record_rules.specs.Answers.{read_answer}

-- ---- what READ says of a record
-- it is one
abbrev pub is_taken : Answer → Bool
is_taken a = is_zero a.refusal

-- it is one of an initialised card: only then are key kind, tries and slots counted
abbrev pub is_initialised : Answer → Bool
is_initialised a = is_taken a && not (is_zero a.card.initialised)

-- how many slots are used
unfoldable pub used_slots : List Slot → ℕ
used_slots [] = 0
used_slots (s ∷ more) = cond (eqb s.filled 1) 1 0 + used_slots more

-- ---- the table: what one record adds to each of the numbers, in the report's order
abbrev pub one_if : Bool → ℕ
one_if b = cond b 1 0

abbrev pub kind_is : ℕ → Answer → ℕ
kind_is k a = one_if (is_initialised a && eqb a.card.keys.kind k)

abbrev pub tries_are : ℕ → Answer → ℕ
tries_are n a = one_if (is_initialised a && eqb a.card.pins.pin_tries n)

abbrev pub rows : List (Answer → ℕ)
rows =
    (λ a. one_if (is_taken a))
    ∷ (λ a. one_if (not (is_taken a)))
    ∷ (λ a. one_if (is_taken a && is_zero a.card.initialised))
    ∷ kind_is 0 ∷ kind_is 1 ∷ kind_is 2
    ∷ tries_are 0 ∷ tries_are 1 ∷ tries_are 2 ∷ tries_are 3
    ∷ (λ a. cond (is_initialised a) (used_slots a.card.pairing.slots) 0)
    ∷ []

-- ---- the count of one record, by what READ answers for it, and of a list of records: of each number the total
abbrev pub one_of : Answer → List ℕ
one_of a = map (λ f. f a) rows

unfoldable pub total : (Answer → ℕ) → List (List ℕ) → ℕ
total f [] = 0
total f (s ∷ more) = f (read_answer s) + total f more

unfoldable pub count_of : List (List ℕ) → List ℕ
count_of records = map (λ f. total f records) rows
