-- Counts (RULES 10.6): a list of eleven numbers in the report's order; which are sound, one record more, and the sum of two.
use Rattle.std.specs.Prelude.{ℕ, ◌+◌, ◌*◌, Bool, ◌&&◌, cond, List, [], ◌∷◌, eqb, leb, get_or}
use Rattle.refusals.specs.Refusals.{no_refusal, unsound, count_full}
use Rattle.record_rules.specs.Answers.{read_answer}
use Rattle.stock_rules.specs.declared.Counted.{Counted}
use Rattle.stock_rules.specs.Rows.{one_of}

-- how many numbers a count has
abbrev pub number_count : ℕ
number_count = 11

-- ---- the numbers by name
abbrev pub read : List ℕ → ℕ
read c = get_or c 0 0

abbrev pub refused : List ℕ → ℕ
refused c = get_or c 1 0

abbrev pub pre_initialised : List ℕ → ℕ
pre_initialised c = get_or c 2 0

-- the cards of the three kinds, which are the initialised ones, and the cards at the four try counts
abbrev pub of_kinds : List ℕ → ℕ
of_kinds c = get_or c 3 0 + get_or c 4 0 + get_or c 5 0

abbrev pub of_tries : List ℕ → ℕ
of_tries c = get_or c 6 0 + get_or c 7 0 + get_or c 8 0 + get_or c 9 0

abbrev pub slots_used : List ℕ → ℕ
slots_used c = get_or c 10 0

-- the records fed
abbrev pub fed : List ℕ → ℕ
fed c = read c + refused c

-- ---- the most records fed that a count holds, and the most slots of an initialised card in it
abbrev pub fed_most : ℕ
fed_most = 65535

abbrev pub slots_most : ℕ
slots_most = 8

-- ---- which counts are sound: the sums hold, exactly, and the two bounds
unfoldable pub is_count : List ℕ → Bool
is_count c =
    eqb (pre_initialised c + of_kinds c) (read c)
    && eqb (of_tries c) (of_kinds c)
    && leb (fed c) fed_most
    && leb (slots_used c) (slots_most * of_kinds c)

-- ---- two counts added number by number; where one has ended, the numbers of the other
unfoldable pub plus : List ℕ → List ℕ → List ℕ
plus [] d = d
plus (x ∷ c) [] = x ∷ c
plus (x ∷ c) (y ∷ d) = (x + y) ∷ plus c d

-- ---- the answers: the sum, or a refusal and the first count
abbrev pub counted : List ℕ → Counted
counted c = record { refusal = no_refusal; count = c }

abbrev pub not_counted : ℕ → List ℕ → Counted
not_counted n c = record { refusal = n; count = c }

-- d added to c, if what is added is sound and n, the records fed with both, are not too many
abbrev pub summed : Bool → ℕ → List ℕ → List ℕ → Counted
summed sound n c d = cond sound (cond (leb n fed_most) (counted (plus c d)) (not_counted count_full c)) (not_counted unsound c)

-- one record more
unfoldable pub add_record : List ℕ → List ℕ → Counted
add_record c s = summed (is_count c) (fed c + 1) c (one_of (read_answer s))

-- the sum of two counts
unfoldable pub add_counts : List ℕ → List ℕ → Counted
add_counts c d = summed (is_count c && is_count d) (fed c + fed d) c d

-- ---- records fed one at a time, beginning with a count
abbrev pub feed : List ℕ → List (List ℕ) → List ℕ
feed c [] = c
feed c (s ∷ more) = feed (add_record c s).count more
