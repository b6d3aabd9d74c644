-- The laws of the count: the count of two batches is the sum of theirs, a count of at most 65,535 records is sound, and feeding records one
-- at a time or adding the counts of two batches gives the count of all. Assumes nothing.
use mathlib.Core.Path.{◌≡◌, refl, sym, ap, ap₂, ◌∙◌}
use mathlib.Core.Bool.{Bool, true, false, ◌&&◌, cond}
use mathlib.Core.List.{List, [], ◌∷◌, ◌++◌, append_assoc, append-nil, map}
use Prim.Native.Nat.{ℕ, ◌+◌, ◌≤◌, ◌<◌}
use native.Mathlib.Omega.{arith}
use lib.Dec.{leb}
use lib.ListN.{length, length-append}
use borrow.Author.Tests.{le-leb, lt-leb, leb-true}
use Rattle.octets.proofs.Lists.{◌&◌}
use Rattle.refusals.specs.Refusals.{unsound, count_full}
use Rattle.sound.specs.declared.Answer.{Answer}
use Rattle.record_rules.specs.Answers.{read_answer}
use Rattle.stock_rules.specs.declared.Counted.{Counted}
use Rattle.stock_rules.specs.Rows.{rows, one_of, total, count_of}
use Rattle.stock_rules.specs.Counts.{number_count, fed, fed_most, is_count, plus, counted, not_counted, summed, add_record, add_counts, feed}
use Rattle.stock_rules.proofs.PlusFacts.{length-plus, plus-swap}
use Rattle.stock_rules.proofs.CountFacts.{CountRules, count-rules, count-sound, fed-plus, plus-rules}
use Rattle.stock_rules.proofs.OneFacts.{fed-one, one-rules, one-sound}

-- ---- total, and totals by any table
total-append : (f : Answer → ℕ) (r s : List (List ℕ)) → total f (r ++ s) ≡ total f r + total f s
unfolding total
total-append f [] s = omega arith
total-append f (x ∷ r) s = omega (arith, total-append f r s)

totals-append : (fs : List (Answer → ℕ)) (r s : List (List ℕ))
    → map (λ f. total f (r ++ s)) fs ≡ plus (map (λ f. total f r) fs) (map (λ f. total f s) fs)
unfolding plus
totals-append [] r s = refl
totals-append (f ∷ fs) r s = total-append f r s & totals-append fs r s

totals-one : (fs : List (Answer → ℕ)) (x : List ℕ) → map (λ f. total f (x ∷ [])) fs ≡ map (λ f. f (read_answer x)) fs
unfolding total
totals-one [] x = refl
totals-one (f ∷ fs) x = omega arith & totals-one fs x

-- ---- count_of: of two batches, in either order, and of one record
pub count-append : (r s : List (List ℕ)) → count_of (r ++ s) ≡ plus (count_of r) (count_of s)
unfolding count_of
count-append r s = totals-append rows r s

pub count-swap : (r s : List (List ℕ)) → count_of (r ++ s) ≡ count_of (s ++ r)
count-swap r s = count-append r s ∙ plus-swap (count_of r) (count_of s) ∙ sym (count-append s r)

pub count-one : (x : List ℕ) → count_of (x ∷ []) ≡ one_of (read_answer x)
unfolding count_of
count-one x = totals-one rows x

pub count-more : (r : List (List ℕ)) (x : List ℕ) → count_of (r ++ (x ∷ [])) ≡ plus (count_of r) (one_of (read_answer x))
count-more r x = count-append r (x ∷ []) ∙ ap (plus (count_of r)) (count-one x)

pub length-count : (r : List (List ℕ)) → length (count_of r) ≡ number_count
unfolding count_of
length-count r = refl

-- the records fed are the records read and the records refused
pub fed-count : (r : List (List ℕ)) → fed (count_of r) ≡ length r
unfolding count_of total
fed-count [] = refl
fed-count (x ∷ r) = omega (arith, fed-one (read_answer x), fed-count r)

-- ---- a count of at most 65,535 records is sound
count-holds : (r : List (List ℕ)) → length r ≤ fed_most → CountRules (count_of r)
unfolding count_of total
count-holds [] h = record { kinds = refl; tries = refl; few = omega arith; slots = omega arith }
count-holds (x ∷ r) h =
    rw (count-append (x ∷ []) r, count-one x)
    (plus-rules (one_of (read_answer x)) (count_of r) (one-rules x) (count-holds r (omega arith))
    (omega (arith, fed-one (read_answer x), fed-count r)))

pub counts-sound : (r : List (List ℕ)) → length r ≤ fed_most → is_count (count_of r) ≡ true
counts-sound r h = count-sound (count_of r) (count-holds r h)

-- ---- add_counts, for any counts
module _ (c d : List ℕ) where
  pub sum-unsound : (is_count c && is_count d) ≡ false → add_counts c d ≡ not_counted unsound c
  unfolding add_counts
  sum-unsound e = rw e

  pub sum-full : is_count c ≡ true → is_count d ≡ true → fed_most < fed c + fed d → add_counts c d ≡ not_counted count_full c
  unfolding add_counts
  sum-full e g h = rw (e, g, lt-leb (fed c + fed d) fed_most h)

  pub sum_fits : is_count c ≡ true → is_count d ≡ true → fed c + fed d ≤ fed_most → add_counts c d ≡ counted (plus c d)
  unfolding add_counts
  sum_fits e g h = rw (e, g, le-leb (fed c + fed d) fed_most h)

-- a sound count stays sound, whatever is added to it
pub sum-keeps : (c d : List ℕ) → is_count c ≡ true → is_count (add_counts c d).count ≡ true
unfolding add_counts
sum-keeps c d e = rw e (by-second (is_count d) refl)
  where
    by-few : is_count d ≡ true → (b : Bool) → leb (fed c + fed d) fed_most ≡ b
        → is_count (cond b (counted (plus c d)) (not_counted count_full c)).count ≡ true
    by-few g true h = count-sound (plus c d) (plus-rules c d (count-rules c e) (count-rules d g) (leb-true _ _ h))
    by-few g false h = e

    by-second : (b : Bool) → is_count d ≡ b → is_count (summed b (fed c + fed d) c d).count ≡ true
    by-second true g = by-few g (leb (fed c + fed d) fed_most) refl
    by-second false g = e

-- ---- the sum of the counts of two batches
module _ (r s : List (List ℕ)) where
  pub sum-batches : length r + length s ≤ fed_most → add_counts (count_of r) (count_of s) ≡ counted (count_of (r ++ s))
  sum-batches h =
      sum_fits (count_of r) (count_of s) (counts-sound r (omega arith)) (counts-sound s (omega arith)) (omega (arith, fed-count r, fed-count s))
      ∙ ap counted (sym (count-append r s))

  pub sum_past : length r ≤ fed_most → length s ≤ fed_most → fed_most < length r + length s
      → add_counts (count_of r) (count_of s) ≡ not_counted count_full (count_of r)
  sum_past h g p =
      sum-full (count_of r) (count_of s) (counts-sound r h) (counts-sound s g) (omega (arith, fed-count r, fed-count s))

pub sum-either : (r s : List (List ℕ)) → length r + length s ≤ fed_most → add_counts (count_of r) (count_of s) ≡ add_counts (count_of s) (count_of r)
sum-either r s h = sum-batches r s h ∙ ap counted (count-swap r s) ∙ sym (sum-batches s r (omega arith))

-- ---- add_record is the sum with the count of the record
pub add-as-sum : (c x : List ℕ) → add_record c x ≡ add_counts c (one_of (read_answer x))
unfolding add_record add_counts
add-as-sum c x =
    ap₂ (λ (b : Bool) (n : ℕ). summed b (fed c + n) c (one_of (read_answer x)))
    (sym (and-true (is_count c)) ∙ ap (λ (b : Bool). is_count c && b) (sym (one-sound x)))
    (sym (fed-one (read_answer x)))
  where
    and-true : (b : Bool) → (b && true) ≡ b
    and-true true = refl
    and-true false = refl

pub add-keeps : (c x : List ℕ) → is_count c ≡ true → is_count (add_record c x).count ≡ true
add-keeps c x e = ap (λ (k : Counted). is_count k.count) (add-as-sum c x) ∙ sum-keeps c (one_of (read_answer x)) e

pub add-fed : (r : List (List ℕ)) (x : List ℕ) → length r < fed_most → add_record (count_of r) x ≡ counted (count_of (r ++ (x ∷ [])))
add-fed r x h =
    add-as-sum (count_of r) x
    ∙ ap (add_counts (count_of r)) (sym (count-one x))
    ∙ sum-batches r (x ∷ []) (omega arith)

pub add-past : (r : List (List ℕ)) (x : List ℕ) → length r ≡ fed_most → add_record (count_of r) x ≡ not_counted count_full (count_of r)
add-past r x h =
    add-as-sum (count_of r) x
    ∙ ap (add_counts (count_of r)) (sym (count-one x))
    ∙ sum_past r (x ∷ []) (omega arith) (omega arith) (omega arith)

-- ---- feeding records one at a time gives the count of the list
feed-after : (r s : List (List ℕ)) → length r + length s ≤ fed_most → feed (count_of r) s ≡ count_of (r ++ s)
feed-after r [] h = ap count_of (sym (append-nil r))
feed-after r (x ∷ s) h =
    ap (λ (k : Counted). feed k.count s) (add-fed r x (omega arith))
    ∙ feed-after (r ++ (x ∷ [])) s (omega (arith, length-append r (x ∷ [])))
    ∙ ap count_of (append_assoc r (x ∷ []) s)

pub feed-count : (s : List (List ℕ)) → length s ≤ fed_most → feed (count_of []) s ≡ count_of s
feed-count s h = feed-after [] s (omega arith)
