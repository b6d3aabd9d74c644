-- Facts about tests: a conjunction that holds, and a test over a list.
-- Assumes nothing.
use mathlib.Core.Path.{◌≡◌, refl, sym, ◌∙◌}
use mathlib.Core.Bool.{Bool, true, false, ◌&&◌, ◌||◌, not, false≢true}
use mathlib.Core.List.{List, [], ◌∷◌}
use Prim.Native.Nat.{ℕ, ◌+◌, ◌≤◌, ◌<◌}
use native.Mathlib.Numerals.{add-one}
use lib.ListN.{length, drop, get_or, replicate, drop_of_length-le}
use lib.Seq.{drop-cons}
use borrow.Author.Tests.{eqb-true}
use Rattle.octets.proofs.Lists.{◌&◌}
use Rattle.card.specs.Slots.{all_of, is_zero, all_zero}

-- ---- conjunction and disjunction
pub both : (a b : Bool) → (a && b) ≡ true → (a ≡ true) × (b ≡ true)
both true b e = (refl, e)
both false b e = absurd (false≢true e)

pub implied : (a b : Bool) → a ≡ true → (not a || b) ≡ true → b ≡ true
implied true b h e = e
implied false b h e = absurd (false≢true h)

pub or_right : (a b : Bool) → b ≡ true → (a || b) ≡ true
or_right true b e = refl
or_right false b e = e

-- one of two tests holds, and the other does not
pub the-first : (a b : Bool) → b ≡ false → (a || b) ≡ true → a ≡ true
the-first true b z e = refl
the-first false b z e = absurd (false≢true (sym z ∙ e))

pub the_second : (a b : Bool) → a ≡ false → (a || b) ≡ true → b ≡ true
the_second true b z e = absurd (false≢true (sym z))
the_second false b z e = e

-- ---- all_of: one element is tested, and the rest is left
module _ {A : Type 0} (p : A → Bool) (s : List A) (i : ℕ) (d : A) where
  pub all-step : i < length s → p (get_or s i d) ≡ true → all_of p (drop i s) ≡ all_of p (drop (i + 1) s)
  unfolding all_of
  all-step h t = rw (add-one, drop-cons s i d, t)

  pub all-fail : i < length s → p (get_or s i d) ≡ false → all_of p (drop i s) ≡ false
  unfolding all_of
  all-fail h t = rw (drop-cons s i d, t)

pub all_done : {A : Type 0} (p : A → Bool) (s : List A) (i : ℕ) → length s ≤ i → all_of p (drop i s) ≡ true
unfolding all_of
all_done p s i h = rw (drop_of_length-le s h)

-- what passes the test p passes the test q
pub all-mono : {A : Type 0} (p q : A → Bool) (s : List A) → ((x : A) → p x ≡ true → q x ≡ true)
    → all_of p s ≡ true → all_of q s ≡ true
unfolding all_of
all-mono p q [] f e = refl
all-mono p q (x ∷ s) f e =
    let h = both (p x) (all_of p s) e in
    rw (f x h.0) (all-mono p q s f h.1)

-- ---- all_zero
pub zero-list : (s : List ℕ) → all_zero s ≡ true → s ≡ replicate (length s) 0
unfolding all_of
zero-list [] e = refl
zero-list (x ∷ s) e =
    let h = both (is_zero x) (all_zero s) e in
    eqb-true x 0 h.0 & zero-list s h.1
