-- A word whose digits so far spell more than the largest number is no number.
-- Assumes nothing.
use Rattle.std.proofs.Common.{◌≡◌, refl, ap, ◌∙◌, Bool, true, false, ◌&&◌, List, [], ◌∷◌, ℕ, suc, ◌+◌, ◌*◌, ◌-◌, ◌≤◌, ◌<◌, Some, None, length, drop, get_or, cond}
use native.Mathlib.Omega.{arith}
use lib.Seq.{drop-cons}
use borrow.Author.Tests.{lt-ltb, le-ltb}
use Rattle.text_decimal.specs.Decimal.{is_digit, digit_of, all_digits, spelled, number_of}

-- ---- digits after a number make it no smaller
grows : (n : ℕ) (s : List ℕ) → n ≤ spelled n s
grows n [] = omega arith
grows n (c ∷ s) = omega (arith, grows (n * 10 + (c - 48)) s)

-- ---- i characters of the word are read, all of them digits, and spell n
pub record Read (w : List ℕ) (n i : ℕ) : Type 0 where
  pub first : 0 < length w
  pub short : length w < 5
  pub most : n ≤ 1024
  pub digits : all_digits w ≡ all_digits (drop i w)
  pub value : spelled 0 w ≡ spelled n (drop i w)

worth : (b : Bool) (m d : ℕ) → cond b (Some m) None ≡ Some d → m ≡ d
worth true m d e = cc
worth false m d e = absurd (cc)

never : (b : Bool) → b && false ≡ false
never true = refl
never false = refl

-- ---- the next character is a digit that is worth d
pub read_over : (w : List ℕ) (n i d : ℕ) → Read w n i → i < length w → digit_of (get_or w i 0) ≡ Some d → 1024 < n * 10 + d → None ≡ number_of w
read_over w n i d r l h m =
    let c : ℕ = get_or w i 0 in
    let is : c - 48 ≡ d = worth (is_digit c) (c - 48) d h in
    let behind : spelled 0 w ≡ spelled (n * 10 + (c - 48)) (drop (suc i) w) = r.value ∙ ap (spelled n) (drop-cons w i 0 l) in
    let big : 1025 ≤ spelled 0 w = rw behind (omega (arith, grows (n * 10 + (c - 48)) (drop (suc i) w))) in
    rw (lt-ltb 0 (length w) r.first, lt-ltb (length w) 5 r.short, le-ltb (spelled 0 w) 1025 big, never (all_digits w))
