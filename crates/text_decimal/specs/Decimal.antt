-- Decimal numbers in ASCII: what a digit is worth, and which number a word spells.
use Rattle.std.specs.Prelude.{ℕ, ◌+◌, ◌*◌, ◌-◌, Bool, true, cond, not, ◌&&◌, List, [], ◌∷◌, ltb, length, Option, Some, None}

-- `0` to `9`
unfoldable pub is_digit : ℕ → Bool
is_digit c = not (ltb c 48) && not (ltb 57 c)

-- what the character c is worth as a digit, where it is one
abbrev pub digit_of : ℕ → Option ℕ
digit_of c = cond (is_digit c) (Some (c - 48)) None

-- every character is a digit
abbrev pub all_digits : List ℕ → Bool
all_digits [] = true
all_digits (c ∷ s) = is_digit c && all_digits s

-- the number that digits spell after the number n, the highest first
abbrev pub spelled : ℕ → List ℕ → ℕ
spelled n [] = n
spelled n (c ∷ s) = spelled (n * 10 + (c - 48)) s

-- a number has one to four digits and is at most 1024
abbrev pub is_number : List ℕ → Bool
is_number w = ltb 0 (length w) && (ltb (length w) 5 && (all_digits w && ltb (spelled 0 w) 1025))

-- the number that a word spells, where it is one
abbrev pub number_of : List ℕ → Option ℕ
number_of w = cond (is_number w) (Some (spelled 0 w)) None
