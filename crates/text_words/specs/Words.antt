-- The words of a line: characters with no blank among them, and blanks or the line's ends around them. A blank is a space or a tab.
use Rattle.std.specs.Prelude.{◌≡◌, ◌≤◌, ℕ, zero, suc, ◌+◌, ◌-◌, Bool, true, cond, not, ◌&&◌, ◌||◌, List, [], ◌∷◌, ltb, eqb, length, take, drop, get_or}

abbrev pub is_blank : ℕ → Bool
is_blank c = eqb c 32 || eqb c 9

-- how many blanks a line begins with
abbrev pub blanks : List ℕ → ℕ
blanks [] = 0
blanks (c ∷ s) = cond (is_blank c) (suc (blanks s)) 0

-- how many characters it begins with that are no blanks
abbrev pub letters : List ℕ → ℕ
letters [] = 0
letters (c ∷ s) = cond (is_blank c) 0 (suc (letters s))

-- a line from its first word on
abbrev pub from_word : List ℕ → List ℕ
from_word s = drop (blanks s) s

-- word number k, counted from 0, of a line that begins with a word; no characters where there are fewer words
abbrev pub word_from : ℕ → List ℕ → List ℕ
word_from zero s = take (letters s) s
word_from (suc k) s = word_from k (from_word (drop (letters s) s))

abbrev pub word_of : ℕ → List ℕ → List ℕ
word_of k s = word_from k (from_word s)

-- how many words there are: a word begins at a character that is no blank, with a blank or nothing before it
abbrev pub words_behind : Bool → List ℕ → ℕ
words_behind blank [] = 0
words_behind blank (c ∷ s) = cond (blank && not (is_blank c)) 1 0 + words_behind (is_blank c) s

abbrev pub word_count : List ℕ → ℕ
word_count s = words_behind true s

-- the first word begins with `#`
abbrev pub is_comment : List ℕ → Bool
is_comment s = eqb (get_or (from_word s) 0 0) 35

-- how many bytes a line has without a carriage return at its end
abbrev pub line_bytes : List ℕ → ℕ
line_bytes s = cond (ltb 0 (length s) && eqb (get_or s (length s - 1) 0) 13) (length s - 1) (length s)

-- a line's end: some bytes in front of it are left out
abbrev pub IsEnd : List ℕ → List ℕ → Type 0
IsEnd s r = (length r ≤ length s) × (r ≡ drop (length s - length r) s)
