-- A line has exactly the words that are counted: the first `word_count` of them have characters, the others none.
-- Assumes nothing.
use mathlib.Core.Path.{◌≡◌, refl, sym, ap, subst, ◌∙◌}
use mathlib.Core.Bool.{Bool, true, false}
use mathlib.Core.List.{List, [], ◌∷◌}
use Prim.Native.Nat.{ℕ, zero, suc, ◌+◌, ◌≤◌, ◌<◌}
use native.Mathlib.Nat.{zero-add}
use native.Mathlib.Omega.{arith}
use lib.ListN.{length, take, drop}
use Rattle.text_words.specs.Words.{is_blank, letters, from_word, word_from, word_of, words_behind, word_count}

-- ---- one character, a blank or not
module _ (c : ℕ) (s : List ℕ) where
  blank-first : is_blank c ≡ true → (b : Bool) → words_behind b (c ∷ s) ≡ words_behind true s
  blank-first e true = rw e (zero-add (words_behind true s))
  blank-first e false = rw e (zero-add (words_behind true s))

  word_first : is_blank c ≡ false → words_behind true (c ∷ s) ≡ suc (words_behind false s)
  word_first e = rw e (let one : 1 + words_behind false s ≡ suc (words_behind false s) = omega arith in one)

  word_on : is_blank c ≡ false → words_behind false (c ∷ s) ≡ words_behind false s
  word_on e = rw e (zero-add (words_behind false s))

  passed : is_blank c ≡ true → from_word (c ∷ s) ≡ from_word s
  passed e = rw e

  stays : is_blank c ≡ false → from_word (c ∷ s) ≡ c ∷ s
  stays e = rw e

  ended : is_blank c ≡ true → drop (letters (c ∷ s)) (c ∷ s) ≡ c ∷ s
  ended e = rw e

  longer : is_blank c ≡ false → drop (letters (c ∷ s)) (c ∷ s) ≡ drop (letters s) s
  longer e = rw e

  begun : is_blank c ≡ false → take (letters (c ∷ s)) (c ∷ s) ≡ c ∷ take (letters s) s
  begun e = rw e

-- ---- blanks in front are no words, and a word that has begun is counted
count-from-word : (s : List ℕ) → words_behind true (from_word s) ≡ words_behind true s
count-from-word [] = refl
count-from-word (c ∷ s) = test (is_blank c) refl (count-from-word s) where
  test : (b : Bool) → is_blank c ≡ b → words_behind true (from_word s) ≡ words_behind true s
      → words_behind true (from_word (c ∷ s)) ≡ words_behind true (c ∷ s)
  test true e rest = ap (words_behind true) (passed c s e) ∙ rest ∙ sym (blank-first c s e true)
  test false e rest = ap (words_behind true) (stays c s e)

count-behind : (s : List ℕ) → words_behind false s ≡ words_behind true (drop (letters s) s)
count-behind [] = refl
count-behind (c ∷ s) = test (is_blank c) refl (count-behind s) where
  test : (b : Bool) → is_blank c ≡ b → words_behind false s ≡ words_behind true (drop (letters s) s)
      → words_behind false (c ∷ s) ≡ words_behind true (drop (letters (c ∷ s)) (c ∷ s))
  test true e rest = blank-first c s e false ∙ sym (ap (words_behind true) (ended c s e) ∙ blank-first c s e true)
  test false e rest = word_on c s e ∙ rest ∙ sym (ap (words_behind true) (longer c s e))

-- ---- a line that is empty or begins with a word
abbrev Led : List ℕ → Type 0
Led [] = Unit {0}
Led (c ∷ s) = is_blank c ≡ false

led : (s : List ℕ) → Led (from_word s)
led [] = tt
led (c ∷ s) = test (is_blank c) refl (led s) where
  test : (b : Bool) → is_blank c ≡ b → Led (from_word s) → Led (from_word (c ∷ s))
  test true e rest = subst Led (sym (passed c s e)) rest
  test false e rest = subst Led (sym (stays c s e)) e

there : (k : ℕ) (t : List ℕ) → Led t → k < words_behind true t → 0 < length (word_from k t)
there zero [] e h = absurd (omega arith)
there zero (c ∷ t) e h = rw (begun c t e) (omega arith)
there (suc k) [] e h = absurd (omega arith)
there (suc k) (c ∷ t) e h =
    let r = drop (letters t) t in
    subst (λ (u : List ℕ). 0 < length (word_from k (from_word u))) (sym (longer c t e))
    (there k (from_word r) (led r) (omega (arith, word_first c t e, count-behind t, count-from-word r)))

none : (k : ℕ) (t : List ℕ) → Led t → words_behind true t ≤ k → word_from k t ≡ []
none zero [] e h = refl
none (suc k) [] e h = none k [] tt (omega arith)
none zero (c ∷ t) e h = absurd (omega (arith, word_first c t e))
none (suc k) (c ∷ t) e h =
    let r = drop (letters t) t in
    subst (λ (u : List ℕ). word_from k (from_word u) ≡ []) (sym (longer c t e))
    (none k (from_word r) (led r) (omega (arith, word_first c t e, count-behind t, count-from-word r)))

pub word-there : (s : List ℕ) (k : ℕ) → k < word_count s → 0 < length (word_of k s)
word-there s k h = there k (from_word s) (led s) (omega (arith, count-from-word s))

pub word_none : (s : List ℕ) (k : ℕ) → word_count s ≤ k → word_of k s ≡ []
word_none s k h = none k (from_word s) (led s) (omega (arith, count-from-word s))
