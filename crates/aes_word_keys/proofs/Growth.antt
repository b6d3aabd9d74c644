-- A turn of the loop writes the next four words after the schedule so far.
-- Assumes nothing.
use mathlib.Core.Path.{◌≡◌, refl, sym, ap, ap₂, ◌∙◌, subst}
use mathlib.Core.List.{List, [], ◌∷◌, ◌++◌}
use Prim.Native.Nat.{ℕ, suc, ◌+◌, ◌-◌, ◌*◌, ◌/◌, ◌%◌, ◌≤◌, ◌<◌}
use native.Mathlib.Numerals.{add-one}
use native.Mathlib.Omega.{arith}
use borrow.Author.Tests.{ne_eqb}
use lib.Bits.{bit_xor}
use lib.ListN.{length, take, get_or, set, length-set}
use lib.Seq.{drop-cons, get_or-take, take-suc-set, length-take-le, get_or-set_same, get_or-set_other, take_all, take-add}
use Rattle.octets.specs.Bytes.{xor_bytes}
use Rattle.aes_rules.specs.Schedule.{changed, word_at, next_word, expand, key_expansion}
use Rattle.aes_words.specs.Words.{word_bytes, bytes_of}
use Rattle.aes_words.proofs.Words.{xor-word-bytes, drop-words, append-words, length-words}

-- the loop's invariant: the first n words of w are the schedule so far
pub record Grown (key w : List ℕ) (n : ℕ) : Type 0 where
  pub front : bytes_of (take n w) ≡ expand (n - 8) key
  pub long : length w ≡ 60

-- ---- the word in place m
word_in : (u : List ℕ) (m : ℕ) → m < length u → word_at (bytes_of u) (m * 4) ≡ word_bytes (get_or u m 0)
word_in u m h = ap (take 4) (drop-words m u) ∙ ap (λ (t : List ℕ). take 4 (bytes_of t)) (drop-cons u m 0 h)

-- ---- one word more
module _ (key w : List ℕ) (n : ℕ) (so_far : Grown key w n) (from : 8 ≤ n) (to : n < 60) where
  abbrev u : List ℕ
  u = bytes_of (take n w)

  long : length w ≡ 60
  long = so_far.long

  words : length (take n w) ≡ n
  words = length-take-le n w (omega (arith, long))

  bytes : length u ≡ n * 4
  bytes = length-words (take n w) ∙ ap (λ (k : ℕ). k * 4) words

  at : (m k : ℕ) → k ≡ m * 4 → m < n → word_at u k ≡ word_bytes (get_or w m 0)
  at m k e h =
      ap (word_at u) e
      ∙ word_in (take n w) m (omega (arith, words))
      ∙ ap word_bytes (get_or-take n w m 0 h)

  next : (g : ℕ) → word_bytes g ≡ changed n (word_bytes (get_or w (n - 1) 0)) → word_bytes (bit_xor (get_or w (n - 8) 0) g) ≡ next_word u
  unfolding next_word
  next g e =
      xor-word-bytes (get_or w (n - 8) 0) g
      ∙ ap₂ xor_bytes (sym (at (n - 8) (length u - 32) (omega (arith, bytes)) (omega arith)))
      (e ∙ ap₂ changed number (sym (at (n - 1) (length u - 4) (omega (arith, bytes)) (omega arith))))
    where
      number : n ≡ length u / 4
      number = omega (arith, bytes)

  pub grown-word : (g v : ℕ) → word_bytes g ≡ changed n (word_bytes (get_or w (n - 1) 0)) → v ≡ bit_xor (get_or w (n - 8) 0) g → Grown key (set w n v) (n + 1)
  grown-word g v e ev = record { front = front; long = length-set w n v ∙ long }
    where
      front : bytes_of (take (n + 1) (set w n v)) ≡ expand (n + 1 - 8) key
      front =
          ap (λ (k : ℕ). bytes_of (take k (set w n v))) (add-one n)
          ∙ ap bytes_of (take-suc-set w n v (omega (arith, long)))
          ∙ append-words (take n w) (v ∷ [])
          ∙ ap₂ (λ (p q : List ℕ). p ++ q) so_far.front (ap word_bytes ev ∙ next g e ∙ ap next_word so_far.front)
          ∙ ap (λ (k : ℕ). expand k key) {x = suc (n - 8)} {y = n + 1 - 8} (omega arith)

-- a word that takes the one before it as it is
plain_word : (key w : List ℕ) (n m i j x y v : ℕ) → Grown key w n → 8 ≤ n → n < 60 → (n % 4 ≡ 0 → ⊥) → m ≡ n + 1
    → i ≡ n - 1 → j ≡ n - 8 → get_or w i 0 ≡ x → get_or w j 0 ≡ y → v ≡ bit_xor y x → Grown key (set w n v) m
plain_word key w n m i j x y v so_far from to other em ei ej ex ey ev =
    subst (λ (k : ℕ). Grown key (set w n v) k) (sym em)
    (grown-word key w n so_far from to x v (ap word_bytes word-before ∙ as-it-is) (ev ∙ ap (λ (k : ℕ). bit_xor k x) word-eight-before))
  where
    word-before : x ≡ get_or w (n - 1) 0
    word-before = sym ex ∙ ap (λ (k : ℕ). get_or w k 0) ei

    word-eight-before : y ≡ get_or w (n - 8) 0
    word-eight-before = sym ey ∙ ap (λ (k : ℕ). get_or w k 0) ej

    as-it-is : word_bytes (get_or w (n - 1) 0) ≡ changed n (word_bytes (get_or w (n - 1) 0))
    as-it-is = rw (ne_eqb (n % 8) 0 (λ e. other (omega arith)), ne_eqb (n % 8) 4 (λ e. other (omega arith))) refl

-- ---- four words more, of which the first takes the changed word g
kept : (w : List ℕ) (i j v : ℕ) → j < i → get_or (set w i v) j 0 ≡ get_or w j 0
kept w i j v h = get_or-set_other w i j v 0 (λ e. omega arith)

pub grown-four : (key w : List ℕ) (n g a b c d : ℕ) → Grown key w n → n % 4 ≡ 0 → 8 ≤ n → n < 60
    → word_bytes g ≡ changed n (word_bytes (get_or w (n - 1) 0))
    → a ≡ bit_xor (get_or w (n - 8) 0) g → b ≡ bit_xor (get_or w (n - 7) 0) a → c ≡ bit_xor (get_or w (n - 6) 0) b → d ≡ bit_xor (get_or w (n - 5) 0) c
    → Grown key (set (set (set (set w n a) (n + 1) b) (n + 2) c) (n + 3) d) (n + 4)
grown-four key w n g a b c d so_far fourth from to eg ea eb ec ed =
    plain_word key w₃ (n + 3) (n + 4) (n + 2) (n - 5) c (get_or w (n - 5) 0) d g₃ (omega arith) (omega arith) (λ e. omega arith) (omega arith) (omega arith) (omega arith)
    (get_or-set_same w₂ (n + 2) c 0 (omega (arith, g₂.long)))
    (kept w₂ (n + 2) (n - 5) c (omega arith) ∙ kept w₁ (n + 1) (n - 5) b (omega arith) ∙ kept w n (n - 5) a (omega arith)) ed
  where
    w₁ : List ℕ
    w₁ = set w n a

    w₂ : List ℕ
    w₂ = set w₁ (n + 1) b

    w₃ : List ℕ
    w₃ = set w₂ (n + 2) c

    g₁ : Grown key w₁ (n + 1)
    g₁ = grown-word key w n so_far from to g a eg ea

    g₂ : Grown key w₂ (n + 2)
    g₂ =
        plain_word key w₁ (n + 1) (n + 2) n (n - 7) a (get_or w (n - 7) 0) b g₁ (omega arith) (omega arith) (λ e. omega arith) (omega arith) (omega arith) (omega arith)
        (get_or-set_same w n a 0 (omega (arith, so_far.long))) (kept w n (n - 7) a (omega arith)) eb

    g₃ : Grown key w₃ (n + 3)
    g₃ =
        plain_word key w₂ (n + 2) (n + 3) (n + 1) (n - 6) b (get_or w (n - 6) 0) c g₂ (omega arith) (omega arith) (λ e. omega arith) (omega arith) (omega arith) (omega arith)
        (get_or-set_same w₁ (n + 1) b 0 (omega (arith, g₁.long))) (kept w₁ (n + 1) (n - 6) b (omega arith) ∙ kept w n (n - 6) a (omega arith)) ec

-- ---- the key's own words
pub key-word : (key w : List ℕ) (n v : ℕ) → bytes_of (take n w) ≡ take (n * 4) key → n < length w → word_bytes v ≡ word_at key (n * 4)
    → bytes_of (take (n + 1) (set w n v)) ≡ take ((n + 1) * 4) key
key-word key w n v e h ev =
    ap (λ (k : ℕ). bytes_of (take k (set w n v))) (add-one n)
    ∙ ap bytes_of (take-suc-set w n v h)
    ∙ append-words (take n w) (v ∷ [])
    ∙ ap₂ (λ (p q : List ℕ). p ++ q) e ev
    ∙ sym (take-add (n * 4) 4 key)
    ∙ ap (λ (k : ℕ). take k key) {x = n * 4 + 4} {y = (n + 1) * 4} (omega arith)

pub key-grown : (key w : List ℕ) (n : ℕ) → bytes_of (take n w) ≡ take (n * 4) key → length key ≡ 32 → length w ≡ 60 → n ≡ 8 → Grown key w n
key-grown key w n e k l en =
    record {
      front = e ∙ take_all (n * 4) key (omega (arith, k)) ∙ ap (λ (m : ℕ). expand m key) {x = 0} {y = n - 8} (omega arith);
      long = l;
    }

pub grown-all : (key w : List ℕ) (n : ℕ) → Grown key w n → n ≡ 60 → bytes_of w ≡ key_expansion key
unfolding key_expansion
grown-all key w n so_far e =
    ap bytes_of (sym (take_all n w (omega (arith, so_far.long))))
    ∙ so_far.front
    ∙ ap (λ (m : ℕ). expand m key) {x = n - 8} {y = 52} (omega arith)
