-- Facts about the definitions of specs/Bits.antt, each over every width: numbers are read from their bits again, and bits from the numbers
-- that they are cut into.
-- Assumes nothing.
use mathlib.Core.Path.{◌≡◌, refl, sym, ap, ap₂, ◌∙◌, subst}
use mathlib.Core.List.{List, [], ◌∷◌, ◌++◌, append_assoc}
use Prim.Native.Nat.{ℕ, zero, suc, ◌+◌, ◌-◌, ◌*◌, ◌/◌, ◌%◌, ◌^◌, ◌≤◌, ◌<◌}
use native.Mathlib.Nat.{pow-suc, zero-mul, suc-mul, add_comm, mod-one, mod-eq_of_lt, one-le-pow}
use native.Mathlib.Omega.{arith}
use lib.Arith.{mod-mul}
use lib.ListN.{length, take, drop, get_or, length-append, length-drop}
use lib.Seq.{take_at, drop_at, take-suc, take_all, take-add, length-take-le, drop-drop}
use Rattle.octets.specs.Bytes.{Bytes}
use Rattle.octets.proofs.Lists.{◌&◌}
use Rattle.phrase_rules.specs.Bits.{bits_of, bits, read_on, number, cut}

-- ---- every element is below m: bits are below 2, bytes below 2 ^ 8, word numbers below 2 ^ 11
abbrev pub Below : ℕ → List ℕ → Type 0
Below m [] = Unit {0}
Below m (x ∷ s) = (x < m) × Below m s

module _ (m : ℕ) where
  pub below-append : (s t : List ℕ) → Below m s → Below m t → Below m (s ++ t)
  below-append [] t h g = g
  below-append (x ∷ s) t h g = (h.0, below-append s t h.1 g)

  pub below-take : (k : ℕ) (s : List ℕ) → Below m s → Below m (take k s)
  below-take zero s h = tt
  below-take (suc k) [] h = h
  below-take (suc k) (x ∷ s) h = (h.0, below-take k s h.1)

  pub below-drop : (k : ℕ) (s : List ℕ) → Below m s → Below m (drop k s)
  below-drop zero s h = h
  below-drop (suc k) [] h = h
  below-drop (suc k) (x ∷ s) h = below-drop k s h.1

  pub below_at : (s : List ℕ) (k : ℕ) → Below m s → k < length s → get_or s k 0 < m
  below_at [] k h l = absurd (omega arith)
  below_at (x ∷ s) zero h l = h.0
  below_at (x ∷ s) (suc k) h l = below_at s k h.1 (omega arith)

pub below-bytes : (s : List ℕ) → Bytes s → Below (2 ^ 8) s
below-bytes [] h = tt
below-bytes (x ∷ s) h = (h.0, below-bytes s h.1)

pub bytes_below : (s : List ℕ) → Below (2 ^ 8) s → Bytes s
bytes_below [] h = tt
bytes_below (x ∷ s) h = (h.0, bytes_below s h.1)

-- ---- bits_of, bits
pub length-bits_of : (w x : ℕ) → length (bits_of w x) ≡ w
unfolding bits_of
length-bits_of zero x = refl
length-bits_of (suc w) x = omega (arith, length-append (bits_of w (x / 2)) (x % 2 ∷ []), length-bits_of w (x / 2))

pub below-bits_of : (w x : ℕ) → Below 2 (bits_of w x)
unfolding bits_of
below-bits_of zero x = tt
below-bits_of (suc w) x = below-append 2 (bits_of w (x / 2)) (x % 2 ∷ []) (below-bits_of w (x / 2)) (omega arith, tt)

pub length-bits : (w : ℕ) (s : List ℕ) → length (bits w s) ≡ length s * w
unfolding bits
length-bits w [] = omega arith
length-bits w (x ∷ s) = omega (arith, length-append (bits_of w x) (bits w s), length-bits_of w x, length-bits w s)

pub below-bits : (w : ℕ) (s : List ℕ) → Below 2 (bits w s)
unfolding bits
below-bits w [] = tt
below-bits w (x ∷ s) = below-append 2 (bits_of w x) (bits w s) (below-bits_of w x) (below-bits w s)

-- ---- read_on, number
pub read-append : (x : ℕ) (s t : List ℕ) → read_on x (s ++ t) ≡ read_on (read_on x s) t
unfolding read_on
read-append x [] t = refl
read-append x (b ∷ s) t = read-append (2 * x + b) s t

-- the bits before stand at the high end
pub read-high : (x : ℕ) (s : List ℕ) → read_on x s ≡ x * 2 ^ length s + number s
unfolding read_on number
read-high x [] = omega arith
read-high x (b ∷ s) = read-high (2 * x + b) s ∙ shift (read-high (2 * 0 + b) s)
  where
    shift : read_on (2 * 0 + b) s ≡ (2 * 0 + b) * 2 ^ length s + read_on 0 s
        → (2 * x + b) * 2 ^ length s + read_on 0 s ≡ x * 2 ^ suc (length s) + read_on (2 * 0 + b) s
    shift e = rw (pow-suc 2 (length s)) (omega arith)

pub number_append : (s t : List ℕ) → number (s ++ t) ≡ number s * 2 ^ length t + number t
unfolding number
number_append s t = read-append 0 s t ∙ read-high (read_on 0 s) t

pub number-below : (s : List ℕ) → Below 2 s → number s < 2 ^ length s
unfolding read_on number
number-below [] h = omega arith
number-below (zero ∷ s) h = omega (arith, number-below s h.1, pow-suc 2 (length s))
number-below (suc zero ∷ s) h = omega (arith, read-high 1 s, number-below s h.1, pow-suc 2 (length s))
number-below (suc (suc b) ∷ s) h = absurd (omega arith)

number-none : number [] ≡ 0
unfolding read_on number
number-none = refl

number-last : (s : List ℕ) (b : ℕ) → number (s ++ (b ∷ [])) ≡ 2 * number s + b
unfolding read_on number
number-last s b = read-append 0 s (b ∷ [])

-- a number is read from its bits again, if it has no more than these
pub number-bits_of-low : (w x : ℕ) → number (bits_of w x) ≡ x % 2 ^ w
unfolding bits_of
number-bits_of-low zero x = number-none ∙ sym (mod-one x)
number-bits_of-low (suc w) x =
    number-last (bits_of w (x / 2)) (x % 2)
    ∙ omega (arith, number-bits_of-low w (x / 2), mod-mul x {m = 2 ^ w} {c = 2} (one-le-pow w 2 (omega arith)) (omega arith))
    ∙ ap (λ (m : ℕ). x % m) (sym (pow-suc 2 w))

pub number-bits_of : (w x : ℕ) → x < 2 ^ w → number (bits_of w x) ≡ x
number-bits_of w x h = number-bits_of-low w x ∙ mod-eq_of_lt h

-- and bits are those of the number that they are
pub bits_of-number : (w : ℕ) (s : List ℕ) → length s ≡ w → Below 2 s → bits_of w (number s) ≡ s
unfolding bits_of
bits_of-number zero [] l h = refl
bits_of-number zero (b ∷ s) l h = absurd (omega (arith, l))
bits_of-number (suc w) s l h =
    ap (bits_of (suc w)) (ap number parts ∙ number-last (take w s) (get_or s w 0))
    ∙ ap₂ (λ (x b : ℕ). bits_of w x ++ (b ∷ [])) (omega (arith, low)) (omega (arith, low))
    ∙ ap (λ (t : List ℕ). t ++ (get_or s w 0 ∷ [])) (bits_of-number w (take w s) (length-take-le w s (omega arith)) (below-take 2 w s h))
    ∙ sym parts
  where
    parts : s ≡ take w s ++ (get_or s w 0 ∷ [])
    parts = sym (take_all (suc w) s (omega arith)) ∙ take-suc s w 0 (omega arith)

    low : get_or s w 0 < 2
    low = below_at 2 s w h (omega arith)

-- ---- cut
pub length_cut : (w k : ℕ) (s : List ℕ) → length (cut w k s) ≡ k
unfolding cut
length_cut w zero s = refl
length_cut w (suc k) s = ap suc (length_cut w k (drop w s))

pub below-cut : (w k : ℕ) (s : List ℕ) → k * w ≤ length s → Below 2 s → Below (2 ^ w) (cut w k s)
unfolding cut
below-cut w zero s l h = tt
below-cut w (suc k) s l h = (
  subst (λ (n : ℕ). number (take w s) < 2 ^ n) (length-take-le w s (omega arith)) (number-below (take w s) (below-take 2 w s h)),
  below-cut w k (drop w s) (omega (arith, length-drop w s)) (below-drop 2 w s h),
)

pub get_d-cut : (w k i : ℕ) (s : List ℕ) → i < k → get_or (cut w k s) i 0 ≡ number (take w (drop (i * w) s))
unfolding cut
get_d-cut w zero i s h = absurd (omega arith)
get_d-cut w (suc k) zero s h = rw zero-mul
get_d-cut w (suc k) (suc i) s h =
    get_d-cut w k i (drop w s) (omega arith) ∙ ap (λ (r : List ℕ). number (take w r)) (drop-drop (i * w) w s ∙ rw (suc-mul, add_comm (i * w)))

-- numbers of w bits are cut from their bits again, whatever comes after them
pub cut-bits : (w : ℕ) (s t : List ℕ) → Below (2 ^ w) s → cut w (length s) (bits w s ++ t) ≡ s
unfolding cut bits
cut-bits w [] t h = refl
cut-bits w (x ∷ s) t h =
    ap (cut w (suc (length s))) (append_assoc (bits_of w x) (bits w s) t)
    ∙ (ap number (take_at (bits_of w x) (bits w s ++ t) w (length-bits_of w x)) ∙ number-bits_of w x h.0
    & ap (cut w (length s)) (drop_at (bits_of w x) (bits w s ++ t) w (length-bits_of w x)) ∙ cut-bits w s t h.1)

-- and the bits of the numbers that bits are cut into are those bits
pub bits-cut : (w k : ℕ) (s : List ℕ) → k * w ≤ length s → Below 2 s → bits w (cut w k s) ≡ take (k * w) s
unfolding cut bits
bits-cut w zero s l h = rw zero-mul
bits-cut w (suc k) s l h =
    ap₂ ◌++◌ (bits_of-number w (take w s) (length-take-le w s (omega arith)) (below-take 2 w s h))
    (bits-cut w k (drop w s) (omega (arith, length-drop w s)) (below-drop 2 w s h))
    ∙ sym (take-add w (k * w) s)
    ∙ rw (suc-mul, add_comm w)

pub bits-cut-all : (w k : ℕ) (s : List ℕ) → length s ≡ k * w → Below 2 s → bits w (cut w k s) ≡ s
bits-cut-all w k s l h = bits-cut w k s (omega arith) h ∙ take_all (k * w) s (omega arith)
