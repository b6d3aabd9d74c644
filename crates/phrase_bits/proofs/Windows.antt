-- A number of w bits at any place of the bits of numbers of v bits: it is cut from those of the numbers that it lies in.
-- Assumes nothing.
use mathlib.Core.Path.{◌≡◌, refl, sym, ap, ap₂, ◌∙◌, subst}
use mathlib.Core.List.{List, [], ◌∷◌, ◌++◌, append_assoc}
use Prim.Native.Nat.{ℕ, zero, suc, ◌+◌, ◌-◌, ◌*◌, ◌/◌, ◌%◌, ◌^◌, ◌≤◌, ◌<◌}
use native.Mathlib.Nat.{zero-mul, suc-mul, add_comm, add-zero, div-add-mod', one-mul, mod-eq_of_lt, pow-le-pow_right}
use native.Mathlib.Omega.{arith}
use lib.Arith.{digits_div, digits_mod}
use lib.ListN.{length, take, drop, get_or, length-drop, take-append-drop}
use lib.Seq.{take-append-le, drop-append-le, drop_at, drop-drop, get_or-drop, length-take-le}
use Rattle.octets.proofs.Lists.{◌&◌}
use Rattle.phrase_rules.specs.Bits.{bits_of, bits, read_on, number}
use Rattle.phrase_rules.specs.Reverse.{from_two_bytes}
use Rattle.phrase_rules.proofs.Bits.{Below, below-take, below-drop, below-bits, length-bits_of, length-bits, number_append, number-below, number-bits_of-low}

-- ---- powers of 2 in 32 bits
pub power-fits : (w : ℕ) → w < 32 → 1 * 2 ^ w % 2 ^ 32 ≡ 2 ^ w
power-fits w h = ap (λ (x : ℕ). x % 2 ^ 32) (one-mul (2 ^ w)) ∙ mod-eq_of_lt (omega (arith, pow-le-pow_right {n = 2} (omega arith) {i = w} {j = 31} (omega arith)))

-- ---- the bits of a part of a number
high : (s t : List ℕ) (k : ℕ) → length t ≡ k → Below 2 t → number (s ++ t) / 2 ^ k ≡ number s
high s t k l h =
    ap (λ (x : ℕ). x / 2 ^ k) (number_append s t ∙ ap (λ (j : ℕ). number s * 2 ^ j + number t) l)
    ∙ digits_div (number s) (subst (λ (j : ℕ). number t < 2 ^ j) l (number-below t h))

low : (s t : List ℕ) (k : ℕ) → length t ≡ k → Below 2 t → number (s ++ t) % 2 ^ k ≡ number t
low s t k l h =
    ap (λ (x : ℕ). x % 2 ^ k) (number_append s t ∙ ap (λ (j : ℕ). number s * 2 ^ j + number t) l)
    ∙ digits_mod (number s) (subst (λ (j : ℕ). number t < 2 ^ j) l (number-below t h))

-- w bits of s with r bits before them and t after
pub number-part : (s : List ℕ) (r w t : ℕ) → length s ≡ r + (w + t) → Below 2 s → number (take w (drop r s)) ≡ number s / 2 ^ t % 2 ^ w
number-part s r w t l h =
    sym
    (ap (λ (p : List ℕ). number p / 2 ^ t % 2 ^ w) parts
    ∙ ap (λ (x : ℕ). x % 2 ^ w) (high (take r s ++ take w (drop r s)) (drop w (drop r s)) t (omega (arith, length-drop w (drop r s), length-drop r s)) (below-drop 2 w (drop r s) (below-drop 2 r s h)))
    ∙ low (take r s) (take w (drop r s)) w (length-take-le w (drop r s) (omega (arith, length-drop r s))) (below-take 2 w (drop r s) (below-drop 2 r s h)))
  where
    parts : s ≡ (take r s ++ take w (drop r s)) ++ drop w (drop r s)
    parts =
        sym (take-append-drop r s)
        ∙ ap (λ (q : List ℕ). take r s ++ q) (sym (take-append-drop w (drop r s)))
        ∙ sym (append_assoc (take r s) (take w (drop r s)) (drop w (drop r s)))

-- ---- a place in the bits of a list
-- what lies ahead of other bits
pub ahead : (s t : List ℕ) (i w : ℕ) → i + w ≤ length s → take w (drop i (s ++ t)) ≡ take w (drop i s)
ahead s t i w h = ap (take w) (drop-append-le i s t (omega arith)) ∙ take-append-le w (drop i s) t (omega (arith, length-drop i s))

pub bits-append : (v : ℕ) (s t : List ℕ) → bits v (s ++ t) ≡ bits v s ++ bits v t
unfolding bits
bits-append v [] t = refl
bits-append v (x ∷ s) t = ap (λ (q : List ℕ). bits_of v x ++ q) (bits-append v s t) ∙ sym (append_assoc (bits_of v x) (bits v s) (bits v t))

drop_bits : (v m : ℕ) (s : List ℕ) → m ≤ length s → drop (m * v) (bits v s) ≡ bits v (drop m s)
unfolding bits
drop_bits v zero s h = rw zero-mul
drop_bits v (suc m) [] h = absurd (omega arith)
drop_bits v (suc m) (x ∷ s) h =
    rw (suc-mul, add_comm (m * v)) (sym (drop-drop (m * v) v (bits v (x ∷ s))))
    ∙ ap (drop (m * v)) (drop_at (bits_of v x) (bits v s) v (length-bits_of v x))
    ∙ drop_bits v m s (omega arith)

-- w bits from the bit m * v + r on, where the numbers `a` are at place m and have t bits after them
pub window : (v w m r t : ℕ) (s a b : List ℕ) → drop m s ≡ a ++ b → m ≤ length s → length a * v ≡ r + (w + t)
    → number (take w (drop (m * v + r) (bits v s))) ≡ number (bits v a) / 2 ^ t % 2 ^ w
window v w m r t s a b e h l =
    ap (λ (q : List ℕ). number (take w q))
    (sym (drop-drop r (m * v) (bits v s)) ∙ ap (drop r) (drop_bits v m s h ∙ ap (bits v) e ∙ bits-append v a b))
    ∙ ap number (ahead (bits v a) (bits v b) r w (omega (arith, length-bits v a)))
    ∙ number-part (bits v a) r w t (length-bits v a ∙ l) (below-bits v a)

-- ---- two and three numbers as one
number-none : (v : ℕ) → number (bits v []) ≡ 0
unfolding bits number read_on
number-none v = refl

number_more : (v x : ℕ) (s : List ℕ) → number (bits v (x ∷ s)) ≡ x % 2 ^ v * 2 ^ (length s * v) + number (bits v s)
unfolding bits
number_more v x s =
    number_append (bits_of v x) (bits v s)
    ∙ ap₂ (λ (y k : ℕ). y * 2 ^ k + number (bits v s)) (number-bits_of-low v x) (length-bits v s)

pub one_number : (v x : ℕ) → number (bits v (x ∷ [])) ≡ x % 2 ^ v
one_number v x = number_more v x [] ∙ rw (zero-mul, number-none v) (omega arith)

two-numbers : (x y : ℕ) → number (bits 11 (x ∷ y ∷ [])) ≡ x % 2048 * 2048 + y % 2048
two-numbers x y = number_more 11 x (y ∷ []) ∙ ap (λ (k : ℕ). x % 2048 * 2048 + k) (one_number 11 y)

three-bytes : (x y z : ℕ) → x < 256 → y < 256 → z < 256 → number (bits 8 (x ∷ y ∷ z ∷ [])) ≡ x * 65536 + y * 256 + z
three-bytes x y z h g f =
    number_more 8 x (y ∷ z ∷ [])
    ∙ ap (λ (k : ℕ). x % 256 * 65536 + k) (number_more 8 y (z ∷ []) ∙ ap (λ (k : ℕ). y % 256 * 256 + k) (one_number 8 z))
    ∙ omega arith

-- ---- the elements at a place
two-first : (s : List ℕ) → 2 ≤ length s → s ≡ (get_or s 0 0 ∷ get_or s 1 0 ∷ []) ++ drop 2 s
two-first [] h = absurd (omega arith)
two-first (x ∷ []) h = absurd (omega arith)
two-first (x ∷ y ∷ s) h = refl

three-first : (s : List ℕ) → 3 ≤ length s → s ≡ (get_or s 0 0 ∷ get_or s 1 0 ∷ get_or s 2 0 ∷ []) ++ drop 3 s
three-first [] h = absurd (omega arith)
three-first (x ∷ []) h = absurd (omega arith)
three-first (x ∷ y ∷ []) h = absurd (omega arith)
three-first (x ∷ y ∷ z ∷ s) h = refl

first-at : (s : List ℕ) (m : ℕ) → get_or (drop m s) 0 0 ≡ get_or s m 0
first-at s m = get_or-drop m s 0 0 ∙ ap (λ (k : ℕ). get_or s k 0) (add-zero m)

two_at : (s : List ℕ) (m : ℕ) → m + 1 < length s → drop m s ≡ (get_or s m 0 ∷ get_or s (m + 1) 0 ∷ []) ++ drop 2 (drop m s)
two_at s m h = two-first (drop m s) (omega (arith, length-drop m s)) ∙ (first-at s m & get_or-drop m s 1 0 & refl)

three-at : (s : List ℕ) (m : ℕ) → m + 2 < length s
    → drop m s ≡ (get_or s m 0 ∷ get_or s (m + 1) 0 ∷ get_or s (m + 2) 0 ∷ []) ++ drop 3 (drop m s)
three-at s m h =
    three-first (drop m s) (omega (arith, length-drop m s)) ∙ (first-at s m & get_or-drop m s 1 0 & get_or-drop m s 2 0 & refl)

-- ---- what the code reads
-- 11 bits from the bit i on lie in three bytes
pub eleven-at : (s : List ℕ) (i : ℕ) → i / 8 + 2 < length s
    → get_or s (i / 8) 0 < 256 → get_or s (i / 8 + 1) 0 < 256 → get_or s (i / 8 + 2) 0 < 256
    → number (take 11 (drop i (bits 8 s)))
    ≡ (get_or s (i / 8) 0 * 65536 + get_or s (i / 8 + 1) 0 * 256 + get_or s (i / 8 + 2) 0) / 2 ^ (13 - i % 8) % 2 ^ 11
eleven-at s i h a b c =
    ap (λ (k : ℕ). number (take 11 (drop k (bits 8 s)))) (sym (div-add-mod' i 8))
    ∙ window 8 11 (i / 8) (i % 8) (13 - i % 8) s _ _ (three-at s (i / 8) h) (omega arith) (omega arith)
    ∙ ap (λ (x : ℕ). x / 2 ^ (13 - i % 8) % 2 ^ 11) (three-bytes _ _ _ a b c)

-- 8 bits from the bit i on lie in two numbers of 11 bits
pub eight-at : (s : List ℕ) (i : ℕ) → i / 11 + 1 < length s
    → number (take 8 (drop i (bits 11 s))) ≡ (get_or s (i / 11) 0 % 2048 * 2048 + get_or s (i / 11 + 1) 0 % 2048) / 2 ^ (14 - i % 11) % 2 ^ 8
eight-at s i h =
    ap (λ (k : ℕ). number (take 8 (drop k (bits 11 s)))) (sym (div-add-mod' i 11))
    ∙ window 11 8 (i / 11) (i % 11) (14 - i % 11) s _ _ (two_at s (i / 11) h) (omega arith) (omega arith)
    ∙ ap (λ (x : ℕ). x / 2 ^ (14 - i % 11) % 2 ^ 8) (two-numbers (get_or s (i / 11) 0) (get_or s (i / 11 + 1) 0))

-- number k of those in two bytes
pub from-two-at : (s : List ℕ) (k : ℕ) → 2 * k + 1 < length s → get_or (from_two_bytes s) k 0 ≡ get_or s (2 * k) 0 * 256 + get_or s (2 * k + 1) 0
unfolding from_two_bytes
from-two-at [] k h = absurd (omega arith)
from-two-at (x ∷ []) k h = absurd (omega arith)
from-two-at (x ∷ y ∷ s) zero h = refl
from-two-at (x ∷ y ∷ s) (suc k) h =
    from-two-at s k (omega arith) ∙ ap₂ (λ (i j : ℕ). get_or (x ∷ y ∷ s) i 0 * 256 + get_or (x ∷ y ∷ s) j 0) even odd
  where
    even : suc (suc (2 * k)) ≡ 2 * suc k
    even = omega arith

    odd : suc (suc (2 * k + 1)) ≡ 2 * suc k + 1
    odd = omega arith
