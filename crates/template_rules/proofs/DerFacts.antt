-- Facts about DER integers (specs/Der.antt): the content is shortest, not negative, and the same number.
-- Assumes nothing.
use mathlib.Core.Path.{◌≡◌, refl, sym, ap, ◌∙◌}
use mathlib.Core.Bool.{Bool, true, false}
use mathlib.Core.List.{List, [], ◌∷◌, ◌++◌, append_assoc}
use Prim.Native.Nat.{ℕ, zero, suc, ◌+◌, ◌-◌, ◌≤◌, ◌<◌}
use native.Mathlib.Nat.{zero-mul, zero-add}
use native.Mathlib.Numerals.{add-one}
use native.Mathlib.Omega.{arith}
use lib.Dec.{leb}
use lib.ListN.{length, get_or, take, drop, length-drop, drop_of_length-le}
use lib.Seq.{drop-cons}
use borrow.Author.Tests.{leb-true, leb-false}
use Rattle.std.specs.Prelude.{Option, Some, None, MatchOption, unwrap_or, slice_index}
use Rattle.template_rules.specs.Template.{field_head, field}
use Rattle.template_rules.specs.Der.{leading_zeros, needs_zero, with_sign, der_content, Shortest, number}
use Rattle.template_rules.proofs.Parts.{part-from}
use Rattle.template_rules.proofs.HeadFacts.{by-test}

-- ---- leading_zeros
pub zeros_within : (s : List ℕ) → leading_zeros s ≤ length s
zeros_within [] = omega arith
zeros_within (zero ∷ s) = omega (arith, zeros_within s)
zeros_within (suc x ∷ s) = omega arith

-- the count: zeros up to place i, and another byte there if it is not the end
zeros-count : (s : List ℕ) (i : ℕ) → i ≤ length s → ((k : ℕ) → k < i → get_or s k 0 ≡ 0) → (i < length s → get_or s i 0 ≡ 0 → ⊥) → i ≡ leading_zeros s
zeros-count [] i l z n = omega arith
zeros-count (zero ∷ s) zero l z n = absurd (n (omega arith) refl)
zeros-count (zero ∷ s) (suc i) l z n = ap suc (zeros-count s i (omega arith) (λ k h. z (suc k) (omega arith)) (λ h. n (omega arith)))
zeros-count (suc x ∷ s) zero l z n = refl
zeros-count (suc x ∷ s) (suc i) l z n = absurd (omega (arith, z 0 (omega arith)))

-- the place of the first byte that is not zero; where there is none, all are
abbrev pub FirstNonzero : List ℕ → Option ℕ → Type 0
FirstNonzero s r =
    MatchOption r ((k : ℕ) → k < length s → slice_index s k ≡ 0)
    (λ i. (i < length s) × (slice_index s i ≡ 0 → ⊥) × ((k : ℕ) → k < i → slice_index s k ≡ 0))

pub zeros-found : (s : List ℕ) (r : Option ℕ) → FirstNonzero s r → unwrap_or r (length s) ≡ leading_zeros s
zeros-found s None h = zeros-count s (length s) (omega arith) h (λ l. absurd (omega arith))
zeros-found s (Some i) h = zeros-count s i (omega (arith, h.0)) h.2 (λ l. h.1)

-- ---- with_sign
pub sign_zero : (s : List ℕ) → needs_zero s ≡ true → with_sign s ≡ 0 ∷ s
sign_zero s e = rw e

pub sign-none : (s : List ℕ) → needs_zero s ≡ false → with_sign s ≡ s
sign-none s e = rw e

-- ---- der_content
-- without its leading zeros a number is empty, or begins with a byte that is not zero
abbrev Led : List ℕ → Type 0
Led [] = Unit {0}
Led (x ∷ s) = 0 < x

led : (s : List ℕ) → Led (drop (leading_zeros s) s)
led [] = tt
led (zero ∷ s) = led s
led (suc x ∷ s) = omega arith

sign-shortest : (s : List ℕ) → Led s → Shortest (with_sign s)
sign-shortest [] h = omega arith
sign-shortest (x ∷ s) h = by-test Shortest (leb 128 x) (λ e. leb-true 128 x e) (λ e. positive x s h (leb-false 128 x e))
  where
    positive : (x : ℕ) (s : List ℕ) → 0 < x → x < 128 → Shortest (x ∷ s)
    positive zero s h g = absurd (omega arith)
    positive (suc x) s h g = g

pub der-shortest : (s : List ℕ) → Shortest (der_content s)
der-shortest s = sign-shortest (drop (leading_zeros s) s) (led s)

sign-bounds : (s : List ℕ) → (1 ≤ length (with_sign s)) × (length (with_sign s) ≤ length s + 1)
sign-bounds [] = (omega arith, omega arith)
sign-bounds (x ∷ s) =
    by-test (λ (t : List ℕ). (1 ≤ length t) × (length t ≤ length (x ∷ s) + 1)) (leb 128 x)
    (λ _. (omega arith, omega arith)) (λ _. (omega arith, omega arith))

pub der-length : (s : List ℕ) → (1 ≤ length (der_content s)) × (length (der_content s) ≤ length s + 1)
der-length s =
    let b = sign-bounds (drop (leading_zeros s) s) in
    (b.0, omega (arith, b.1, length-drop (leading_zeros s) s))

-- of 32 bytes it is 1 to 33 bytes
pub der-length-32 : (s : List ℕ) → length s ≡ 32 → (1 ≤ length (der_content s)) × (length (der_content s) ≤ 33)
der-length-32 s h = let b = der-length s in (b.0, omega (arith, b.1))

-- ---- number
zero-front : (s : List ℕ) → number (0 ∷ s) ≡ number s
zero-front s = rw (zero-mul, zero-add)

sign-number : (s : List ℕ) → number (with_sign s) ≡ number s
sign-number s = by-test (λ (t : List ℕ). number t ≡ number s) (needs_zero s) (λ _. zero-front s) (λ _. refl)

strip-number : (s : List ℕ) → number (drop (leading_zeros s) s) ≡ number s
strip-number [] = refl
strip-number (zero ∷ s) = strip-number s ∙ sym (zero-front s)
strip-number (suc x ∷ s) = refl

-- the content reads back as the same number
pub der-number : (s : List ℕ) → number (der_content s) ≡ number s
der-number s = sign-number (drop (leading_zeros s) s) ∙ strip-number s

-- ---- der_integer: a zero, written after the head and before the digits
pub zero_field : (s : List ℕ) → needs_zero s ≡ true → field_head 0x02 (length s + 1) ++ 0 ∷ [] ++ s ≡ field 0x02 (with_sign s)
zero_field s e = rw (sign_zero s e, append_assoc (field_head 0x02 (length s + 1)) (0 ∷ []) s, add-one)
