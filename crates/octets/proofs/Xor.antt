-- Exclusive-or of numbers is associative and cancels: the laws that lib.Bits does not have. Each holds because it holds of the lowest
-- bits, and of the numbers without their lowest bits by induction.
-- Assumes nothing.
use mathlib.Core.Path.{◌≡◌, refl, sym, ap, ap₂, ◌∙◌}
use Prim.Native.Nat.{ℕ, zero, suc, ◌+◌, ◌*◌, ◌/◌, ◌%◌, ◌<◌}
use native.Mathlib.Omega.{arith}
use lib.Arith.{bin_ind, digits_mod}
use lib.Bits.{bit_xor, differ, xor_step, xor_shr, xor_comm, xor_self, xor_zero_r}

-- ---- one bit
bit : (a : ℕ) → a % 2 < 2
bit a = omega arith

differ-bit : (x y : ℕ) → x < 2 → y < 2 → differ x y < 2
differ-bit zero y p q = q
differ-bit (suc zero) zero p q = p
differ-bit (suc zero) (suc zero) p q = omega arith
differ-bit (suc zero) (suc (suc y)) p q = omega arith
differ-bit (suc (suc x)) y p q = omega arith

differ-assoc : (x y z : ℕ) → x < 2 → y < 2 → z < 2 → differ (differ x y) z ≡ differ x (differ y z)
differ-assoc zero y z p q r = refl
differ-assoc (suc zero) zero z p q r = refl
differ-assoc (suc zero) (suc zero) zero p q r = refl
differ-assoc (suc zero) (suc zero) (suc zero) p q r = refl
differ-assoc (suc zero) (suc zero) (suc (suc z)) p q r = omega arith
differ-assoc (suc zero) (suc (suc y)) z p q r = omega arith
differ-assoc (suc (suc x)) y z p q r = omega arith

lowest : (a b : ℕ) → bit_xor a b % 2 ≡ differ (a % 2) (b % 2)
lowest a b =
    ap (λ (x : ℕ). x % 2) (xor_step a b)
    ∙ digits_mod (bit_xor (a / 2) (b / 2)) (differ-bit (a % 2) (b % 2) (bit a) (bit b))

-- ---- all bits
Assoc : ℕ → Type 0
Assoc n = (b c : ℕ) → bit_xor (bit_xor n b) c ≡ bit_xor n (bit_xor b c)

higher : (n : ℕ) → Assoc (n / 2) → (b c : ℕ) → bit_xor (bit_xor n b / 2) (c / 2) ≡ bit_xor (n / 2) (bit_xor b c / 2)
unfolding Assoc
higher n ih b c =
    ap (λ (x : ℕ). bit_xor x (c / 2)) (xor_shr n b 1) ∙ ih (b / 2) (c / 2) ∙ ap (bit_xor (n / 2)) (sym (xor_shr b c 1))

lower : (n b c : ℕ) → differ (bit_xor n b % 2) (c % 2) ≡ differ (n % 2) (bit_xor b c % 2)
lower n b c =
    ap (λ (x : ℕ). differ x (c % 2)) (lowest n b)
    ∙ differ-assoc (n % 2) (b % 2) (c % 2) (bit n) (bit b) (bit c)
    ∙ ap (differ (n % 2)) (sym (lowest b c))

pub xor_assoc : (a b c : ℕ) → bit_xor (bit_xor a b) c ≡ bit_xor a (bit_xor b c)
unfolding Assoc
xor_assoc =
    bin_ind Assoc (λ b c. refl)
    (λ n ih b c. xor_step (bit_xor n b) c ∙ ap₂ (λ (x y : ℕ). x * 2 + y) (higher n ih b c) (lower n b c) ∙ sym (xor_step n (bit_xor b c)))

pub xor-left-comm : (a b c : ℕ) → bit_xor a (bit_xor b c) ≡ bit_xor b (bit_xor a c)
xor-left-comm a b c = sym (xor_assoc a b c) ∙ ap (λ (x : ℕ). bit_xor x c) (xor_comm a b) ∙ xor_assoc b a c

pub xor-cancel : (a b : ℕ) → bit_xor a (bit_xor a b) ≡ b
xor-cancel a b = sym (xor_assoc a a b) ∙ ap (λ (x : ℕ). bit_xor x b) (xor_self a)

pub xor-undo : (a b : ℕ) → bit_xor (bit_xor a b) b ≡ a
xor-undo a b = xor_assoc a b b ∙ ap (bit_xor a) (xor_self b) ∙ xor_zero_r a

pub xor-interchange : (a b c d : ℕ) → bit_xor (bit_xor a b) (bit_xor c d) ≡ bit_xor (bit_xor a c) (bit_xor b d)
xor-interchange a b c d =
    xor_assoc a b (bit_xor c d) ∙ ap (bit_xor a) (xor-left-comm b c d) ∙ sym (xor_assoc a c (bit_xor b d))
