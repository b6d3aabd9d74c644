-- The bytes of a word: those that it was made of; the exclusive-or of two words goes byte by byte; the words of a list and their bytes.
-- Assumes nothing.
use mathlib.Core.Path.{◌≡◌, refl, ap, ◌∙◌}
use mathlib.Core.List.{List, [], ◌∷◌, ◌++◌, map}
use Rattle.std.specs.List.{flat_map}
use Prim.Native.Nat.{ℕ, zero, suc, ◌+◌, ◌*◌, ◌/◌, ◌%◌, ◌^◌, ◌<◌}
use native.Mathlib.Omega.{arith}
use lib.Bits.{bit_xor, xor_shr, xor_mod}
use lib.ListN.{length, take, drop}
use Rattle.octets.specs.Bytes.{xor_bytes}
use Rattle.octets.proofs.Lists.{◌&◌}
use Rattle.aes_words.specs.Words.{word, word_bytes, bytes_of}

pub word-bytes : (a b c d : ℕ) → a < 256 → b < 256 → c < 256 → d < 256 → word_bytes (word a b c d) ≡ a ∷ b ∷ c ∷ d ∷ []
unfolding word
word-bytes a b c d ha hb hc hd =
    let x : ℕ = a + 256 * (b + 256 * (c + 256 * d)) in
    let e₀ : x % 256 ≡ a = omega arith in
    let q₁ : x / 256 ≡ b + 256 * (c + 256 * d) = omega arith in
    let q₂ : x / 65536 ≡ c + 256 * d = omega arith in
    let q₃ : x / 16777216 ≡ d = omega arith in
    let r₁ : (b + 256 * (c + 256 * d)) % 256 ≡ b = omega arith in
    let r₂ : (c + 256 * d) % 256 ≡ c = omega arith in
    let r₃ : d % 256 ≡ d = omega arith in
    e₀ & (ap (λ (n : ℕ). n % 256) q₁ ∙ r₁) & (ap (λ (n : ℕ). n % 256) q₂ ∙ r₂) & (ap (λ (n : ℕ). n % 256) q₃ ∙ r₃) & refl

pub xor-word-bytes : (x y : ℕ) → word_bytes (bit_xor x y) ≡ xor_bytes (word_bytes x) (word_bytes y)
xor-word-bytes x y = xor_mod x y 8 & part 8 & part 16 & part 24 & refl
  where
    part : (n : ℕ) → bit_xor x y / 2 ^ n % 256 ≡ bit_xor (x / 2 ^ n % 256) (y / 2 ^ n % 256)
    part n = ap (λ (z : ℕ). z % 256) (xor_shr x y n) ∙ xor_mod (x / 2 ^ n) (y / 2 ^ n) 8

-- ---- the first n words of a list, and those after them
pub drop-words : (n : ℕ) (w : List ℕ) → drop (n * 4) (bytes_of w) ≡ bytes_of (drop n w)
drop-words zero w = refl
drop-words (suc n) [] = drop-none (suc n * 4)
  where
    drop-none : (m : ℕ) → drop m (bytes_of []) ≡ bytes_of []
    drop-none zero = refl
    drop-none (suc m) = refl
drop-words (suc n) (x ∷ w) = ap (λ (m : ℕ). drop m (bytes_of (x ∷ w))) {x = suc n * 4} {y = suc (suc (suc (suc (n * 4))))} (omega arith) ∙ drop-words n w

pub take_words : (n : ℕ) (w : List ℕ) → take (n * 4) (bytes_of w) ≡ bytes_of (take n w)
take_words zero w = refl
take_words (suc n) [] = take_none (suc n * 4)
  where
    take_none : (m : ℕ) → take m (bytes_of []) ≡ bytes_of []
    take_none zero = refl
    take_none (suc m) = refl
take_words (suc n) (x ∷ w) =
    ap (λ (m : ℕ). take m (bytes_of (x ∷ w))) {x = suc n * 4} {y = suc (suc (suc (suc (n * 4))))} (omega arith)
    ∙ ap (λ (t : List ℕ). word_bytes x ++ t) (take_words n w)

-- ---- words behind words
pub append-words : (v w : List ℕ) → bytes_of (v ++ w) ≡ bytes_of v ++ bytes_of w
append-words [] w = refl
append-words (x ∷ v) w = ap (λ (t : List ℕ). word_bytes x ++ t) (append-words v w)

pub length-words : (w : List ℕ) → length (bytes_of w) ≡ length w * 4
length-words [] = refl
length-words (x ∷ w) = omega (arith, length-words w)

-- the bytes of each word, one after the other
pub flat_words : (w : List ℕ) → flat_map (λ x. x) (map word_bytes w) ≡ bytes_of w
flat_words [] = refl
flat_words (x ∷ w) = ap (λ (t : List ℕ). word_bytes x ++ t) (flat_words w)
