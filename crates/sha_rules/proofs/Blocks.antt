-- The padded message is whole blocks, padded as the standard counts it in bits; and its hash value is reached in parts, cut at any block border.
-- Assumes nothing.
use mathlib.Core.Path.{◌≡◌, refl, sym, ap, ap₂, ◌∙◌}
use mathlib.Core.List.{List, [], ◌∷◌, ◌++◌, append_assoc}
use Prim.Native.Nat.{ℕ, zero, suc, ◌+◌, ◌-◌, ◌*◌, ◌/◌, ◌%◌, ◌^◌, ◌≤◌}
use native.Mathlib.Nat.{zero-add, suc-add}
use native.Mathlib.Omega.{arith}
use lib.ListN.{length, take, drop, replicate, length-append, length-replicate, length-drop, take-append-drop}
use lib.Seq.{take-append-le, drop-append-le, length-take-le}
use Rattle.octets.specs.Bytes.{Bytes}
use Rattle.octets.proofs.Lists.{bytes-tabulate, bytes-append}
use Rattle.sha_rules.specs.Constants.{H⁰}
use Rattle.sha_rules.specs.Padding.{zero_bytes, padding_bytes, big_endian, length_in_bits, padding, pad}
use Rattle.sha_rules.specs.Hash.{compress, blocks, digest, sha256}

-- ---- zero_bytes: 5.1.1 asks for the least number k of zero bits with 8 * l + 1 + k = 448 modulo 512, and 7 of them are in the byte 80
pub zero_bits : (l : ℕ) → (8 * l + 1 + (7 + 8 * zero_bytes l)) % 512 ≡ 448
zero_bits l = omega arith

pub zero-bits-least : (l k : ℕ) → (8 * l + 1 + k) % 512 ≡ 448 → 7 + 8 * zero_bytes l ≤ k
zero-bits-least l k e = omega arith

-- ---- pad
pub length-padding : (l : ℕ) → length (padding l) ≡ padding_bytes l
unfolding padding
length-padding l =
    omega (arith, length-append (0x80 ∷ replicate (zero_bytes l) 0) (big_endian 8 (length_in_bits l)), length-replicate {A = ℕ} (zero_bytes l) 0)

pub pad-whole-blocks : (m : List ℕ) → length (pad m) % 64 ≡ 0
unfolding pad
pad-whole-blocks m = omega (arith, length-append m (padding (length m)), length-padding (length m))

-- ---- blocks
pub blocks-none : (h m : List ℕ) (n : ℕ) → n ≡ 0 → blocks n h m ≡ h
unfolding blocks
blocks-none h m n e = ap (λ (k : ℕ). blocks k h m) e

pub blocks_more : (h m : List ℕ) (n k : ℕ) → n ≡ suc k → blocks n h m ≡ blocks k (compress h (take 64 m)) (drop 64 m)
unfolding blocks
blocks_more h m n k e = ap (λ (j : ℕ). blocks j h m) e

pub blocks-join : (n k : ℕ) (h x y : List ℕ) → length x ≡ n * 64 → blocks (n + k) h (x ++ y) ≡ blocks k (blocks n h x) y
unfolding blocks
blocks-join zero k h [] y l = ap (λ (j : ℕ). blocks j h y) (zero-add k)
blocks-join zero k h (b ∷ x) y l = absurd (omega (arith, l))
blocks-join (suc n) k h x y l =
    ap (λ (j : ℕ). blocks j h (x ++ y)) (suc-add n k)
    ∙ ap₂ (λ (b r : List ℕ). blocks (n + k) (compress h b) r) (take-append-le 64 x y (omega arith)) (drop-append-le 64 x y (omega arith))
    ∙ blocks-join n k (compress h (take 64 x)) (drop 64 x) y (omega (arith, length-drop 64 x))

-- ---- sha256: the whole blocks of the message, and then what is left of it with the padding
pub sha256-parts : (m : List ℕ)
    → sha256 m
    ≡ digest
    (blocks ((length m % 64 + padding_bytes (length m)) / 64) (blocks (length m / 64) H⁰ (take (length m / 64 * 64) m))
    (drop (length m / 64 * 64) m ++ padding (length m)))
unfolding sha256 pad
sha256-parts m =
    ap digest
    (ap₂ (λ (n : ℕ) (s : List ℕ). blocks n H⁰ s) number cut
    ∙ blocks-join (length m / 64) ((length m % 64 + padding_bytes (length m)) / 64) H⁰ (take (length m / 64 * 64) m) (drop (length m / 64 * 64) m ++ padding (length m))
    (length-take-le (length m / 64 * 64) m (omega arith)))
  where
    number : length (m ++ padding (length m)) / 64 ≡ length m / 64 + (length m % 64 + padding_bytes (length m)) / 64
    number = omega (arith, length-append m (padding (length m)), length-padding (length m))

    cut : m ++ padding (length m) ≡ take (length m / 64 * 64) m ++ (drop (length m / 64 * 64) m ++ padding (length m))
    cut =
        ap (λ (s : List ℕ). s ++ padding (length m)) (sym (take-append-drop (length m / 64 * 64) m))
        ∙ append_assoc (take (length m / 64 * 64) m) (drop (length m / 64 * 64) m) (padding (length m))

-- ---- digest: 4 bytes a word; so a digest of SHA-256 has 32 bytes
length-digest : (h : List ℕ) → length (digest h) ≡ 4 * length h
length-digest [] = omega arith
length-digest (x ∷ h) = omega (arith, length-append (big_endian 4 x) (digest h), length-digest h)

length-blocks : (n : ℕ) (h m : List ℕ) → length h ≡ 8 → length (blocks n h m) ≡ 8
unfolding blocks compress
length-blocks zero h m l = l
length-blocks (suc n) h m l = length-blocks n (compress h (take 64 m)) (drop 64 m) refl

pub length-sha256 : (m : List ℕ) → length (sha256 m) ≡ 32
unfolding sha256 H⁰
length-sha256 m = length-digest (blocks (length (pad m) / 64) H⁰ (pad m)) ∙ ap (λ (k : ℕ). 4 * k) (length-blocks (length (pad m) / 64) H⁰ (pad m) refl)

bytes-digest : (h : List ℕ) → Bytes (digest h)
bytes-digest [] = tt
bytes-digest (x ∷ h) = bytes-append (big_endian 4 x) (digest h) (bytes-tabulate 4 (λ i. x / 256 ^ (4 - 1 - i) % 256) (λ i. omega arith)) (bytes-digest h)

pub bytes-sha256 : (m : List ℕ) → Bytes (sha256 m)
unfolding sha256
bytes-sha256 m = bytes-digest (blocks (length (pad m) / 64) H⁰ (pad m))
