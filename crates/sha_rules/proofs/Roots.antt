-- The constants and the initial hash value are what the standard's rule gives. Each fact is one test that the checker computes over the whole
-- table, carried to each entry by a law.
-- Assumes nothing.
use mathlib.Core.Path.{◌≡◌, refl}
use mathlib.Core.Bool.{Bool, cond, ◌&&◌}
use mathlib.Core.List.{List}
use Prim.Native.Nat.{ℕ, zero, suc, ◌+◌, ◌*◌, ◌^◌, ◌<◌}
use lib.Dec.{T, ltb, leb, ltb→lt, leb→le}
use lib.ListN.{get_or, length}
use Rattle.octets.proofs.Table.{and_left, and_right, all_below, each_below}
use Rattle.sha_rules.specs.Constants.{K, H⁰, FirstBits, primes_below, primes}

-- ---- the number of entries
pub primes-number : length primes ≡ 64
unfolding primes primes_below
primes-number = refl

pub K-number : length K ≡ 64
unfolding K
K-number = refl

pub H-number : length H⁰ ≡ 8
unfolding H⁰
H-number = refl

-- ---- the rule as a test. `root n p w` is the whole part of the root of p of degree n, where that is at most w
abbrev root : ℕ → ℕ → ℕ → ℕ
root n p zero = 0
root n p (suc w) = cond (leb (suc w ^ n) p) (suc w) (root n p w)

abbrev is_below : ℕ → ℕ → ℕ → ℕ → Bool
is_below n p k w = leb ((w * 2 ^ 32 + k) ^ n) (p * 2 ^ (32 * n))

abbrev is_above : ℕ → ℕ → ℕ → ℕ → Bool
is_above n p k w = ltb (p * 2 ^ (32 * n)) ((w * 2 ^ 32 + k + 1) ^ n)

abbrev is_first_bits : ℕ → ℕ → ℕ → Bool
is_first_bits n p k = ltb k (2 ^ 32) && (is_below n p k (root n p 17) && is_above n p k (root n p 17))

first-bits : (n p k : ℕ) → T (is_first_bits n p k) → FirstBits n p k
first-bits n p k t =
    let w : ℕ = root n p 17 in
    let both : T (is_below n p k w && is_above n p k w) = and_right (ltb k (2 ^ 32)) (is_below n p k w && is_above n p k w) t in
    record {
      whole = w;
      word = ltb→lt k (2 ^ 32) (and_left (ltb k (2 ^ 32)) (is_below n p k w && is_above n p k w) t);
      below = leb→le ((w * 2 ^ 32 + k) ^ n) (p * 2 ^ (32 * n)) (and_left (is_below n p k w) (is_above n p k w) both);
      above = ltb→lt (p * 2 ^ (32 * n)) ((w * 2 ^ 32 + k + 1) ^ n) (and_right (is_below n p k w) (is_above n p k w) both);
    }

each : (n : ℕ) (ks : List ℕ) (m : ℕ) → T (all_below (λ t. is_first_bits n (get_or primes t 0) (get_or ks t 0)) m) → (t : ℕ) → t < m
    → FirstBits n (get_or primes t 0) (get_or ks t 0)
each n ks m a t h =
    first-bits n (get_or primes t 0) (get_or ks t 0) (each_below (λ t. is_first_bits n (get_or primes t 0) (get_or ks t 0)) m a t h)

-- ---- K is of cube roots, H⁰ of square roots
pub K-rule : (t : ℕ) → t < 64 → FirstBits 3 (get_or primes t 0) (get_or K t 0)
unfolding K primes primes_below
K-rule = each 3 K 64 tt

pub H-rule : (t : ℕ) → t < 8 → FirstBits 2 (get_or primes t 0) (get_or H⁰ t 0)
unfolding H⁰ primes primes_below
H-rule = each 2 H⁰ 8 tt
