-- FIPS 180-4, sections 4.2.2 and 5.3.3: the 64 constants and the eight words of the initial hash value, as tables, and the rule that the
-- standard gives for both (RULES 7.8), which is why 5.3.3 is ahead of the padding here. That the tables are the rule's is proved in
-- proofs/Roots.antt.
use Rattle.std.specs.Prelude.{Bool, true, false, cond, List, [], ◌∷◌, ◌++◌, ℕ, zero, suc, ◌+◌, ◌*◌, ◌%◌, ◌^◌, ◌≤◌, ◌<◌, eqb}

-- 4.2.2: K
unfoldable pub K : List ℕ
K =
    0x428a2f98 ∷ 0x71374491 ∷ 0xb5c0fbcf ∷ 0xe9b5dba5 ∷ 0x3956c25b ∷ 0x59f111f1 ∷ 0x923f82a4 ∷ 0xab1c5ed5 ∷
    0xd807aa98 ∷ 0x12835b01 ∷ 0x243185be ∷ 0x550c7dc3 ∷ 0x72be5d74 ∷ 0x80deb1fe ∷ 0x9bdc06a7 ∷ 0xc19bf174 ∷
    0xe49b69c1 ∷ 0xefbe4786 ∷ 0x0fc19dc6 ∷ 0x240ca1cc ∷ 0x2de92c6f ∷ 0x4a7484aa ∷ 0x5cb0a9dc ∷ 0x76f988da ∷
    0x983e5152 ∷ 0xa831c66d ∷ 0xb00327c8 ∷ 0xbf597fc7 ∷ 0xc6e00bf3 ∷ 0xd5a79147 ∷ 0x06ca6351 ∷ 0x14292967 ∷
    0x27b70a85 ∷ 0x2e1b2138 ∷ 0x4d2c6dfc ∷ 0x53380d13 ∷ 0x650a7354 ∷ 0x766a0abb ∷ 0x81c2c92e ∷ 0x92722c85 ∷
    0xa2bfe8a1 ∷ 0xa81a664b ∷ 0xc24b8b70 ∷ 0xc76c51a3 ∷ 0xd192e819 ∷ 0xd6990624 ∷ 0xf40e3585 ∷ 0x106aa070 ∷
    0x19a4c116 ∷ 0x1e376c08 ∷ 0x2748774c ∷ 0x34b0bcb5 ∷ 0x391c0cb3 ∷ 0x4ed8aa4a ∷ 0x5b9cca4f ∷ 0x682e6ff3 ∷
    0x748f82ee ∷ 0x78a5636f ∷ 0x84c87814 ∷ 0x8cc70208 ∷ 0x90befffa ∷ 0xa4506ceb ∷ 0xbef9a3f7 ∷ 0xc67178f2 ∷ []

-- 5.3.3: H(0)
unfoldable pub H⁰ : List ℕ
H⁰ =
    0x6a09e667 ∷ 0xbb67ae85 ∷ 0x3c6ef372 ∷ 0xa54ff53a ∷ 0x510e527f ∷ 0x9b05688c ∷ 0x1f83d9ab ∷ 0x5be0cd19 ∷ []

-- k is the first 32 bits of the fractional part of the root of p of degree n: with the whole part of that root before them, in units of 2^32,
-- they are the root times 2^32, rounded down
pub record FirstBits (n p k : ℕ) : Type 0 where
  pub whole : ℕ
  pub word : k < 2 ^ 32
  pub below : (whole * 2 ^ 32 + k) ^ n ≤ p * 2 ^ (32 * n)
  pub above : p * 2 ^ (32 * n) < (whole * 2 ^ 32 + k + 1) ^ n

-- whether n has no divisor from 2 to d + 1; and whether n is prime: it is at least 2, and has no divisor from 2 to n - 1
abbrev pub undivided : ℕ → ℕ → Bool
undivided n zero = true
undivided n (suc d) = cond (eqb (n % suc (suc d)) 0) false (undivided n d)

abbrev pub is_prime : ℕ → Bool
is_prime zero = false
is_prime (suc zero) = false
is_prime (suc (suc d)) = undivided (suc (suc d)) d

-- the primes below n, in order
unfoldable pub primes_below : ℕ → List ℕ
primes_below zero = []
primes_below (suc n) = primes_below n ++ cond (is_prime n) (n ∷ []) []

-- the first 64 primes: those below 312
unfoldable pub primes : List ℕ
primes = primes_below 312
