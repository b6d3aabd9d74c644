-- Lists of bytes: what a byte is, what a block is, and the few operations on lists that every other definition uses.
-- Every length is a number of bytes (RULES 1.2).
use Rattle.std.specs.Prelude.{◌≡◌, Bool, true, false, ◌&&◌, List, [], ◌∷◌, ◌++◌, ℕ, zero, suc, ◌+◌, ◌<◌, eqb, length, take, drop}
use Rattle.std.specs.Int.Bits.{bit_xor}

-- every element of the list is a byte, a number below 256
abbrev pub Bytes : List ℕ → Type 0
Bytes [] = Unit {0}
Bytes (x ∷ s) = (x < 256) × Bytes s

-- a block of AES: 16 bytes
pub record Block (s : List ℕ) : Type 0 where
  pub long : length s ≡ 16
  pub bytes : Bytes s

-- the list of the n elements f 0, f 1, .. f (n - 1)
abbrev pub tabulate : ℕ → (ℕ → ℕ) → List ℕ
tabulate zero f = []
tabulate (suc n) f = f zero ∷ tabulate n (λ k. f (suc k))

-- each byte of s, exclusive-or the byte of t in the same place; where t has ended, the byte of s as it is
abbrev pub xor_bytes : List ℕ → List ℕ → List ℕ
xor_bytes [] t = []
xor_bytes (x ∷ s) [] = x ∷ s
xor_bytes (x ∷ s) (y ∷ t) = bit_xor x y ∷ xor_bytes s t

-- s with t in the place of as many bytes, from the byte number `at` on, counted from 0
abbrev pub overwrite : List ℕ → ℕ → List ℕ → List ℕ
overwrite s at t = take at s ++ t ++ drop (at + length t) s

-- these bytes from the buffer's start, the rest as it was: t, then what s has after as many bytes
abbrev pub written : List ℕ → List ℕ → List ℕ
written t s = t ++ drop (length t) s

-- whether two lists are the same, byte for byte
abbrev pub same_bytes : List ℕ → List ℕ → Bool
same_bytes [] [] = true
same_bytes [] (y ∷ t) = false
same_bytes (x ∷ s) [] = false
same_bytes (x ∷ s) (y ∷ t) = eqb x y && same_bytes s t
