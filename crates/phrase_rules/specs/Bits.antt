-- The bits of numbers, high bit first, and numbers read from bits again (RULES 7.12). A bit is 0 or 1; every width w and every length here is in bits.
use Rattle.std.specs.Prelude.{List, [], ◌∷◌, ◌++◌, ℕ, zero, suc, ◌+◌, ◌*◌, ◌/◌, ◌%◌, take, drop}

-- the w bits of a number, high bit first: those of its half, and after them the lowest
unfoldable pub bits_of : ℕ → ℕ → List ℕ
bits_of zero x = []
bits_of (suc w) x = bits_of w (x / 2) ++ (x % 2 ∷ [])

-- the bits of numbers of w bits each, one after the other
unfoldable pub bits : ℕ → List ℕ → List ℕ
bits w [] = []
bits w (x ∷ s) = bits_of w x ++ bits w s

-- the number that these bits are, high bit first; x is what the bits before them are
unfoldable pub read_on : ℕ → List ℕ → ℕ
read_on x [] = x
read_on x (b ∷ s) = read_on (2 * x + b) s

unfoldable pub number : List ℕ → ℕ
number s = read_on 0 s

-- bits cut into k numbers of w bits each
unfoldable pub cut : ℕ → ℕ → List ℕ → List ℕ
cut w zero s = []
cut w (suc k) s = number (take w s) ∷ cut w k (drop w s)
