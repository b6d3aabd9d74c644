-- A list of n elements of which each was seen to be a byte is a list of n bytes.
-- Assumes nothing.
use mathlib.Core.Path.{◌≡◌}
use mathlib.Core.List.{List}
use Prim.Native.Nat.{ℕ, ◌<◌, ◌≤◌}
use native.Mathlib.Omega.{arith}
use lib.ListN.{length, get_or}
use Rattle.octets.specs.Bytes.{Bytes}
use Rattle.octets.proofs.Lists.{bytes_of}

-- the first i elements are bytes
abbrev pub Seen : List ℕ → ℕ → Type 0
Seen s i = (j : ℕ) → j < i → get_or s j 0 < 256

pub all_seen : (s : List ℕ) (n i : ℕ) → length s ≡ n → n ≤ i → Seen s i → Bytes s
all_seen s n i l h f = bytes_of s (λ j p. f j (omega arith))
