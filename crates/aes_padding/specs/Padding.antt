-- Padding to whole blocks of 16 bytes: ISO/IEC 9797-1, padding method 2 (RULES 7.5). Lengths are in bytes.
use Rattle.std.specs.Prelude.{ℕ, zero, suc, ◌+◌, ◌-◌, ◌%◌, ◌<◌, ◌≡◌, Bool, true, false, List, ◌∷◌, ◌++◌, length, take, replicate}
use Rattle.std.proofs.Math.Option.{Option, none, some}
use Rattle.octets.specs.Bytes.{same_bytes}
use Rattle.std.specs.Prelude as rust
use Rattle.std.specs.Prelude.{MatchOption, slice_index}

-- the length of n bytes when they are padded
unfoldable pub padded_bytes : ℕ → ℕ
padded_bytes n = n + (16 - n % 16)

-- 80, then as many 00 as reach the end of a block
unfoldable pub pad : List ℕ → List ℕ
pad xs = xs ++ (0x80 ∷ replicate (15 - length xs % 16) 0x00)

-- unpadding takes exactly what padding adds, which is 1 to 16 bytes: the bytes whose padding ys is, or none. `unpad_from n` looks for 1 to n
-- bytes of padding
abbrev pub pick : Bool → List ℕ → Option (List ℕ) → Option (List ℕ)
pick true xs other = some xs
pick false xs other = other

abbrev pub unpad_from : ℕ → List ℕ → Option (List ℕ)
unpad_from zero ys = none
unpad_from (suc n) ys =
    pick (same_bytes (pad (take (length ys - suc n) ys)) ys) (take (length ys - suc n) ys) (unpad_from n ys)

unfoldable pub unpad : List ℕ → Option (List ℕ)
unpad ys = unpad_from 16 ys

-- what the code answers: how many bytes the data has, or that there is none
abbrev pub answer : Option (List ℕ) → rust.Option ℕ
answer (some xs) = rust.Some (length xs)
answer none = rust.None

-- the place of the last byte that is not zero; where there is none, all are
abbrev pub LastNonzero : List ℕ → rust.Option ℕ → Type 0
LastNonzero s r =
    MatchOption r ((k : ℕ) → k < length s → slice_index s k ≡ 0)
    (λ i. (i < length s) × (slice_index s i ≡ 0 → ⊥) × ((k : ℕ) → i < k → k < length s → slice_index s k ≡ 0))
