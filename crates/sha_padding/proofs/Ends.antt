-- The end of a message with the padding behind it: zeros, over which the end, the byte 80 and the length are written.
-- Assumes nothing.
use mathlib.Core.Path.{◌≡◌, refl, sym, ap, ap₂, ◌∙◌}
use mathlib.Core.List.{List, ◌∷◌, ◌++◌, append_assoc}
use Prim.Native.Nat.{ℕ, zero, suc, ◌+◌, ◌-◌, ◌%◌, ◌≤◌}
use native.Mathlib.Nat.{sub-zero}
use native.Mathlib.Omega.{arith}
use lib.ListN.{length, take, drop, set, replicate, length-append, length-replicate}
use lib.Seq.{set_at, take-append-add}
use Rattle.octets.specs.Bytes.{overwrite}
use Rattle.octets.proofs.Lists.{take-overwrite}
use Rattle.sha_rules.specs.Padding.{zero_bytes, padding_bytes, big_endian, length_in_bits, padding}

abbrev zeros : ℕ → List ℕ
zeros n = replicate n 0

drop-zeros : (n k : ℕ) → drop n (zeros k) ≡ zeros (k - n)
drop-zeros zero k = ap zeros (sym (sub-zero k))
drop-zeros (suc n) zero = let e : 0 ≡ 0 - suc n = omega arith in ap zeros e
drop-zeros (suc n) (suc k) = let e : k - n ≡ suc k - suc n = omega arith in drop-zeros n k ∙ ap zeros e

take-zeros : (n k : ℕ) → n ≤ k → take n (zeros k) ≡ zeros n
take-zeros zero k h = refl
take-zeros (suc n) zero h = absurd (omega arith)
take-zeros (suc n) (suc k) h = ap {B = List ℕ} (λ s. 0 ∷ s) (take-zeros n k (omega arith))

module _ (rest : List ℕ) (l : ℕ) (long : length rest ≡ l % 64) where
  -- the buffer with the message's end and the byte 80 in it
  marked : set (overwrite (zeros 128) 0 rest) (length rest) 0x80 ≡ rest ++ 0x80 ∷ zeros (127 - length rest)
  marked =
      ap (λ (z : List ℕ). set (rest ++ z) (length rest) 0x80) behind ∙ set_at rest 0 (zeros (127 - length rest)) 0x80 (length rest) refl
    where
      behind : drop (0 + length rest) (zeros 128) ≡ 0 ∷ zeros (127 - length rest)
      behind =
          let n : 128 - (0 + length rest) ≡ suc (127 - length rest) = omega arith in
          drop-zeros (0 + length rest) 128 ∙ ap zeros n

  -- as far as the length is written
  front : take (length rest + suc (zero_bytes l)) (rest ++ 0x80 ∷ zeros (127 - length rest)) ≡ rest ++ 0x80 ∷ zeros (zero_bytes l)
  front =
      take-append-add rest (0x80 ∷ zeros (127 - length rest)) (suc (zero_bytes l))
      ∙ ap (λ (z : List ℕ). rest ++ 0x80 ∷ z) (take-zeros (zero_bytes l) (127 - length rest) (omega arith))

  pub written : (e f : List ℕ) (at : ℕ) → at + 8 ≡ l % 64 + padding_bytes l
      → e ≡ set (overwrite (zeros 128) 0 rest) (length rest) 0x80 → f ≡ big_endian 8 (length_in_bits l)
      → take ((l % 64 + padding_bytes l)) (overwrite e at f) ≡ rest ++ padding l
  unfolding padding
  written e f at ea ee ef =
      ap (λ (k : ℕ). take k (overwrite e at f)) whole
      ∙ take-overwrite e at f (omega (arith, eight, room))
      ∙ ap₂ (λ (x y : List ℕ). x ++ y) (ap₂ take upto (ee ∙ marked) ∙ front) ef
      ∙ append_assoc rest (0x80 ∷ zeros (zero_bytes l)) (big_endian 8 (length_in_bits l))
    where
      eight : length f ≡ 8
      eight = ap length ef

      room : length e ≡ 128
      room =
          ap length (ee ∙ marked)
          ∙ omega (arith, length-append rest (0x80 ∷ zeros (127 - length rest)), length-replicate {A = ℕ} (127 - length rest) 0)

      whole : l % 64 + padding_bytes l ≡ at + length f
      whole = omega (arith, eight)

      upto : at ≡ length rest + suc (zero_bytes l)
      upto = omega arith
