-- A line's end: the line itself, and what is left of an end when bytes in front go. The word at its start, by its length.
-- Assumes nothing.
use mathlib.Core.Path.{◌≡◌, sym, ap, ◌∙◌}
use mathlib.Core.List.{List}
use Prim.Native.Nat.{ℕ, ◌-◌}
use native.Mathlib.Omega.{arith}
use native.Mathlib.Decide.{dec_le}
use lib.ListN.{length, take, drop}
use Rattle.std.proofs.Math.ListN.{drop_of_length-le}
use Rattle.std.proofs.lemmas.List.{length-drop, drop-drop, length-take, take_min}
use Rattle.text_words.specs.Words.{IsEnd}

pub end-whole : (s : List ℕ) → IsEnd s s
end-whole s = (omega arith, sym (ap (λ (n : ℕ). drop n s) none)) where
  none : length s - length s ≡ 0
  none = omega arith

pub end-drop : (s r : List ℕ) (m : ℕ) → IsEnd s r → IsEnd s (drop m r)
end-drop s r m e =
    let l : length (drop m r) ≡ length r - m = length-drop m r in (
      omega (arith, l, e.0),
      elim (dec_le m (length r)) [
        | yes p ↦
            ap (drop m) e.1 ∙ drop-drop m (length s - length r) s
            ∙ ap (λ (n : ℕ). drop n s) (omega (arith, l, e.0, p))
        | no q ↦
            drop_of_length-le r (omega (arith, q))
            ∙ sym (drop_of_length-le s (omega (arith, l, q)))
      ],
    )

pub word-long : (n : ℕ) (r : List ℕ) → take (length (take n r)) r ≡ take n r
word-long n r = ap (λ (k : ℕ). take k r) (length-take n r) ∙ take_min n r
