-- Bytes put into a list as far as it goes: cut to what fits, they are written over it.
-- Every place and length is in bytes.
-- Assumes nothing.
use mathlib.Core.Path.{◌≡◌, sym, ap, ap₂, ◌∙◌}
use mathlib.Core.List.{List, ◌++◌, append-nil}
use Prim.Native.Nat.{ℕ, ◌+◌, ◌-◌, ◌≤◌, ◌<◌, min}
use native.Mathlib.Nat.{min-eq_left, min-eq_right}
use native.Mathlib.Decide.{dec_lt}
use native.Mathlib.Omega.{arith}
use lib.ListN.{length, take, drop, length-append, drop_of_length-le}
use lib.Seq.{take_all, take-length, take-append-le, take-append-add, length-take-le}
use Rattle.octets.specs.Bytes.{overwrite}
use Rattle.octets.proofs.Lists.{length-overwrite}

-- what is put goes to the end of the list, or beyond
over : (d s rest : List ℕ) (a : ℕ) → a ≤ length d → length d - a ≤ length s
    → overwrite d a (take (length d - a) s) ≡ take (length d) (take a d ++ s ++ rest)
over d s rest a h g =
    ap (λ (r : List ℕ). take a d ++ take (length d - a) s ++ r) (drop_of_length-le d {i = a + length (take (length d - a) s)} (omega (arith, cut)))
    ∙ append-nil (take a d ++ take (length d - a) s)
    ∙ sym (take-append-add (take a d) s (length d - a))
    ∙ ap (λ (n : ℕ). take n (take a d ++ s)) {x = length (take a d) + (length d - a)} {y = length d} (omega (arith, head))
    ∙ sym (take-append-le (length d) (take a d ++ s) rest (omega (arith, length-append (take a d) s, head)))
  where
    cut : length (take (length d - a) s) ≡ length d - a
    cut = length-take-le (length d - a) s g

    head : length (take a d) ≡ a
    head = length-take-le a d h

pub placed : (d s : List ℕ) (at : ℕ) {a n : ℕ} → a ≡ min at (length d) → n ≡ min (length s) (length d - a)
    → overwrite d a (take n s) ≡ take (length d) (overwrite d at s)
placed d s at {a} {n} e f = elim (dec_lt (length d) at) [ yes p ↦ beyond p | no p ↦ within (omega arith) ]
  where
    rest : List ℕ
    rest = drop (at + length s) d

    move : {k m : ℕ} → a ≡ k → n ≡ m → overwrite d a (take n s) ≡ overwrite d k (take m s)
    move p q = ap₂ (λ (i j : ℕ). overwrite d i (take j s)) p q

    beyond : length d < at → overwrite d a (take n s) ≡ take (length d) (overwrite d at s)
    beyond h =
        move at_end (f ∙ ap (λ (i : ℕ). min (length s) (length d - i)) at_end ∙ min-eq_right (omega arith))
        ∙ over d s rest (length d) (omega arith) (omega arith)
        ∙ ap (λ (r : List ℕ). take (length d) (r ++ s ++ rest)) (take-length d ∙ sym (take_all at d (omega arith)))
      where
        at_end : a ≡ length d
        at_end = e ∙ min-eq_right (omega arith)

    within : at ≤ length d → overwrite d a (take n s) ≡ take (length d) (overwrite d at s)
    within h =
        elim (dec_lt (length d) (at + length s)) [
          | yes q ↦ move here (f ∙ ap (λ (i : ℕ). min (length s) (length d - i)) here ∙ min-eq_right (omega arith)) ∙ over d s rest at h (omega arith)
          | no q ↦
              move here (f ∙ min-eq_left (omega (arith, here)))
              ∙ ap (overwrite d at) (take-length s)
              ∙ sym (take_all (length d) (overwrite d at s) (omega (arith, length-overwrite d at s (omega arith))))
        ]
      where
        here : a ≡ at
        here = e ∙ min-eq_left h
