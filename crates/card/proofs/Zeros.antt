-- Zeros: they pass the test; some of them dropped leave the others; and bytes written over the first of them. Every length is in bytes.
-- Assumes nothing.
use mathlib.Core.Path.{◌≡◌, refl, sym, ap, ◌∙◌}
use mathlib.Core.Bool.{true}
use mathlib.Core.List.{List, ◌++◌}
use Prim.Native.Nat.{ℕ, zero, suc, ◌-◌}
use native.Mathlib.Nat.{sub-zero, zero-sub, suc-sub-suc}
use lib.ListN.{length, drop}
use Rattle.octets.specs.Bytes.{overwrite}
use Rattle.octets.proofs.Lists.{overwrite-start}
use Rattle.card.specs.State.{zeros}
use Rattle.card.specs.Slots.{all_of, all_zero}

pub zeros-zero : (n : ℕ) → all_zero (zeros n) ≡ true
unfolding all_of
zeros-zero zero = refl
zeros-zero (suc n) = zeros-zero n

pub zeros-left : (n m : ℕ) → drop m (zeros n) ≡ zeros (n - m)
zeros-left n zero = ap zeros (sym (sub-zero n))
zeros-left zero (suc m) = ap zeros (sym (zero-sub (suc m)))
zeros-left (suc n) (suc m) = zeros-left n m ∙ ap zeros (sym (suc-sub-suc n m))

pub zeros-under : (n : ℕ) (d b : List ℕ) → b ≡ overwrite (zeros n) 0 d → b ≡ d ++ zeros (n - length d)
zeros-under n d b e = e ∙ overwrite-start (zeros n) d ∙ ap (λ (x : List ℕ). d ++ x) (zeros-left n (length d))
