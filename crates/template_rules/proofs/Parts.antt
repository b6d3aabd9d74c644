-- A part of a list from a place to the list's end, as a function is lent it.
-- Assumes nothing.
use mathlib.Core.Path.{◌≡◌}
use mathlib.Core.List.{List}
use Prim.Native.Nat.{ℕ, ◌-◌}
use native.Mathlib.Omega.{arith}
use lib.ListN.{length, take, drop, length-drop}
use lib.Seq.{take_all}

pub part-from : (k : ℕ) (s : List ℕ) → take (length s - k) (drop k s) ≡ drop k s
part-from k s = take_all (length s - k) (drop k s) (simp length-drop (omega arith))

pub length-part-from : (k : ℕ) (s : List ℕ) → length (take (length s - k) (drop k s)) ≡ length s - k
length-part-from k s = rw part-from (length-drop k s)
