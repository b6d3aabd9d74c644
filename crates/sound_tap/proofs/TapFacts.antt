-- `is_ndef` and `tap_sound` as the code answers them, past the test of the length: from what the calls give. Every length is in bytes.
-- Assumes nothing.
use mathlib.Core.Path.{◌≡◌}
use mathlib.Core.Bool.{Bool, false, ◌&&◌, ◌||◌}
use mathlib.Core.List.{List}
use Prim.Native.Nat.{ℕ, ◌+◌, ◌*◌, ◌-◌, ◌<◌, ◌≤◌}
use lib.ListN.{length, take, drop, get_or}
use lib.Dec.{leb, eqb}
use borrow.Author.Tests.{le-leb, lt-leb}
use Rattle.card.specs.declared.Tap.{Tap}
use Rattle.card.specs.Sizes.{tap_most_bytes}
use Rattle.card.specs.Slots.{is_zero, all_zero}
use Rattle.card.specs.Sound.{is_ndef, tap_sound}

-- ---- is_ndef
pub ndef-short : (s : List ℕ) → length s < 2 → false ≡ is_ndef s
ndef-short s short = rw (lt-leb 2 _ short)

pub ndef-told :
    (s : List ℕ) (told others : ℕ)
    → 2 ≤ length s
    → told ≡ get_or s 0 0 * 256 + get_or s 1 0
    → others ≡ length s - 2
    → (leb (length s) tap_most_bytes && eqb told others) ≡ is_ndef s
ndef-told s told others long t o = rw (t, o, le-leb 2 _ long)

-- ---- tap_sound: `n` is the length as the code has it
pub tap-long : (t : Tap) (n : ℕ) → n ≡ t.len → tap_most_bytes < n → false ≡ tap_sound t
tap-long t n e long = rw (lt-leb t.len tap_most_bytes (rw e at long))

pub tap-within :
    (t : Tap) (n : ℕ) (clear ndef : Bool)
    → n ≡ t.len
    → n ≤ tap_most_bytes
    → clear ≡ all_zero (drop n t.bytes)
    → ndef ≡ is_ndef (take n t.bytes)
    → (clear && (is_zero t.len || ndef)) ≡ tap_sound t
tap-within t n clear ndef e within z d = rw (z, d, e, le-leb t.len tap_most_bytes (rw e at within))
