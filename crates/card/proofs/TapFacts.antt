-- The tap record: that of a blank card is sound; the one that SET NDEF stores is sound, fills its room, and its bytes in use are the data.
-- Every length is in bytes.
-- Assumes nothing.
use mathlib.Core.Path.{◌≡◌, refl}
use mathlib.Core.Bool.{true}
use mathlib.Core.List.{List}
use Prim.Native.Nat.{ℕ, ◌+◌, ◌*◌, ◌-◌, ◌≤◌}
use native.Mathlib.Omega.{arith}
use lib.Dec.{leb, eqb}
use lib.ListN.{length, get_or, length-append, length-replicate}
use lib.Seq.{drop_at, take_at}
use borrow.Author.Tests.{leb-true, eqb-true}
use Rattle.card.specs.declared.Tap.{Tap}
use Rattle.card.specs.Sizes.{tap_most_bytes}
use Rattle.card.specs.State.{zeros, tap_bytes, tap_of}
use Rattle.card.specs.Slots.{is_zero, all_zero}
use Rattle.card.specs.Sound.{is_ndef, tap_sound, tap_blank}
use Rattle.card.proofs.Tests.{both, or_right}
use Rattle.card.proofs.Zeros.{zeros-zero}
use Rattle.card.proofs.Rules.{TapRules, tap-sound}

-- ---- is_ndef
pub record NdefRules (s : List ℕ) : Type 0 where
  pub least : leb 2 (length s) ≡ true
  pub most : leb (length s) tap_most_bytes ≡ true
  pub told : eqb (get_or s 0 0 * 256 + get_or s 1 0) (length s - 2) ≡ true

pub ndef-rules : (s : List ℕ) → is_ndef s ≡ true → NdefRules s
ndef-rules s e =
    let l = both _ (eqb (get_or s 0 0 * 256 + get_or s 1 0) (length s - 2)) e in
    let b = both (leb 2 (length s)) (leb (length s) tap_most_bytes) l.0 in
    record { least = b.0; most = b.1; told = l.1 }

pub ndef-length : (s : List ℕ) → is_ndef s ≡ true → length s ≤ tap_most_bytes
ndef-length s e = leb-true _ _ (ndef-rules s e).most

-- ---- tap_blank: before INIT there is none, and none is sound
pub tap-blank-sound : (t : Tap) → tap_blank t ≡ true → tap_sound t ≡ true
tap-blank-sound t e =
    let h = both (is_zero t.len) (all_zero t.bytes) e in
    let z = eqb-true t.len 0 h.0 in
    tap-sound t (record { most = rw z; unused = rw z h.1; ndef = rw z })

-- ---- tap_of
pub tap-of-data : (d : List ℕ) → tap_bytes (tap_of d) ≡ d
tap-of-data d = take_at d (zeros (tap_most_bytes - length d)) (length d) refl

module _ (d : List ℕ) (e : is_ndef d ≡ true) where
  pub tap-of-rules : TapRules (tap_of d)
  tap-of-rules = record {
    most = (ndef-rules d e).most;
    unused = rw (drop_at d (zeros (tap_most_bytes - length d)) (length d) refl) (zeros-zero (tap_most_bytes - length d));
    ndef = or_right (is_zero (length d)) (is_ndef (tap_bytes (tap_of d))) (rw (tap-of-data d) e);
  }

  pub tap-of-sound : tap_sound (tap_of d) ≡ true
  tap-of-sound = tap-sound (tap_of d) tap-of-rules

  pub tap-of-length : length (tap_of d).bytes ≡ tap_most_bytes
  tap-of-length =
      let l = ndef-length d e in
      simp (length-append, length-replicate) (omega arith)
