-- The table by an example, number by number, and that the slots which are used are those of a sound card that are not free.
-- Assumes nothing.
use mathlib.Core.Path.{◌≡◌, refl}
use mathlib.Core.Bool.{true, not}
use mathlib.Core.List.{List, [], ◌∷◌}
use Prim.Native.Nat.{ℕ, zero, suc, ◌≤◌}
use native.Mathlib.Omega.{arith}
use lib.Dec.{leb, eqb}
use borrow.Author.Tests.{leb-true}
use Rattle.card.specs.declared.Slot.{Slot}
use Rattle.card.specs.declared.Card.{Card}
use Rattle.card.specs.State.{zeros, fresh_of, free_slot, empty_path, with_initialised, with_pins, with_pairing, with_keys}
use Rattle.card.specs.Slots.{is_free, all_zero, slot_within}
use Rattle.card.proofs.Tests.{both}
use Rattle.sound.specs.Reset.{done, refused}
use Rattle.stock_rules.specs.Rows.{used_slots, one_of}

-- ---- an initialised card of kind 2, with one PIN try and four PUK tries left, whose first and third slot are used
abbrev pub used_slot : Slot
used_slot = record { filled = 1; key = zeros 32 }

abbrev pub slots : List Slot
slots = used_slot ∷ free_slot ∷ used_slot ∷ free_slot ∷ free_slot ∷ []

abbrev pub card : Card
card =
    with_keys
    (with_pairing
    (with_pins (with_initialised (fresh_of (zeros 16) (zeros 65)) 1)
    (record { pin = zeros 6; puk = zeros 12; pin_tries = 1; puk_tries = 4; verified = 0 }))
    (record { secret = zeros 32; slots = slots; pending = 0; expected = zeros 32 }))
    (record { kind = 2; uid = zeros 32; current = empty_path; pinless = empty_path })

-- read, not refused, not pre-initialised; kinds 0, 1, 2; tries 0, 1, 2, 3; slots
pub one-card : one_of (done card) ≡ 1 ∷ 0 ∷ 0 ∷ 0 ∷ 0 ∷ 1 ∷ 0 ∷ 1 ∷ 0 ∷ 0 ∷ 2 ∷ []
unfolding used_slots
one-card = refl

-- a card before INIT, and a record that is refused, whatever the card beside it
pub one-fresh : one_of (done (fresh_of (zeros 16) (zeros 65))) ≡ 1 ∷ 0 ∷ 1 ∷ 0 ∷ 0 ∷ 0 ∷ 0 ∷ 0 ∷ 0 ∷ 0 ∷ 0 ∷ []
one-fresh = refl

pub one-refused : (c : Card) → one_of (refused 8 c) ≡ 0 ∷ 1 ∷ 0 ∷ 0 ∷ 0 ∷ 0 ∷ 0 ∷ 0 ∷ 0 ∷ 0 ∷ 0 ∷ []
one-refused c = refl

-- ---- a slot of a sound card is used exactly if it is not free
pub used-not-free : (s : Slot) → slot_within 1 s ≡ true → eqb s.filled 1 ≡ not (is_free s)
used-not-free s e = by_flag s.filled (leb-true s.filled 1 (both (leb s.filled 1) _ e).0)
  where
    by_flag : (n : ℕ) → n ≤ 1 → eqb n 1 ≡ not (eqb n 0)
    by_flag zero h = refl
    by_flag (suc zero) h = refl
    by_flag (suc (suc n)) h = absurd (omega arith)
