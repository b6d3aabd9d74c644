-- The shape of slots that are all alike, however many there are, and of the fresh card. Assumes nothing.
use mathlib.Core.Path.{◌≡◌, refl, ap}
use mathlib.Core.List.{List}
use Prim.Native.Nat.{ℕ, zero, suc}
use lib.ListN.{length, replicate}
use Rattle.card.specs.declared.Slot.{Slot}
use Rattle.card.specs.Sizes.{uid_bytes, public_key_bytes, key_bytes}
use Rattle.card.specs.State.{fresh_of, free_slot, slot_count}
use Rattle.card.specs.Shape.{KeysLong, Shaped}

-- ---- KeysLong
pub keys-long-replicate : (n : ℕ) (s : Slot) → length s.key ≡ key_bytes → KeysLong (replicate n s)
keys-long-replicate zero s e = tt
keys-long-replicate (suc n) s e = (e, keys-long-replicate n s e)

-- ---- Shaped: the fresh card, whatever the number of slots
pub fresh-shape : (uid key : List ℕ) → length uid ≡ uid_bytes → length key ≡ public_key_bytes → Shaped (fresh_of uid key)
fresh-shape uid key u k = record {
  uid = u;
  public_key = k;
  pin = refl;
  puk = refl;
  secret = refl;
  slots = refl;
  keys = keys-long-replicate slot_count free_slot refl;
  expected = refl;
  keyuid = refl;
  current = refl;
  pinless = refl;
  tap = refl;
}
