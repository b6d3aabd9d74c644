-- A card of the types' shape whose parts are blank is the fresh card, part by part. Assumes nothing.
use mathlib.Core.Path.{◌≡◌, refl, ap, ap₂, ◌∙◌}
use mathlib.Core.Bool.{true, not, ◌||◌}
use mathlib.Core.List.{List, [], ◌∷◌}
use Prim.Native.Nat.{ℕ}
use native.Mathlib.Omega.{arith}
use lib.Dec.{leb}
use lib.ListN.{length, replicate}
use borrow.Author.Tests.{eqb-true, leb-true, eq-eqb}
use Rattle.card.specs.declared.Slot.{Slot}
use Rattle.card.specs.declared.Path.{Path}
use Rattle.card.specs.declared.Keys.{Keys}
use Rattle.card.specs.declared.Pins.{Pins}
use Rattle.card.specs.declared.Pairing.{Pairing}
use Rattle.card.specs.declared.Tap.{Tap}
use Rattle.card.specs.Sizes.{pin_bytes, puk_bytes, key_bytes, path_most_bytes, tap_most_bytes, slot_count}
use Rattle.card.specs.State.{zeros, free_slot, unverified, not_pending, no_pins, no_pairing, no_keys, empty_path, no_tap}
use Rattle.card.specs.Shape.{KeysLong}
use Rattle.card.specs.Slots.{all_of, is_zero, all_zero, is_free, slot_within}
use Rattle.card.specs.Sound.{pins_blank, pairing_blank, keys_blank, tap_blank}
use Rattle.card.proofs.Tests.{both, implied, zero-list}
use Rattle.card.proofs.Rules.{keys-blank}

zero-bytes : (s : List ℕ) (n : ℕ) → length s ≡ n → all_zero s ≡ true → s ≡ zeros n
zero-bytes s n l e = zero-list s e ∙ ap zeros l

-- ---- pins_blank
pub pins-none : (p : Pins) → length p.pin ≡ pin_bytes → length p.puk ≡ puk_bytes → pins_blank p ≡ true → unverified p ≡ no_pins
pins-none p l m e =
    let v = both _ _ e in
    let a = both _ _ v.0 in
    let s = both _ _ a.0 in
    let t = both _ _ a.1 in
    ap₂ {C = Pins}
    (λ (x y : List ℕ). record { pin = x; puk = y; pin_tries = p.pin_tries; puk_tries = p.puk_tries; verified = 0 })
    (zero-bytes p.pin pin_bytes l s.0) (zero-bytes p.puk puk_bytes m s.1)
    ∙ ap₂ {C = Pins}
    (λ (x y : ℕ). record { pin = zeros pin_bytes; puk = zeros puk_bytes; pin_tries = x; puk_tries = y; verified = 0 })
    (eqb-true p.pin_tries 0 t.0) (eqb-true p.puk_tries 0 t.1)

-- ---- pairing_blank
slot-none : (s : Slot) → length s.key ≡ key_bytes → slot_within 0 s ≡ true → s ≡ free_slot
slot-none s l e =
    let h = both (leb s.filled 0) (not (is_free s) || all_zero s.key) e in
    let z : s.filled ≡ 0 = omega (arith, leb-true s.filled 0 h.0) in
    ap₂ {C = Slot} (λ (f : ℕ) (k : List ℕ). record { filled = f; key = k })
    z (zero-bytes s.key key_bytes l (implied (is_free s) (all_zero s.key) (eq-eqb s.filled 0 z) h.1))

slots-none : (s : List Slot) → KeysLong s → all_of (slot_within 0) s ≡ true → s ≡ replicate (length s) free_slot
unfolding all_of
slots-none [] l e = refl
slots-none (x ∷ s) l e =
    let h = both (slot_within 0 x) (all_of (slot_within 0) s) e in
    ap₂ {C = List Slot} (λ (y : Slot) (r : List Slot). y ∷ r) (slot-none x l.0 h.0) (slots-none s l.1 h.1)

pub pairing-none : (p : Pairing) → length p.secret ≡ key_bytes → length p.slots ≡ slot_count → KeysLong p.slots
    → pairing_blank p ≡ true → not_pending p ≡ no_pairing
pairing-none p l m k e =
    let a = both _ _ e in
    let b = both _ _ a.0 in
    let s = both (all_zero p.secret) (all_of (slot_within 0) p.slots) b.0 in
    ap₂ {C = Pairing} (λ (x : List ℕ) (t : List Slot). record { secret = x; slots = t; pending = 0; expected = zeros key_bytes })
    (zero-bytes p.secret key_bytes l s.0)
    (slots-none p.slots k s.1 ∙ ap (λ (n : ℕ). replicate n free_slot) m)

-- ---- keys_blank
path-none : (p : Path) → length p.bytes ≡ path_most_bytes → p.len ≡ 0 → all_zero p.bytes ≡ true → p ≡ empty_path
path-none p l n e = ap₂ {C = Path} (λ (k : ℕ) (b : List ℕ). record { len = k; bytes = b }) n (zero-bytes p.bytes path_most_bytes l e)

pub keys_none : (k : Keys) → length k.uid ≡ key_bytes → length k.current.bytes ≡ path_most_bytes → length k.pinless.bytes ≡ path_most_bytes
    → keys_blank k ≡ true → k ≡ no_keys
keys_none k l m n e =
    let b = keys-blank k e in
    ap₂ {C = Keys} (λ (i : ℕ) (u : List ℕ). record { kind = i; uid = u; current = k.current; pinless = k.pinless })
    b.kind (zero-bytes k.uid key_bytes l b.uid)
    ∙ ap₂ {C = Keys} (λ (p q : Path). record { kind = 0; uid = zeros key_bytes; current = p; pinless = q })
    (path-none k.current m b.current b.currentbytes)
    (path-none k.pinless n b.pinless b.pinlessbytes)

-- ---- tap_blank
pub tap-none : (t : Tap) → length t.bytes ≡ tap_most_bytes → t.len ≡ 0 → all_zero t.bytes ≡ true → t ≡ no_tap
tap-none t l n e = ap₂ {C = Tap} (λ (k : ℕ) (b : List ℕ). record { len = k; bytes = b }) n (zero-bytes t.bytes tap_most_bytes l e)

pub tap-blank : (t : Tap) → length t.bytes ≡ tap_most_bytes → tap_blank t ≡ true → t ≡ no_tap
tap-blank t l e =
    let h = both (is_zero t.len) (all_zero t.bytes) e in
    tap-none t l (eqb-true t.len 0 h.0) h.1
