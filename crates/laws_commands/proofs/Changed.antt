-- The parts of a card as the commands change them keep the rules of soundness and the lengths of their arrays.
-- Assumes nothing.
use mathlib.Core.Path.{◌≡◌, refl}
use mathlib.Core.Bool.{Bool, true, ◌&&◌, ◌||◌, not}
use mathlib.Core.List.{List, [], ◌∷◌}
use Prim.Native.Nat.{ℕ, zero, suc, ◌-◌, ◌%◌}
use native.Mathlib.Omega.{arith}
use lib.Dec.{leb, eqb}
use lib.ListN.{length, set, length-append, length-replicate}
use lib.Seq.{drop_at}
use borrow.Author.Tests.{leb-true, le-leb, eqb-true}
use Rattle.card.specs.declared.Pins.{Pins}
use Rattle.card.specs.declared.Slot.{Slot}
use Rattle.card.specs.declared.Pairing.{Pairing}
use Rattle.card.specs.declared.Path.{Path}
use Rattle.card.specs.declared.Keys.{Keys}
use Rattle.card.specs.State.{most_pin_tries, most_puk_tries, zeros, free_slot, empty_path, no_keys, path_of, not_pending}
use Rattle.card.specs.Slots.{all_of, some_of, is_zero, all_zero, is_free, slot_within}
use Rattle.card.specs.Sound.{is_digit, pins_sound, pairing_sound, keys_sound, pairing_blank, keys_blank}
use Rattle.card.specs.Shape.{KeysLong}
use Rattle.card.proofs.Tests.{both, all-mono}
use Rattle.card.proofs.Zeros.{zeros-zero}
use Rattle.card.proofs.Rules.{PinsRules, pins-rules, PairingRules, pairing-rules, PathRules, KeysRules, keys-rules, keys-blank}
use Rattle.rules.specs.declared.KeyForm.{KeyForm}
use Rattle.rules.specs.declared.KeyForm.TheVariants as key
use Rattle.rules.specs.Commands.{is_path, pin_right, pin_wrong, with_pin, with_puk, puk_right, puk_wrong, pending_with, with_slot, filled_with, with_pairing_secret, kind_of, key_with, with_current, with_pinless}
use Rattle.laws_commands.proofs.Parts.{or_right, or_map}

-- ---- slots, one of them set
pub keys-set : (s : List Slot) (i : ℕ) (x : Slot) → KeysLong s → length x.key ≡ 32 → KeysLong (set s i x)
keys-set [] i x h e = h
keys-set (y ∷ s) zero x h e = (e, h.1)
keys-set (y ∷ s) (suc i) x h e = (h.0, keys-set s i x h.1 e)

all_set : (p : Slot → Bool) (s : List Slot) (i : ℕ) (x : Slot) → all_of p s ≡ true → p x ≡ true → all_of p (set s i x) ≡ true
unfolding all_of
all_set p [] i x h e = refl
all_set p (y ∷ s) zero x h e = rw e (both (p y) (all_of p s) h).1
all_set p (y ∷ s) (suc i) x h e =
    let t = both (p y) (all_of p s) h in
    rw t.0 (all_set p s i x t.1 e)

-- a test that was passed by one is passed by one still, where the new one passes it
some-set : (p : Slot → Bool) (s : List Slot) (i : ℕ) (x : Slot) → some_of p s ≡ true → p x ≡ true → some_of p (set s i x) ≡ true
unfolding some_of
some-set p [] i x h e = h
some-set p (y ∷ s) zero x h e = rw e
some-set p (y ∷ s) (suc i) x h e = or_map (p y) (some_of p s) (some_of p (set s i x)) (λ t. some-set p s i x t e) h

-- ---- pins
module _ (p : Pins) (e : pins_sound p ≡ true) where
  pub pin-right : PinsRules (pin_right p)
  pin-right =
      let r = pins-rules p e in
      record { flag = refl; pin = r.pin; puk = r.puk; pintries = refl; puktries = r.puktries; verified = refl }

  pub pin-wrong : PinsRules (pin_wrong p)
  pin-wrong =
      let r = pins-rules p e in
      record {
        flag = refl;
        pin = r.pin;
        puk = r.puk;
        pintries = le-leb (p.pin_tries - 1) most_pin_tries (omega (arith, leb-true p.pin_tries most_pin_tries r.pintries));
        puktries = r.puktries;
        verified = refl;
      }

  pub puk-wrong : PinsRules (puk_wrong p)
  puk-wrong =
      let r = pins-rules p e in
      record {
        flag = r.flag;
        pin = r.pin;
        puk = r.puk;
        pintries = r.pintries;
        puktries = le-leb (p.puk_tries - 1) most_puk_tries (omega (arith, leb-true p.puk_tries most_puk_tries r.puktries));
        verified = r.verified;
      }

  module _ (d : List ℕ) (h : all_of is_digit d ≡ true) where
    pub puk-right : PinsRules (puk_right p d)
    puk-right =
        let r = pins-rules p e in
        record { flag = refl; pin = h; puk = r.puk; pintries = refl; puktries = refl; verified = refl }

    pub pin-changed : PinsRules (with_pin p d)
    pin-changed =
        let r = pins-rules p e in
        record {
          flag = r.flag;
          pin = h;
          puk = r.puk;
          pintries = refl;
          puktries = r.puktries;
          verified = or_right (is_zero p.verified) true refl;
        }

    pub puk-changed : PinsRules (with_puk p d)
    puk-changed =
        let r = pins-rules p e in
        record { flag = r.flag; pin = r.pin; puk = h; pintries = r.pintries; puktries = refl; verified = r.verified }

-- ---- pairing
module _ (p : Pairing) (e : pairing_sound p ≡ true) where
  pub pending-rules : (expected : List ℕ) → some_of is_free p.slots ≡ true → PairingRules (pending_with p expected)
  pending-rules expected h = record { slots = (pairing-rules p e).slots; flag = refl; room = h; unused = refl }

  pub filled-rules : (i : ℕ) (k : List ℕ) → PairingRules (with_slot (not_pending p) i (filled_with k))
  unfolding all_of
  filled-rules i k = record {
    slots = all_set (slot_within 1) p.slots i (filled_with k) (pairing-rules p e).slots refl;
    flag = refl;
    room = refl;
    unused = refl;
  }

  pub freed-rules : (i : ℕ) → PairingRules (with_slot p i free_slot)
  unfolding all_of
  freed-rules i =
      let r = pairing-rules p e in
      record {
        slots = all_set (slot_within 1) p.slots i free_slot r.slots refl;
        flag = r.flag;
        room =
            or_map (is_zero p.pending) (some_of is_free p.slots) _ (λ t. some-set is_free p.slots i free_slot t refl) r.room;
        unused = r.unused;
      }

  pub secret-rules : (d : List ℕ) → PairingRules (with_pairing_secret p d)
  secret-rules d =
      let r = pairing-rules p e in
      record { slots = r.slots; flag = r.flag; room = r.room; unused = r.unused }

-- ---- paths
empty-rules : PathRules empty_path
unfolding all_of
empty-rules = record { most = refl; whole = refl; unused = refl }

module _ (d : List ℕ) (e : is_path d ≡ true) where
  path-of-rules : PathRules (path_of d)
  path-of-rules =
      let h = both (leb (length d) 40) (eqb (length d % 4) 0) e in
      record { most = h.0; whole = h.1; unused = rw (drop_at d (zeros (40 - length d)) (length d) refl) (zeros-zero (40 - length d)) }

  pub path-of-bytes : length (path_of d).bytes ≡ 40
  path-of-bytes =
      let h = both (leb (length d) 40) (eqb (length d % 4) 0) e in
      let l = leb-true (length d) 40 h.0 in
      simp (length-append, length-replicate) (omega arith)

-- ---- keys
pub loaded-rules : (form : KeyForm) (uid : List ℕ) → KeysRules (key_with (kind_of form) uid)
loaded-rules key.Keypair uid = record { kind = refl; current = empty-rules; pinless = empty-rules; extended = refl; unused = refl }
loaded-rules key.Extended uid = record { kind = refl; current = empty-rules; pinless = empty-rules; extended = refl; unused = refl }
loaded-rules key.Seed uid = record { kind = refl; current = empty-rules; pinless = empty-rules; extended = refl; unused = refl }

pub removed-rules : KeysRules no_keys
unfolding all_of
removed-rules = record { kind = refl; current = empty-rules; pinless = empty-rules; extended = refl; unused = refl }

module _ (k : Keys) (e : keys_sound k ≡ true) (d : List ℕ) (h : is_path d ≡ true) where
  pub derived-rules : eqb k.kind 2 ≡ true → KeysRules (with_current k (path_of d))
  derived-rules x =
      let r = keys-rules k e in
      record {
        kind = r.kind;
        current = path-of-rules d h;
        pinless = r.pinless;
        extended = or_right (is_zero (length d)) (eqb k.kind 2) x;
        unused = r.unused;
      }

  pub pinless-rules : KeysRules (with_pinless k (path_of d))
  pinless-rules =
      let r = keys-rules k e in
      record { kind = r.kind; current = r.current; pinless = path-of-rules d h; extended = r.extended; unused = r.unused }

-- ---- what a card before INIT has in these parts
record BlankPairing (p : Pairing) : Type 0 where
  slots : all_of (slot_within 0) p.slots ≡ true
  pending : p.pending ≡ 0
  expected : all_zero p.expected ≡ true

blank-pairing : (p : Pairing) → pairing_blank p ≡ true → BlankPairing p
blank-pairing p e =
    let l = both (all_zero p.secret && all_of (slot_within 0) p.slots && is_zero p.pending) (all_zero p.expected) e in
    let t = both (all_zero p.secret && all_of (slot_within 0) p.slots) (is_zero p.pending) l.0 in
    let h = both (all_zero p.secret) (all_of (slot_within 0) p.slots) t.0 in
    record { slots = h.1; pending = eqb-true p.pending 0 t.1; expected = l.1 }

pub blank-pending : (p : Pairing) → pairing_blank p ≡ true → p.pending ≡ 0
blank-pending p e = (blank-pairing p e).pending

pub blank-pairing-rules : (p : Pairing) (d : List ℕ) → pairing_blank p ≡ true → PairingRules (with_pairing_secret p d)
blank-pairing-rules p d e =
    let r = blank-pairing p e in
    record {
      slots = all-mono (slot_within 0) (slot_within 1) p.slots wider r.slots;
      flag = rw r.pending;
      room = rw r.pending;
      unused = or_right (not (is_zero p.pending)) (all_zero p.expected) r.expected;
    }
  where
    wider : (x : Slot) → slot_within 0 x ≡ true → slot_within 1 x ≡ true
    wider x t =
        let h = both (leb x.filled 0) (not (is_free x) || all_zero x.key) t in
        rw (le-leb x.filled 1 (omega (arith, leb-true x.filled 0 h.0))) h.1

blank-path-rules : (p : Path) → p.len ≡ 0 → all_zero p.bytes ≡ true → PathRules p
blank-path-rules p z e = record { most = rw z; whole = rw z; unused = rw z e }

pub blank-keys-rules : (k : Keys) → keys_blank k ≡ true → KeysRules k
blank-keys-rules k e =
    let r = keys-blank k e in
    record {
      kind = rw r.kind;
      current = blank-path-rules k.current r.current r.currentbytes;
      pinless = blank-path-rules k.pinless r.pinless r.pinlessbytes;
      extended = rw r.current;
      unused = or_right (not (is_zero k.kind)) (all_zero k.uid) r.uid;
    }
