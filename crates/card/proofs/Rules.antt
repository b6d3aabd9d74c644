-- The rules of soundness one by one: a part is sound exactly where each of its rules holds.
-- Assumes nothing.
use mathlib.Core.Path.{◌≡◌, refl}
use mathlib.Core.Bool.{Bool, true, false, ◌&&◌, ◌||◌, not, cond}
use mathlib.Core.Logic.{◌⊎◌, inl, inr}
use Prim.Native.Nat.{◌%◌}
use lib.ListN.{drop}
use lib.Dec.{leb, eqb}
use borrow.Author.Tests.{eqb-true}
use Rattle.card.specs.declared.Pins.{Pins}
use Rattle.card.specs.declared.Pairing.{Pairing}
use Rattle.card.specs.declared.Path.{Path}
use Rattle.card.specs.declared.Keys.{Keys}
use Rattle.card.specs.declared.Tap.{Tap}
use Rattle.card.specs.declared.Card.{Card}
use Rattle.card.specs.State.{most_pin_tries, most_puk_tries, tap_bytes}
use Rattle.card.specs.Sizes.{path_most_bytes, tap_most_bytes}
use Rattle.card.specs.Slots.{all_of, some_of, is_zero, all_zero, is_free, slot_within}
use Rattle.card.specs.Sound.{is_flag, is_digit, pins_sound, pairing_sound, path_sound, keys_sound, channel_sound, is_ndef, tap_sound, parts_sound, pins_blank, pairing_blank, keys_blank, channel_blank, tap_blank, parts_blank, is_sound}
use Rattle.card.proofs.Tests.{both}

-- ---- pins_sound
pub record PinsRules (p : Pins) : Type 0 where
  pub flag : is_flag p.verified ≡ true
  pub pin : all_of is_digit p.pin ≡ true
  pub puk : all_of is_digit p.puk ≡ true
  pub pintries : leb p.pin_tries most_pin_tries ≡ true
  pub puktries : leb p.puk_tries most_puk_tries ≡ true
  pub verified : (is_zero p.verified || eqb p.pin_tries most_pin_tries) ≡ true

pub pins-rules : (p : Pins) → pins_sound p ≡ true → PinsRules p
pins-rules p e =
    let l = both _ _ e in
    let t = both _ _ l.0 in
    let n = both _ _ t.1 in
    let d = both _ _ t.0 in
    let s = both _ _ d.1 in
    record { flag = d.0; pin = s.0; puk = s.1; pintries = n.0; puktries = n.1; verified = l.1 }

pub pins-sound : (p : Pins) → PinsRules p → pins_sound p ≡ true
pins-sound p r = simp (r.flag, r.pin, r.puk, r.pintries, r.puktries) r.verified

-- ---- pairing_sound
pub record PairingRules (p : Pairing) : Type 0 where
  pub slots : all_of (slot_within 1) p.slots ≡ true
  pub flag : is_flag p.pending ≡ true
  pub room : (is_zero p.pending || some_of is_free p.slots) ≡ true
  pub unused : (not (is_zero p.pending) || all_zero p.expected) ≡ true

pub pairing-rules : (p : Pairing) → pairing_sound p ≡ true → PairingRules p
pairing-rules p e =
    let l = both _ _ e in
    let t = both _ _ l.0 in
    let d = both _ _ t.0 in
    record { slots = d.0; flag = d.1; room = t.1; unused = l.1 }

-- ---- path_sound
pub record PathRules (p : Path) : Type 0 where
  pub most : leb p.len path_most_bytes ≡ true
  pub whole : eqb (p.len % 4) 0 ≡ true
  pub unused : all_zero (drop p.len p.bytes) ≡ true

pub path-rules : (p : Path) → path_sound p ≡ true → PathRules p
path-rules p e =
    let l = both _ _ e in
    let t = both _ _ l.0 in
    record { most = t.0; whole = t.1; unused = l.1 }

-- ---- keys_sound
pub record KeysRules (k : Keys) : Type 0 where
  pub kind : leb k.kind 2 ≡ true
  pub current : PathRules k.current
  pub pinless : PathRules k.pinless
  pub extended : (is_zero k.current.len || eqb k.kind 2) ≡ true
  pub unused : (not (is_zero k.kind) || all_zero k.uid) ≡ true

pub keys-rules : (k : Keys) → keys_sound k ≡ true → KeysRules k
keys-rules k e =
    let l = both _ _ e in
    let t = both _ _ l.0 in
    let d = both _ _ t.0 in
    let s = both _ _ d.1 in
    record {
      kind = d.0;
      current = path-rules k.current s.0;
      pinless = path-rules k.pinless s.1;
      extended = t.1;
      unused = l.1;
    }

-- ---- keys_blank
pub record KeysBlank (k : Keys) : Type 0 where
  pub kind : k.kind ≡ 0
  pub uid : all_zero k.uid ≡ true
  pub current : k.current.len ≡ 0
  pub currentbytes : all_zero k.current.bytes ≡ true
  pub pinless : k.pinless.len ≡ 0
  pub pinlessbytes : all_zero k.pinless.bytes ≡ true

pub keys-blank : (k : Keys) → keys_blank k ≡ true → KeysBlank k
keys-blank k e =
    let l = both _ _ e in
    let t = both _ _ l.0 in
    let d = both _ _ t.0 in
    let c = both _ _ t.1 in
    let p = both _ _ l.1 in
    record {
      kind = eqb-true k.kind 0 d.0;
      uid = d.1;
      current = eqb-true k.current.len 0 c.0;
      currentbytes = c.1;
      pinless = eqb-true k.pinless.len 0 p.0;
      pinlessbytes = p.1;
    }

-- ---- tap_sound
pub record TapRules (t : Tap) : Type 0 where
  pub most : leb t.len tap_most_bytes ≡ true
  pub unused : all_zero (drop t.len t.bytes) ≡ true
  pub ndef : (is_zero t.len || is_ndef (tap_bytes t)) ≡ true

pub tap-rules : (t : Tap) → tap_sound t ≡ true → TapRules t
tap-rules t e =
    let l = both _ _ e in
    let s = both _ _ l.0 in
    record { most = s.0; unused = s.1; ndef = l.1 }

pub tap-sound : (t : Tap) → TapRules t → tap_sound t ≡ true
tap-sound t r = rw (r.most, r.unused) r.ndef

-- ---- parts_sound
pub record PartsRules (c : Card) : Type 0 where
  pub pins : pins_sound c.pins ≡ true
  pub pairing : pairing_sound c.pairing ≡ true
  pub keys : keys_sound c.keys ≡ true
  pub channel : channel_sound c.channel ≡ true
  pub tap : tap_sound c.tap ≡ true
  pub pending : (is_zero c.pairing.pending || is_zero c.channel.stage) ≡ true
  pub verified : (is_zero c.pins.verified || eqb c.channel.stage 2) ≡ true

pub parts-rules : (c : Card) → parts_sound c ≡ true → PartsRules c
parts-rules c e =
    let v = both _ _ e in
    let l = both _ _ v.0 in
    let m = both _ _ l.0 in
    let t = both _ _ m.0 in
    let k = both _ _ t.0 in
    let d = both _ _ k.0 in
    record { pins = d.0; pairing = d.1; keys = k.1; channel = t.1; tap = m.1; pending = l.1; verified = v.1 }

pub parts-sound : (c : Card) → PartsRules c → parts_sound c ≡ true
parts-sound c r = rw (r.pins, r.pairing, r.keys, r.channel, r.tap, r.pending) r.verified

-- ---- parts_blank
pub record BlankRules (c : Card) : Type 0 where
  pub pins : pins_blank c.pins ≡ true
  pub pairing : pairing_blank c.pairing ≡ true
  pub keys : keys_blank c.keys ≡ true
  pub channel : channel_blank c.channel ≡ true
  pub tap : tap_blank c.tap ≡ true

pub blank-rules : (c : Card) → parts_blank c ≡ true → BlankRules c
blank-rules c e =
    let m = both _ _ e in
    let l = both _ _ m.0 in
    let t = both _ _ l.0 in
    let d = both _ _ t.0 in
    record { pins = d.0; pairing = d.1; keys = t.1; channel = l.1; tap = m.1 }

pub parts-blank : (c : Card) → BlankRules c → parts_blank c ≡ true
parts-blank c r = rw (r.pins, r.pairing, r.keys, r.channel) r.tap

-- ---- is_sound: before INIT, and after it
pub record Before (c : Card) : Type 0 where
  pub flag : c.initialised ≡ 0
  pub blank : parts_blank c ≡ true

pub record After (c : Card) : Type 0 where
  pub flag : c.initialised ≡ 1
  pub parts : parts_sound c ≡ true

pub sound-cases : (c : Card) → is_sound c ≡ true → Before c ⊎ After c
unfolding is_sound
sound-cases c e = by_flag (is_zero c.initialised) refl e
  where
    by_flag : (b : Bool) → is_zero c.initialised ≡ b
        → cond b (parts_blank c) (eqb c.initialised 1 && parts_sound c) ≡ true → Before c ⊎ After c
    by_flag true z h = inl (record { flag = eqb-true c.initialised 0 z; blank = h })
    by_flag false z h =
        let p = both (eqb c.initialised 1) (parts_sound c) h in
        inr (record { flag = eqb-true c.initialised 1 p.0; parts = p.1 })

pub sound-before : (c : Card) → Before c → is_sound c ≡ true
unfolding is_sound
sound-before c r = rw r.flag r.blank

pub sound-after : (c : Card) → After c → is_sound c ≡ true
unfolding is_sound
sound-after c r = rw r.flag r.parts
