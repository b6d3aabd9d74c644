-- Facts about sound cards: FRESH is sound, RESET keeps soundness and does no more the second time, and PIN and PUK may be
-- any digits. Assumes nothing.
use mathlib.Core.Path.{◌≡◌, refl}
use mathlib.Core.Bool.{Bool, true, ◌&&◌, ◌||◌}
use mathlib.Core.Logic.{⊎_elim}
use mathlib.Core.List.{List}
use Prim.Native.Nat.{ℕ, ◌≤◌}
use lib.Dec.{eqb}
use borrow.Author.Tests.{leb-true, eqb-true}
use native.Mathlib.Omega.{arith}
use Rattle.card.specs.declared.Card.{Card}
use Rattle.card.specs.declared.Pins.{Pins}
use Rattle.card.specs.declared.Pairing.{Pairing}
use Rattle.card.specs.Sizes.{path_most_bytes, tap_most_bytes}
use Rattle.card.specs.State.{most_pin_tries, fresh_of, reset_of, unverified, not_pending, with_secrets}
use Rattle.card.specs.Slots.{all_of, is_zero, all_zero, slot_within}
use Rattle.card.specs.Sound.{is_sound, is_digit, parts_blank, parts_sound, pins_sound, pairing_sound, pins_blank, pairing_blank}
use Rattle.card.proofs.Tests.{both}
use Rattle.card.proofs.Rules.{pins-rules, pairing-rules, parts-rules, blank-rules, keys-rules, keys-blank, tap-rules, pins-sound, parts-sound, parts-blank, sound-cases, sound-before, sound-after}

-- ---- fresh_of
pub fresh-sound : (uid key : List ℕ) → is_sound (fresh_of uid key) ≡ true
unfolding is_sound all_of
fresh-sound uid key = refl

-- ---- reset_of
pub reset-reset : (c : Card) → reset_of (reset_of c) ≡ reset_of c
reset-reset c = refl

pins-reset : (p : Pins) → pins_sound p ≡ true → pins_sound (unverified p) ≡ true
pins-reset p e =
    let r = pins-rules p e in
    simp (r.pin, r.puk, r.pintries, r.puktries)

pairing-reset : (p : Pairing) → pairing_sound p ≡ true → pairing_sound (not_pending p) ≡ true
unfolding all_of
pairing-reset p e = simp (pairing-rules p e).slots

pins-blank-reset : (p : Pins) → pins_blank p ≡ true → pins_blank (unverified p) ≡ true
pins-blank-reset p e =
    let h = both ((all_zero p.pin && all_zero p.puk) && (is_zero p.pin_tries && is_zero p.puk_tries)) (is_zero p.verified) e in
    simp h.0

pairing-blank-reset : (p : Pairing) → pairing_blank p ≡ true → pairing_blank (not_pending p) ≡ true
unfolding all_of
pairing-blank-reset p e =
    let l = both _ _ e in
    let t = both _ _ l.0 in
    let h = both (all_zero p.secret) (all_of (slot_within 0) p.slots) t.0 in
    simp (h.0, h.1)

blank-reset : (c : Card) → parts_blank c ≡ true → parts_blank (reset_of c) ≡ true
unfolding all_of
blank-reset c e =
    let r = blank-rules c e in
    parts-blank (reset_of c) (record {
      pins = pins-blank-reset c.pins r.pins;
      pairing = pairing-blank-reset c.pairing r.pairing;
      keys = r.keys;
      channel = refl;
      tap = r.tap;
    })

parts-reset : (c : Card) → parts_sound c ≡ true → parts_sound (reset_of c) ≡ true
unfolding all_of
parts-reset c e =
    let r = parts-rules c e in
    parts-sound (reset_of c) (record {
      pins = pins-reset c.pins r.pins;
      pairing = pairing-reset c.pairing r.pairing;
      keys = r.keys;
      channel = refl;
      tap = r.tap;
      pending = refl;
      verified = refl;
    })

pub reset-sound : (c : Card) → is_sound c ≡ true → is_sound (reset_of c) ≡ true
reset-sound c e = ⊎_elim
    (λ b. sound-before (reset_of c) (record { flag = b.flag; blank = blank-reset c b.blank }))
    (λ a. sound-after (reset_of c) (record { flag = a.flag; parts = parts-reset c a.parts }))
    (sound-cases c e)

-- ---- with_secrets: any digits may be PIN and PUK
pub secrets-sound : (c : Card) (pin puk : List ℕ) → all_of is_digit pin ≡ true → all_of is_digit puk ≡ true
    → is_sound c ≡ true → c.initialised ≡ 1 → is_sound (with_secrets pin puk c) ≡ true
secrets-sound c pin puk d g e i = ⊎_elim
    (λ b. absurd (one_not_zero (i) b.flag))
    (λ a.
    let r = parts-rules c a.parts in
    let p = pins-rules c.pins r.pins in
    sound-after (with_secrets pin puk c) (record {
      flag = i;
      parts = parts-sound (with_secrets pin puk c) (record {
        pins = pins-sound (with_secrets pin puk c).pins (record {
          flag = p.flag;
          pin = d;
          puk = g;
          pintries = p.pintries;
          puktries = p.puktries;
          verified = p.verified;
        });
        pairing = r.pairing;
        keys = r.keys;
        channel = r.channel;
        tap = r.tap;
        pending = r.pending;
        verified = r.verified;
      });
    }))
    (sound-cases c e)
  where
    one_not_zero : {n : ℕ} → n ≡ 1 → n ≡ 0 → ⊥
    one_not_zero p q = omega arith

-- ---- a verified PIN: only in stage 2, and only with full tries
module _ (c : Card) (e : is_sound c ≡ true) where
  blank-verified : parts_blank c ≡ true → (b : Bool) → (is_zero c.pins.verified || b) ≡ true
  blank-verified h b = rw (both
      ((all_zero c.pins.pin && all_zero c.pins.puk) && (is_zero c.pins.pin_tries && is_zero c.pins.puk_tries))
      (is_zero c.pins.verified) (blank-rules c h).pins).1

  pub verified-stage : (is_zero c.pins.verified || eqb c.channel.stage 2) ≡ true
  verified-stage = ⊎_elim (λ b. blank-verified b.blank _) (λ a. (parts-rules c a.parts).verified) (sound-cases c e)

  pub verified-tries : (is_zero c.pins.verified || eqb c.pins.pin_tries most_pin_tries) ≡ true
  verified-tries =
      ⊎_elim (λ b. blank-verified b.blank _) (λ a. (pins-rules c.pins (parts-rules c a.parts).pins).verified) (sound-cases c e)

-- ---- paths: no longer than their room
pub path-lengths : (c : Card) → is_sound c ≡ true → (c.keys.current.len ≤ path_most_bytes) × (c.keys.pinless.len ≤ path_most_bytes)
path-lengths c e = ⊎_elim
    (λ b.
    let k = keys-blank c.keys (blank-rules c b.blank).keys in
    (omega (arith, k.current), omega (arith, k.pinless)))
    (λ a.
    let k = keys-rules c.keys (parts-rules c a.parts).keys in
    (leb-true _ _ k.current.most, leb-true _ _ k.pinless.most))
    (sound-cases c e)

-- ---- the tap record: no longer than its room
pub tap-length : (c : Card) → is_sound c ≡ true → c.tap.len ≤ tap_most_bytes
tap-length c e = ⊎_elim
    (λ b.
    let z = eqb-true c.tap.len 0 (both (is_zero c.tap.len) (all_zero c.tap.bytes) (blank-rules c b.blank).tap).0 in
    omega (arith, z))
    (λ a. leb-true _ _ (tap-rules c.tap (parts-rules c a.parts).tap).most)
    (sound-cases c e)
