-- How a card that is sound stays so, and one that has its shape keeps it, when one part is changed.
-- Assumes nothing.
use mathlib.Core.Path.{◌≡◌, refl}
use mathlib.Core.Bool.{Bool, true, false, ◌&&◌, ◌||◌}
use mathlib.Core.Logic.{◌⊎◌, ⊎_elim}
use Prim.Native.Nat.{◌-◌}
use native.Mathlib.Omega.{arith}
use lib.Dec.{leb, eqb}
use lib.ListN.{length}
use borrow.Author.Tests.{leb-true, eqb-true, eqb-false, not-true, not-false}
use Rattle.card.specs.declared.Pins.{Pins}
use Rattle.card.specs.declared.Pairing.{Pairing}
use Rattle.card.specs.declared.Path.{Path}
use Rattle.card.specs.declared.Keys.{Keys}
use Rattle.card.specs.declared.Channel.{Channel}
use Rattle.card.specs.declared.Tap.{Tap}
use Rattle.card.specs.declared.Card.{Card}
use Rattle.card.specs.Sizes.{tap_most_bytes}
use Rattle.card.specs.State.{slot_count, with_pins, with_pairing, with_keys, with_channel, with_tap, closed, forgotten, unverified, not_pending, closed_of}
use Rattle.card.specs.Slots.{all_of, is_zero, all_zero, slot_within}
use Rattle.card.specs.Sound.{is_sound, pins_sound, pairing_sound, path_sound, keys_sound, channel_sound, session_zero, tap_sound, pins_blank, pairing_blank}
use Rattle.card.specs.Shape.{KeysLong, Shaped}
use Rattle.card.proofs.Tests.{both}
pub use Rattle.card.proofs.Tests.{or_right}
use Rattle.card.proofs.Rules.{PinsRules, pins-rules, pins-sound, PairingRules, pairing-rules, PathRules, KeysRules, parts-rules, parts-sound, blank-rules, parts-blank, Before, After, sound-cases, sound-before, sound-after}
use Rattle.rules.specs.Steps.{is_initialised}
use Rattle.laws_commands.specs.Lawful.{Fit}

pub itself-fit : (c : Card) → is_sound c ≡ true → Fit c c
itself-fit c e = record { sound = e; shaped = λ w. w }

-- ---- before INIT and after it
pub after-init : (c : Card) → is_sound c ≡ true → is_initialised c ≡ true → After c
after-init c e i = ⊎_elim (λ b. absurd (never b.flag)) (λ a. a) (sound-cases c e)
  where
    never : c.initialised ≡ 0 → ⊥
    never z = eqb-false c.initialised 0 (not-true _ i) z

pub before-init : (c : Card) → is_sound c ≡ true → is_initialised c ≡ false → Before c
before-init c e i = ⊎_elim (λ b. b) (λ a. absurd (never a.flag)) (sound-cases c e)
  where
    never : c.initialised ≡ 1 → ⊥
    never z = omega (arith, eqb-true c.initialised 0 (not-false _ i))

-- ---- the parts, from their rules
pub pairing-sound : (p : Pairing) → PairingRules p → pairing_sound p ≡ true
pairing-sound p r = rw (r.slots, r.flag, r.room) r.unused

path-sound : (p : Path) → PathRules p → path_sound p ≡ true
path-sound p r = rw (r.most, r.whole) r.unused

pub keys-sound : (k : Keys) → KeysRules k → keys_sound k ≡ true
keys-sound k r =
    rw (r.kind, path-sound k.current r.current, path-sound k.pinless r.pinless, r.extended) r.unused

pub channel-blank : (c : Card) → is_sound c ≡ true → channel_sound c.channel ≡ true
channel-blank c e = ⊎_elim
    (λ b. let h = both (is_zero c.channel.stage) (session_zero c.channel) (blank-rules c b.blank).channel in blank h.0 h.1)
    (λ a. (parts-rules c a.parts).channel)
    (sound-cases c e)
  where
    blank : is_zero c.channel.stage ≡ true → session_zero c.channel ≡ true → channel_sound c.channel ≡ true
    blank z t = rw (eqb-true c.channel.stage 0 z) t

-- ---- an initialised card with one part in the place of its own
module _ (c : Card) (a : After c) where
  pub pins-kept : (p : Pins) → PinsRules p → (is_zero p.verified || eqb c.channel.stage 2) ≡ true → is_sound (with_pins c p) ≡ true
  pins-kept p h v =
      let r = parts-rules c a.parts in
      sound-after (with_pins c p) (record {
        flag = a.flag;
        parts = parts-sound (with_pins c p) (record {
          pins = pins-sound p h;
          pairing = r.pairing;
          keys = r.keys;
          channel = r.channel;
          tap = r.tap;
          pending = r.pending;
          verified = v;
        });
      })

  pub pairing-kept : (p : Pairing) → PairingRules p → (is_zero p.pending || is_zero c.channel.stage) ≡ true
      → is_sound (with_pairing c p) ≡ true
  pairing-kept p h t =
      let r = parts-rules c a.parts in
      sound-after (with_pairing c p) (record {
        flag = a.flag;
        parts = parts-sound (with_pairing c p) (record {
          pins = r.pins;
          pairing = pairing-sound p h;
          keys = r.keys;
          channel = r.channel;
          tap = r.tap;
          pending = t;
          verified = r.verified;
        });
      })

  pub keys_kept : (k : Keys) → KeysRules k → is_sound (with_keys c k) ≡ true
  keys_kept k h =
      let r = parts-rules c a.parts in
      sound-after (with_keys c k) (record {
        flag = a.flag;
        parts = parts-sound (with_keys c k) (record {
          pins = r.pins;
          pairing = r.pairing;
          keys = keys-sound k h;
          channel = r.channel;
          tap = r.tap;
          pending = r.pending;
          verified = r.verified;
        });
      })

  pub channel-kept : (k : Channel) → channel_sound k ≡ true → (is_zero c.pairing.pending || is_zero k.stage) ≡ true
      → (is_zero c.pins.verified || eqb k.stage 2) ≡ true → is_sound (with_channel c k) ≡ true
  channel-kept k h t v =
      let r = parts-rules c a.parts in
      sound-after (with_channel c k) (record {
        flag = a.flag;
        parts = parts-sound (with_channel c k) (record {
          pins = r.pins;
          pairing = r.pairing;
          keys = r.keys;
          channel = h;
          tap = r.tap;
          pending = t;
          verified = v;
        });
      })

  pub tap-kept : (t : Tap) → tap_sound t ≡ true → is_sound (with_tap c t) ≡ true
  tap-kept t h =
      let r = parts-rules c a.parts in
      sound-after (with_tap c t) (record {
        flag = a.flag;
        parts = parts-sound (with_tap c t) (record {
          pins = r.pins;
          pairing = r.pairing;
          keys = r.keys;
          channel = r.channel;
          tap = h;
          pending = r.pending;
          verified = r.verified;
        });
      })

-- a sound card in a stage that is 2 or more is in stage 2
pub stage-two : (c : Card) → is_sound c ≡ true → leb 2 c.channel.stage ≡ true → c.channel.stage ≡ 2
stage-two c e l =
    let most = leb-true c.channel.stage 2 (both (leb c.channel.stage 2) _ (channel-blank c e)).0 in
    omega (arith, leb-true 2 c.channel.stage l)

-- a test that may be left out
pub or_map : (a b d : Bool) → (b ≡ true → d ≡ true) → (a || b) ≡ true → (a || d) ≡ true
or_map true b d f e = refl
or_map false b d f e = f e

-- ---- the card with the PIN not verified
unverified-rules : (p : Pins) → pins_sound p ≡ true → PinsRules (unverified p)
unverified-rules p e =
    let r = pins-rules p e in
    record { flag = refl; pin = r.pin; puk = r.puk; pintries = r.pintries; puktries = r.puktries; verified = refl }

unverified-blank : (p : Pins) → pins_blank p ≡ true → pins_blank (unverified p) ≡ true
unverified-blank p e =
    let h = both ((all_zero p.pin && all_zero p.puk) && (is_zero p.pin_tries && is_zero p.puk_tries)) (is_zero p.verified) e in
    simp h.0

unverified-sound : (c : Card) → is_sound c ≡ true → is_sound (with_pins c (unverified c.pins)) ≡ true
unverified-sound c e = ⊎_elim
    (λ b.
    let r = blank-rules c b.blank in
    sound-before (with_pins c (unverified c.pins)) (record {
      flag = b.flag;
      blank = parts-blank (with_pins c (unverified c.pins)) (record {
        pins = unverified-blank c.pins r.pins;
        pairing = r.pairing;
        keys = r.keys;
        channel = r.channel;
        tap = r.tap;
      });
    }))
    (λ a. pins-kept c a (unverified c.pins) (unverified-rules c.pins (parts-rules c a.parts).pins) refl)
    (sound-cases c e)

-- ---- the card with its channel closed: first the PIN is not verified, then the channel is closed
closing-sound : (c : Card) → is_sound c ≡ true → c.pins.verified ≡ 0 → is_sound (with_channel c closed_of) ≡ true
unfolding all_of
closing-sound c e v = ⊎_elim
    (λ b.
    let r = blank-rules c b.blank in
    sound-before (with_channel c closed_of) (record {
      flag = b.flag;
      blank = parts-blank (with_channel c closed_of) (record { pins = r.pins; pairing = r.pairing; keys = r.keys; channel = refl; tap = r.tap });
    }))
    (λ a. channel-kept c a closed_of refl (or_right (is_zero c.pairing.pending) true refl) (rw v))
    (sound-cases c e)

pub closed-sound : (c : Card) → is_sound c ≡ true → is_sound (closed c) ≡ true
closed-sound c e = closing-sound (with_pins c (unverified c.pins)) (unverified-sound c e) refl

-- ---- the card without a pending pairing
forgotten-rules : (p : Pairing) → pairing_sound p ≡ true → PairingRules (not_pending p)
unfolding all_of
forgotten-rules p e = record { slots = (pairing-rules p e).slots; flag = refl; room = refl; unused = refl }

forgotten-blank : (p : Pairing) → pairing_blank p ≡ true → pairing_blank (not_pending p) ≡ true
unfolding all_of
forgotten-blank p e =
    let l = both _ _ e in
    let t = both _ _ l.0 in
    let h = both (all_zero p.secret) (all_of (slot_within 0) p.slots) t.0 in
    simp (h.0, h.1)

pub forgotten-sound : (c : Card) → is_sound c ≡ true → is_sound (forgotten c) ≡ true
forgotten-sound c e = ⊎_elim
    (λ b.
    let r = blank-rules c b.blank in
    sound-before (forgotten c) (record {
      flag = b.flag;
      blank = parts-blank (forgotten c) (record {
        pins = r.pins;
        pairing = forgotten-blank c.pairing r.pairing;
        keys = r.keys;
        channel = r.channel;
        tap = r.tap;
      });
    }))
    (λ a. pairing-kept c a (not_pending c.pairing) (forgotten-rules c.pairing (parts-rules c a.parts).pairing) refl)
    (sound-cases c e)

-- ---- the shape, with one part in the place of the card's own
module _ (c : Card) (h : Shaped c) where
  pub pins-shaped : (p : Pins) → length p.pin ≡ 6 → length p.puk ≡ 12 → Shaped (with_pins c p)
  pins-shaped p a b = record {
    uid = h.uid;
    public_key = h.public_key;
    pin = a;
    puk = b;
    secret = h.secret;
    slots = h.slots;
    keys = h.keys;
    expected = h.expected;
    keyuid = h.keyuid;
    current = h.current;
    pinless = h.pinless;
    tap = h.tap;
  }

  pub pairing-shaped : (p : Pairing) → length p.secret ≡ 32 → length p.slots ≡ slot_count → KeysLong p.slots
      → length p.expected ≡ 32 → Shaped (with_pairing c p)
  pairing-shaped p a b k e = record {
    uid = h.uid;
    public_key = h.public_key;
    pin = h.pin;
    puk = h.puk;
    secret = a;
    slots = b;
    keys = k;
    expected = e;
    keyuid = h.keyuid;
    current = h.current;
    pinless = h.pinless;
    tap = h.tap;
  }

  pub keys-shaped : (k : Keys) → length k.uid ≡ 32 → length k.current.bytes ≡ 40 → length k.pinless.bytes ≡ 40
      → Shaped (with_keys c k)
  keys-shaped k a b d = record {
    uid = h.uid;
    public_key = h.public_key;
    pin = h.pin;
    puk = h.puk;
    secret = h.secret;
    slots = h.slots;
    keys = h.keys;
    expected = h.expected;
    keyuid = a;
    current = b;
    pinless = d;
    tap = h.tap;
  }

  pub channel-shaped : (k : Channel) → Shaped (with_channel c k)
  channel-shaped k = record {
    uid = h.uid;
    public_key = h.public_key;
    pin = h.pin;
    puk = h.puk;
    secret = h.secret;
    slots = h.slots;
    keys = h.keys;
    expected = h.expected;
    keyuid = h.keyuid;
    current = h.current;
    pinless = h.pinless;
    tap = h.tap;
  }

  pub tap-shaped : (t : Tap) → length t.bytes ≡ tap_most_bytes → Shaped (with_tap c t)
  tap-shaped t a = record {
    uid = h.uid;
    public_key = h.public_key;
    pin = h.pin;
    puk = h.puk;
    secret = h.secret;
    slots = h.slots;
    keys = h.keys;
    expected = h.expected;
    keyuid = h.keyuid;
    current = h.current;
    pinless = h.pinless;
    tap = a;
  }

  pub forgotten-shaped : Shaped (forgotten c)
  forgotten-shaped = pairing-shaped (not_pending c.pairing) h.secret h.slots h.keys refl

pub closed-shaped : (c : Card) → Shaped c → Shaped (closed c)
closed-shaped c h = pins-shaped (with_channel c closed_of) (channel-shaped c h closed_of) (unverified c.pins) h.pin h.puk

pub closed-fit : (g c : Card) → Fit g c → Fit g (closed c)
closed-fit g c f = record { sound = closed-sound c f.sound; shaped = λ w. closed-shaped c (f.shaped w) }

pub forgotten-fit : (g c : Card) → Fit g c → Fit g (forgotten c)
forgotten-fit g c f = record { sound = forgotten-sound c f.sound; shaped = λ w. forgotten-shaped c (f.shaped w) }
