-- What the record of a sound card describes, in a form that leaves nothing of it out: that card, reset. Assumes nothing.
use mathlib.Core.Path.{◌≡◌, refl, sym, ap, ap₂, ◌∙◌, fun_ext}
use mathlib.Core.Bool.{Bool, true, false, cond}
use mathlib.Core.Logic.{⊎_elim}
use mathlib.Core.List.{List, [], ◌++◌}
use Prim.Native.Nat.{ℕ, ◌+◌, ◌*◌}
use native.Mathlib.Omega.{arith}
use lib.ListN.{take, drop}
use Rattle.card.specs.declared.Identity.{Identity}
use Rattle.card.specs.declared.Slot.{Slot}
use Rattle.card.specs.declared.Path.{Path}
use Rattle.card.specs.declared.Keys.{Keys}
use Rattle.card.specs.declared.Pins.{Pins}
use Rattle.card.specs.declared.Pairing.{Pairing}
use Rattle.card.specs.declared.Tap.{Tap}
use Rattle.card.specs.declared.Card.{Card}
use Rattle.card.specs.Sizes.{uid_bytes, public_key_bytes, pin_bytes, puk_bytes, key_bytes, slot_bytes, slot_count}
use Rattle.card.specs.State.{zeros, reset_of, closed_of, unverified, not_pending, path_bytes}
use Rattle.card.specs.Shape.{Shaped}
use Rattle.card.specs.Slots.{all_of, is_zero, all_zero, is_free, slot_within}
use Rattle.card.specs.Sound.{is_sound}
use Rattle.card.proofs.Rules.{Before, After, KeysRules, parts-rules, pairing-rules, keys-rules, tap-rules, blank-rules, sound-cases}
use Rattle.record_rules.specs.declared.Form.{Form}
use Rattle.record_rules.specs.Fields.{Field, encode_all, slots_bytes, identity_fields, tap_fields, owner_fields, fields_in}
use Rattle.record_rules.specs.Parse.{fit, path_from, slots_from, pins_from, pairing_from, keys_from, tap_from, card_from, card_of}
use Rattle.record_rules.proofs.BlankFacts.{pins-none, pairing-none, keys_none, tap-none, tap-blank}
use Rattle.record_rules.proofs.ParseFacts.{first_content, content-all, fit-exact, path-back, tap-back, key_back}
use Rattle.record_rules.proofs.SlotFacts.{slots-again}

-- the fields of an initialised card
abbrev pub table : Form → Card → List Field
table f c = identity_fields c.initialised c.identity ++ owner_fields f c

-- ---- card_of: the card of a list of fields
card-of-all : (fs : List Field) → card_of (encode_all fs) ≡ card_from (λ k. first_content (drop k fs))
unfolding card_of
card-of-all fs = ap card_from (fun_ext (content-all fs))

-- ---- equal parts make equal cards
abbrev reset_card : ℕ → Identity → Pins → Pairing → Keys → Tap → Card
reset_card i d p q k n = record { initialised = i; identity = d; pins = p; pairing = q; keys = k; channel = closed_of; tap = n }

same-card : (i : ℕ) {d e : Identity} {p r : Pins} {q t : Pairing} {k m : Keys} {n o : Tap}
    → d ≡ e → p ≡ r → q ≡ t → k ≡ m → n ≡ o → reset_card i d p q k n ≡ reset_card i e r t m o
same-card i {d} {e} {p} {r} {q} {t} {k} {m} {n} {o} f g h j l =
    ap₂ {C = Card} (λ (x : Identity) (y : Pins). reset_card i x y q k n) f g
    ∙ ap₂ {C = Card} (λ (x : Pairing) (y : Keys). reset_card i e r x y n) h j
    ∙ ap {B = Card} (λ (x : Tap). reset_card i e r t m x) l

-- ---- after INIT
-- each slot is sound
pub slots-sound : (c : Card) → After c → all_of (slot_within 1) c.pairing.slots ≡ true
slots-sound c a = (pairing-rules c.pairing (parts-rules c a.parts).pairing).slots

module _ (f : Form) (c : Card) (w : Shaped c) where
  identity-back : ◌≡◌ {A = Identity} (record { uid = fit uid_bytes c.identity.uid; public_key = fit public_key_bytes c.identity.public_key }) c.identity
  identity-back =
      ap₂ {C = Identity} (λ (u k : List ℕ). record { uid = u; public_key = k })
      (fit-exact uid_bytes c.identity.uid w.uid) (fit-exact public_key_bytes c.identity.public_key w.public_key)

  pins-back : pins_from (λ k. first_content (drop k (table f c))) ≡ unverified c.pins
  pins-back =
      ap₂ {C = Pins}
      (λ (x y : List ℕ). record { pin = x; puk = y; pin_tries = c.pins.pin_tries; puk_tries = c.pins.puk_tries; verified = 0 })
      (fit-exact pin_bytes c.pins.pin w.pin) (fit-exact puk_bytes c.pins.puk w.puk)

  -- field 24, where it leaves no slot out that is not free
  abbrev Free : Type 0
  Free = all_of is_free (drop f.slots c.pairing.slots) ≡ true

  slots-here : After c → Free
      → slots_from slot_count (fit (slot_bytes * slot_count) (slots_bytes (take f.slots c.pairing.slots))) ≡ c.pairing.slots
  slots-here a h =
      slots-again 1 f.slots slot_count c.pairing.slots w.keys (slots-sound c a) h w.slots

  pairing-back : After c → Free → pairing_from (λ k. first_content (drop k (table f c))) ≡ not_pending c.pairing
  pairing-back a h =
      ap₂ {C = Pairing} (λ (x : List ℕ) (s : List Slot). record { secret = x; slots = s; pending = 0; expected = zeros key_bytes })
      (fit-exact key_bytes c.pairing.secret w.secret) (slots-here a h)

  keys-back : KeysRules c.keys → keys_from (λ k. first_content (drop k (table f c))) ≡ c.keys
  keys-back r =
      ap₂ {C = Keys} (λ (u : List ℕ) (p : Path). record { kind = c.keys.kind; uid = u; current = p; pinless = path_from (path_bytes c.keys.pinless) })
      (key_back c.keys r.unused w.keyuid) (path-back c.keys.current r.current w.current)
      ∙ ap {B = Keys} (λ (p : Path). record { kind = c.keys.kind; uid = c.keys.uid; current = c.keys.current; pinless = p })
      (path-back c.keys.pinless r.pinless w.pinless)

  -- field 34, or no field there where the card has no tap record
  tap-here : After c → (b : Bool) → (b ≡ false → c.tap.len ≡ 0) → tap_from (first_content (cond b (tap_fields c.tap) [])) ≡ c.tap
  tap-here a true h = tap-back c.tap (tap-rules c.tap (parts-rules c a.parts).tap) w.tap
  tap-here a false h = sym (tap-none c.tap w.tap (h refl) (ap (λ (n : ℕ). all_zero (drop n c.tap.bytes)) (sym (h refl)) ∙ (tap-rules c.tap (parts-rules c a.parts).tap).unused))

  card-after : After c → Free → (f.tapped ≡ false → c.tap.len ≡ 0) → card_of (encode_all (fields_in f c)) ≡ reset_of c
  unfolding fields_in
  card-after a free h =
      ap (λ (i : ℕ). card_of (encode_all (identity_fields c.initialised c.identity ++ cond (is_zero i) [] (owner_fields f c)))) a.flag
      ∙ card-of-all (table f c)
      ∙ same-card c.initialised identity-back pins-back (pairing-back a free) (keys-back (keys-rules c.keys (parts-rules c a.parts).keys)) (tap-here a f.tapped h)

  -- ---- before INIT
  card-before : Before c → card_of (encode_all (fields_in f c)) ≡ reset_of c
  unfolding fields_in slots_from
  card-before b =
      let r = blank-rules c b.blank in
      ap (λ (i : ℕ). card_of (encode_all (identity_fields c.initialised c.identity ++ cond (is_zero i) [] (owner_fields f c)))) b.flag
      ∙ card-of-all (identity_fields c.initialised c.identity)
      ∙ sym (same-card c.initialised
      (sym identity-back)
      (pins-none c.pins w.pin w.puk r.pins)
      (pairing-none c.pairing w.secret w.slots w.keys r.pairing)
      (keys_none c.keys w.keyuid w.current w.pinless r.keys)
      (tap-blank c.tap w.tap r.tap))

  -- ---- both: the card of a sound card's record is that card reset; the slots that are left out are free, and without field 34 there is no tap
  -- record
  pub card-record : is_sound c ≡ true → Free → (f.tapped ≡ false → c.tap.len ≡ 0) → card_of (encode_all (fields_in f c)) ≡ reset_of c
  card-record e free h = ⊎_elim card-before (λ a. card-after a free h) (sound-cases c e)
