-- The card of a card's bytes is that card, where its arrays have the lengths of their types, and likewise a session: the bytes are pieces
-- of known lengths, one after the other, and each begins where the lengths before it end.
-- Assumes nothing.
use mathlib.Core.Path.{◌≡◌, refl, sym, ap, ap₂, ◌∙◌, subst}
use mathlib.Core.List.{List, [], ◌∷◌, ◌++◌, append_assoc, append-nil, map}
use Prim.Native.Nat.{ℕ, zero, suc, ◌+◌, ◌*◌}
use lib.ListN.{length, get_or}
use lib.Seq.{drop-append-add, get_or-drop}
use Rattle.octets.proofs.Lists.{◌&◌}
use Rattle.card.specs.declared.Identity.{Identity}
use Rattle.card.specs.declared.Pins.{Pins}
use Rattle.card.specs.declared.Slot.{Slot}
use Rattle.card.specs.declared.Pairing.{Pairing}
use Rattle.card.specs.declared.Path.{Path}
use Rattle.card.specs.declared.Keys.{Keys}
use Rattle.card.specs.declared.Channel.{Channel}
use Rattle.card.specs.declared.Tap.{Tap}
use Rattle.card.specs.declared.Card.{Card}
use Rattle.card.specs.Sizes.{uid_bytes, public_key_bytes, pin_bytes, puk_bytes, key_bytes, iv_bytes, path_most_bytes, tap_most_bytes, slot_bytes, slot_count}
use Rattle.card.specs.Shape.{Shaped}
use Rattle.channel_rules.specs.declared.Session.{Session}
use Rattle.channel_rules.specs.Message.{Keyed}
use Rattle.record_rules.specs.Fields.{slots_bytes}
use Rattle.record_rules.specs.Parse.{fit, slots_from}
use Rattle.record_rules.proofs.ParseFacts.{fit-front, slots-long, slots-back}
use Rattle.soft_card_bytes.specs.Flat.{identity_flat, pins_flat, pairing_flat, keys_flat, channel_flat, tap_flat, card_flat, session_flat}
use Rattle.soft_card_bytes.specs.Offsets.{slots_offset}
use Rattle.soft_card_bytes.specs.Places.{byte_at, bytes_at, card_at, session_at}

-- ---- pieces one after the other, and where the one with number k begins
abbrev joined : List (List ℕ) → List ℕ
joined [] = []
joined (p ∷ ps) = p ++ joined ps

joined-two : (ps qs : List (List ℕ)) → joined (ps ++ qs) ≡ joined ps ++ joined qs
joined-two [] qs = refl
joined-two (p ∷ ps) qs = ap (λ (s : List ℕ). p ++ s) (joined-two ps qs) ∙ sym (append_assoc p (joined ps) (joined qs))

abbrev offset : ℕ → List ℕ → ℕ
offset zero ns = 0
offset (suc k) [] = 0
offset (suc k) (n ∷ ns) = n + offset k ns

own-piece : (k : ℕ) (ps : List (List ℕ)) → bytes_at (offset k (map length ps)) (get_or (map length ps) k 0) (joined ps) ≡ get_or ps k []
own-piece zero [] = refl
own-piece zero (p ∷ ps) = fit-front (length p) p (joined ps) refl
own-piece (suc k) [] = refl
own-piece (suc k) (p ∷ ps) =
    ap (fit (get_or (map length ps) k 0)) (drop-append-add p (joined ps) (offset k (map length ps))) ∙ own-piece k ps

-- the pieces ps, of the lengths ns, are the list s
module _ (s : List ℕ) (ps : List (List ℕ)) (ns : List ℕ) (e : s ≡ joined ps) (l : map length ps ≡ ns) where
  piece : (k : ℕ) → bytes_at (offset k ns) (get_or ns k 0) s ≡ get_or ps k []
  piece k =
      ap (bytes_at (offset k ns) (get_or ns k 0)) e
      ∙ subst (λ (m : List ℕ). bytes_at (offset k m) (get_or m k 0) (joined ps) ≡ get_or ps k []) l (own-piece k ps)

one : (s : List ℕ) (at : ℕ) {b : ℕ} → bytes_at at 1 s ≡ b ∷ [] → byte_at (at + 0) s ≡ b
one s at q = sym (get_or-drop at s 0 0) ∙ ap (λ (x : List ℕ). get_or x 0 0) q

-- ---- a struct whose fields are those of another is that other
same-identity : (i : Identity) {a b : List ℕ} → a ≡ i.uid → b ≡ i.public_key → ◌≡◌ {A = Identity} (record { uid = a; public_key = b }) i
same-identity i p q = rw (p, q)

same-pins : (r : Pins) {a b : List ℕ} {x y z : ℕ} → a ≡ r.pin → b ≡ r.puk → x ≡ r.pin_tries → y ≡ r.puk_tries → z ≡ r.verified
    → ◌≡◌ {A = Pins} (record { pin = a; puk = b; pin_tries = x; puk_tries = y; verified = z }) r
same-pins r p q s t u = rw (p, q, s, t, u)

same-pairing : (r : Pairing) {a b : List ℕ} {l : List Slot} {x : ℕ} → a ≡ r.secret → l ≡ r.slots → x ≡ r.pending → b ≡ r.expected
    → ◌≡◌ {A = Pairing} (record { secret = a; slots = l; pending = x; expected = b }) r
same-pairing r p q s t = rw (p, q, s, t)

same-path : (r : Path) {x : ℕ} {a : List ℕ} → x ≡ r.len → a ≡ r.bytes → ◌≡◌ {A = Path} (record { len = x; bytes = a }) r
same-path r p q = rw (p, q)

same_keys : (r : Keys) {x : ℕ} {a : List ℕ} {b d : Path} → x ≡ r.kind → a ≡ r.uid → b ≡ r.current → d ≡ r.pinless
    → ◌≡◌ {A = Keys} (record { kind = x; uid = a; current = b; pinless = d }) r
same_keys r p q s t = rw (p, q, s, t)

same-channel : (r : Channel) {x : ℕ} {a b d : List ℕ} → x ≡ r.stage → a ≡ r.enc_key → b ≡ r.mac_key → d ≡ r.iv
    → ◌≡◌ {A = Channel} (record { stage = x; enc_key = a; mac_key = b; iv = d }) r
same-channel r p q s t = rw (p, q, s, t)

same-tap : (r : Tap) {x : ℕ} {a : List ℕ} → x ≡ r.len → a ≡ r.bytes → ◌≡◌ {A = Tap} (record { len = x; bytes = a }) r
same-tap r p q = rw (p, q)

same-card : (r : Card) {x : ℕ} {i : Identity} {p : Pins} {q : Pairing} {k : Keys} {n : Channel} {t : Tap}
    → x ≡ r.initialised → i ≡ r.identity → p ≡ r.pins → q ≡ r.pairing → k ≡ r.keys → n ≡ r.channel → t ≡ r.tap
    → ◌≡◌ {A = Card} (record { initialised = x; identity = i; pins = p; pairing = q; keys = k; channel = n; tap = t }) r
same-card r a b d e f g h = rw (a, b, d, e, f, g, h)

same-session : (r : Session) {a b d : List ℕ} → a ≡ r.enc_key → b ≡ r.mac_key → d ≡ r.iv
    → ◌≡◌ {A = Session} (record { enc_key = a; mac_key = b; iv = d }) r
same-session r p q s = rw (p, q, s)

-- ---- a card
-- the session of the card's channel
abbrev pub channel_session : Channel → Session
channel_session c = record { enc_key = c.enc_key; mac_key = c.mac_key; iv = c.iv }

module _ (c : Card) where
  -- the pieces before the tap record, and its two
  abbrev front : List (List ℕ)
  front =
      (c.initialised ∷ [])
      ∷ c.identity.uid
      ∷ c.identity.public_key
      ∷ c.pins.pin
      ∷ c.pins.puk
      ∷ (c.pins.pin_tries ∷ [])
      ∷ (c.pins.puk_tries ∷ [])
      ∷ (c.pins.verified ∷ [])
      ∷ c.pairing.secret
      ∷ slots_bytes c.pairing.slots
      ∷ (c.pairing.pending ∷ [])
      ∷ c.pairing.expected
      ∷ (c.keys.kind ∷ [])
      ∷ c.keys.uid
      ∷ (c.keys.current.len ∷ [])
      ∷ c.keys.current.bytes
      ∷ (c.keys.pinless.len ∷ [])
      ∷ c.keys.pinless.bytes
      ∷ (c.channel.stage ∷ [])
      ∷ c.channel.enc_key
      ∷ c.channel.mac_key
      ∷ c.channel.iv
      ∷ []

  abbrev tap_pieces : List (List ℕ)
  tap_pieces = (c.tap.len ∷ []) ∷ c.tap.bytes ∷ []

  abbrev pieces : List (List ℕ)
  pieces = front ++ tap_pieces

  abbrev lengths : List ℕ
  lengths =
      1
      ∷ uid_bytes
      ∷ public_key_bytes
      ∷ pin_bytes
      ∷ puk_bytes
      ∷ 1
      ∷ 1
      ∷ 1
      ∷ key_bytes
      ∷ slot_bytes * slot_count
      ∷ 1
      ∷ key_bytes
      ∷ 1
      ∷ key_bytes
      ∷ 1
      ∷ path_most_bytes
      ∷ 1
      ∷ path_most_bytes
      ∷ 1
      ∷ key_bytes
      ∷ key_bytes
      ∷ iv_bytes
      ∷ 1
      ∷ tap_most_bytes
      ∷ []

  front-joined : (c.initialised ∷ []) ++ identity_flat c.identity ++ pins_flat c.pins ++ pairing_flat c.pairing ++ keys_flat c.keys ++ channel_flat c.channel ≡ joined front
  front-joined = simp (append_assoc, append-nil)

  flat-joined : card_flat c ≡ joined pieces
  unfolding card_flat
  flat-joined =
      ap₂ (λ (s t : List ℕ). s ++ t) front-joined (sym (append-nil (tap_flat c.tap)))
      ∙ sym (joined-two front tap_pieces)

  module _ (h : Shaped c) (k : Keyed (channel_session c.channel)) where
    long : map length pieces ≡ lengths
    long =
        refl & h.uid & h.public_key & h.pin & h.puk & refl & refl & refl & h.secret
        & (slots-long c.pairing.slots h.keys ∙ ap (λ (n : ℕ). slot_bytes * n) h.slots)
        & refl & h.expected & refl & h.keyuid & refl & h.current & refl & h.pinless & refl
        & k.enc.long & k.mac.long & k.iv.long & refl & h.tap & refl

    bytes : (i : ℕ) → bytes_at (offset i lengths) (get_or lengths i 0) (card_flat c) ≡ get_or pieces i []
    bytes i = piece (card_flat c) pieces lengths flat-joined long i

    byte : (i : ℕ) {b : ℕ} → bytes_at (offset i lengths) 1 (card_flat c) ≡ b ∷ [] → byte_at (offset i lengths + 0) (card_flat c) ≡ b
    byte i = one (card_flat c) (offset i lengths)

    slots-again : slots_from slot_count (bytes_at slots_offset (slot_bytes * slot_count) (card_flat c)) ≡ c.pairing.slots
    slots-again =
        ap (slots_from slot_count) (bytes 9)
        ∙ ap (λ (n : ℕ). slots_from n (slots_bytes c.pairing.slots)) (sym h.slots)
        ∙ slots-back c.pairing.slots h.keys

    pub card-again : card_at (card_flat c) ≡ c
    unfolding card_at
    card-again =
        same-card c (byte 0 (bytes 0))
        (same-identity c.identity (bytes 1) (bytes 2))
        (same-pins c.pins (bytes 3) (bytes 4) (byte 5 (bytes 5)) (byte 6 (bytes 6)) (byte 7 (bytes 7)))
        (same-pairing c.pairing (bytes 8) slots-again (byte 10 (bytes 10)) (bytes 11))
        (same_keys c.keys (byte 12 (bytes 12)) (bytes 13)
        (same-path c.keys.current (byte 14 (bytes 14)) (bytes 15))
        (same-path c.keys.pinless (byte 16 (bytes 16)) (bytes 17)))
        (same-channel c.channel (byte 18 (bytes 18)) (bytes 19) (bytes 20) (bytes 21))
        (same-tap c.tap (byte 22 (bytes 22)) (bytes 23))

-- ---- a session
pub session-again : (x : Session) → Keyed x → session_at (session_flat x) ≡ x
unfolding session_at session_flat
session-again x k = same-session x (bytes 0) (bytes 1) (bytes 2)
  where
    bytes : (i : ℕ) → bytes_at (offset i (key_bytes ∷ key_bytes ∷ iv_bytes ∷ [])) (get_or (key_bytes ∷ key_bytes ∷ iv_bytes ∷ []) i 0) (session_flat x)
        ≡ get_or (x.enc_key ∷ x.mac_key ∷ x.iv ∷ []) i []
    bytes i =
        piece (session_flat x) (x.enc_key ∷ x.mac_key ∷ x.iv ∷ []) (key_bytes ∷ key_bytes ∷ iv_bytes ∷ [])
        (simp (append_assoc, append-nil)) (k.enc.long & k.mac.long & k.iv.long & refl) i
