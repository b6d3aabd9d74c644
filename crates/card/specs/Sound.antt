-- Which cards are sound (RULES 2.3). Each line of a definition below is one rule of that list, for one part of the card; `is_sound` at the
-- end puts the parts together.
use Rattle.std.specs.Prelude.{ℕ, ◌+◌, ◌*◌, ◌-◌, ◌%◌, Bool, ◌&&◌, ◌||◌, not, cond, List, length, drop, get_or, leb, eqb}
use Rattle.card.specs.declared.Pins.{Pins}
use Rattle.card.specs.declared.Pairing.{Pairing}
use Rattle.card.specs.declared.Path.{Path}
use Rattle.card.specs.declared.Keys.{Keys}
use Rattle.card.specs.declared.Channel.{Channel}
use Rattle.card.specs.declared.Tap.{Tap}
use Rattle.card.specs.declared.Card.{Card}
use Rattle.card.specs.Sizes.{path_most_bytes, tap_most_bytes}
use Rattle.card.specs.State.{most_pin_tries, most_puk_tries, tap_bytes}
use Rattle.card.specs.Slots.{all_of, some_of, is_zero, all_zero, is_free, slot_within}

-- a flag is 0 or 1
abbrev pub is_flag : ℕ → Bool
is_flag b = leb b 1

-- a digit is 30..39
abbrev pub is_digit : ℕ → Bool
is_digit b = leb 0x30 b && leb b 0x39

-- what SET NDEF takes (RULES 6.20): 2 to 223 bytes, of which the first two, the high byte first, are the number of the others
abbrev pub is_ndef : List ℕ → Bool
is_ndef s = leb 2 (length s) && leb (length s) tap_most_bytes && eqb (get_or s 0 0 * 256 + get_or s 1 0) (length s - 2)

-- ---- an initialised card, part by part (RULES 2.3, rules 1 to 9)
-- verified is a flag; PIN and PUK are digits; tries at most 3 and 5; verified only with 3 tries
abbrev pub pins_sound : Pins → Bool
pins_sound p =
    is_flag p.verified
    && (all_of is_digit p.pin && all_of is_digit p.puk)
    && (leb p.pin_tries most_pin_tries && leb p.puk_tries most_puk_tries)
    && (is_zero p.verified || eqb p.pin_tries most_pin_tries)

-- each slot's flag is a flag, and a free slot's key zero; pending is a flag; a pending pairing only with a free slot;
-- without one the expected cryptogram is zero
abbrev pub pairing_sound : Pairing → Bool
pairing_sound p =
    all_of (slot_within 1) p.slots
    && is_flag p.pending
    && (is_zero p.pending || some_of is_free p.slots)
    && (not (is_zero p.pending) || all_zero p.expected)

-- at most as many bytes as there is room for, 4 a component; the bytes past the path's end are zero
abbrev pub path_sound : Path → Bool
path_sound p = leb p.len path_most_bytes && eqb (p.len % 4) 0 && all_zero (drop p.len p.bytes)

-- kind 0, 1 or 2; both paths; the current path empty unless the key is extended; the key UID zero without a key
abbrev pub keys_sound : Keys → Bool
keys_sound k =
    leb k.kind 2
    && (path_sound k.current && path_sound k.pinless)
    && (is_zero k.current.len || eqb k.kind 2)
    && (not (is_zero k.kind) || all_zero k.uid)

-- the session's bytes, all zero
abbrev pub session_zero : Channel → Bool
session_zero k = all_zero k.enc_key && all_zero k.mac_key && all_zero k.iv

-- stage 0, 1 or 2; the session zero in stage 0
abbrev pub channel_sound : Channel → Bool
channel_sound k = leb k.stage 2 && (not (is_zero k.stage) || session_zero k)

-- the tap record: at most as many bytes as there is room for, and zero past its end; none, or what SET NDEF takes
abbrev pub tap_sound : Tap → Bool
tap_sound t =
    leb t.len tap_most_bytes && all_zero (drop t.len t.bytes) && (is_zero t.len || is_ndef (tap_bytes t))

-- the parts, and the two rules that join one of them to the channel: a pending pairing only in stage 0, a verified PIN only in stage 2
abbrev pub parts_sound : Card → Bool
parts_sound c =
    pins_sound c.pins
    && pairing_sound c.pairing
    && keys_sound c.keys
    && channel_sound c.channel
    && tap_sound c.tap
    && (is_zero c.pairing.pending || is_zero c.channel.stage)
    && (is_zero c.pins.verified || eqb c.channel.stage 2)

-- ---- a pre-initialised card: all but the identity is zero (RULES 2.3, rule 10)
abbrev pub pins_blank : Pins → Bool
pins_blank p =
    (all_zero p.pin && all_zero p.puk)
    && (is_zero p.pin_tries && is_zero p.puk_tries)
    && is_zero p.verified

abbrev pub pairing_blank : Pairing → Bool
pairing_blank p =
    all_zero p.secret && all_of (slot_within 0) p.slots && is_zero p.pending && all_zero p.expected

abbrev pub path_blank : Path → Bool
path_blank p = is_zero p.len && all_zero p.bytes

abbrev pub keys_blank : Keys → Bool
keys_blank k = is_zero k.kind && all_zero k.uid && path_blank k.current && path_blank k.pinless

abbrev pub channel_blank : Channel → Bool
channel_blank k = is_zero k.stage && session_zero k

abbrev pub tap_blank : Tap → Bool
tap_blank t = is_zero t.len && all_zero t.bytes

abbrev pub parts_blank : Card → Bool
parts_blank c =
    pins_blank c.pins && pairing_blank c.pairing && keys_blank c.keys && channel_blank c.channel && tap_blank c.tap

-- ---- the whole card: before INIT all else zero; after it, initialised is 1 and each part is sound
unfoldable pub is_sound : Card → Bool
is_sound c = cond (is_zero c.initialised) (parts_blank c) (eqb c.initialised 1 && parts_sound c)
