-- Cards and sessions as bytes and back: the card of a card's bytes has those bytes, and the card of a card's bytes is that card.
-- Assumes nothing.
use mathlib.Core.Path.{◌≡◌, refl, ap, ◌∙◌}
use mathlib.Core.List.{List, [], ◌++◌}
use Prim.Native.Nat.{ℕ, ◌*◌, ◌≤◌}
use native.Mathlib.Omega.{arith}
use lib.ListN.{length, take, drop, get_or}
use lib.Seq.{take_all}
use Rattle.octets.proofs.Lists.{length-tabulate}
use Rattle.card.specs.declared.Card.{Card}
use Rattle.card.specs.Sizes.{uid_bytes, public_key_bytes, pin_bytes, puk_bytes, key_bytes, iv_bytes, path_most_bytes, tap_most_bytes, slot_bytes, slot_count, session_bytes, card_bytes}
use Rattle.channel_rules.specs.declared.Session.{Session}
use Rattle.record_rules.specs.Fields.{slots_bytes}
use Rattle.record_rules.specs.Parse.{slots_from}
use Rattle.soft_card_bytes.specs.Flat.{identity_flat, pins_flat, pairing_flat, keys_flat, channel_flat, tap_flat, card_flat, session_flat}
use Rattle.soft_card_bytes.specs.Offsets.{identity_offset, pins_offset, pairing_offset, keys_offset, channel_offset, tap_offset, public_key_offset, puk_offset, pin_tries_offset, puk_tries_offset, verified_offset, slots_offset, pending_offset, expected_offset, key_uid_offset, current_offset, pinless_offset, enc_key_offset, mac_key_offset, iv_offset, session_mac_key_offset, session_iv_offset}
use Rattle.soft_card_bytes.specs.Places.{bytes_at, identity_at, pins_at, pairing_at, keys_at, channel_at, tap_at, card_at, session_at}
use Rattle.soft_card_bytes.proofs.Grown.{join, read_byte, read-bytes, read-room, slots-again}

-- ---- bytes, card, bytes: each field comes after the one before it
module _ (s : List ℕ) where
  slots_at : pending_offset ≤ length s → take slots_offset s ++ slots_bytes (slots_from slot_count (bytes_at slots_offset (slot_bytes * slot_count) s)) ≡ take pending_offset s
  slots_at l =
      ap (λ (x : List ℕ). take slots_offset s ++ x) (slots-again slot_count (bytes_at slots_offset (slot_bytes * slot_count) s) (length-tabulate (slot_bytes * slot_count) (λ k. get_or (drop slots_offset s) k 0)))
      ∙ read-bytes s slots_offset (slot_bytes * slot_count) l refl

  module _ (l : length s ≡ card_bytes) where
    identity-at : take identity_offset s ++ identity_flat (identity_at s) ≡ take pins_offset s
    identity-at = join (take identity_offset s) _ _ (read-bytes s identity_offset uid_bytes (omega arith) refl) (read-bytes s public_key_offset public_key_bytes (omega arith) refl)

    pins-at : take pins_offset s ++ pins_flat (pins_at s) ≡ take pairing_offset s
    pins-at =
        join (take pins_offset s) _ _
        (join (take pins_offset s) _ _ (read-bytes s pins_offset pin_bytes (omega arith) refl) (read-bytes s puk_offset puk_bytes (omega arith) refl))
        (join (take pin_tries_offset s) _ _ (read_byte s pin_tries_offset (omega arith)) (join (take puk_tries_offset s) _ _ (read_byte s puk_tries_offset (omega arith)) (read_byte s verified_offset (omega arith))))

    pairing-at : take pairing_offset s ++ pairing_flat (pairing_at s) ≡ take keys_offset s
    pairing-at =
        join (take pairing_offset s) _ _
        (join (take pairing_offset s) _ _ (read-bytes s pairing_offset key_bytes (omega arith) refl) (slots_at (omega arith)))
        (join (take pending_offset s) _ _ (read_byte s pending_offset (omega arith)) (read-bytes s expected_offset key_bytes (omega arith) refl))

    keys-at : take keys_offset s ++ keys_flat (keys_at s) ≡ take channel_offset s
    keys-at =
        join (take keys_offset s) _ _
        (join (take keys_offset s) _ _
        (join (take keys_offset s) _ _ (read_byte s keys_offset (omega arith)) (read-bytes s key_uid_offset key_bytes (omega arith) refl))
        (read-room s current_offset path_most_bytes (omega arith)))
        (read-room s pinless_offset path_most_bytes (omega arith))

    channel-at : take channel_offset s ++ channel_flat (channel_at s) ≡ take tap_offset s
    channel-at =
        join (take channel_offset s) _ _
        (join (take channel_offset s) _ _
        (join (take channel_offset s) _ _ (read_byte s channel_offset (omega arith)) (read-bytes s enc_key_offset key_bytes (omega arith) refl))
        (read-bytes s mac_key_offset key_bytes (omega arith) refl))
        (read-bytes s iv_offset iv_bytes (omega arith) refl)

    tap-at : take tap_offset s ++ tap_flat (tap_at s) ≡ s
    tap-at = read-room s tap_offset tap_most_bytes (omega arith) ∙ take_all card_bytes s (omega arith)

    pub flat-card : card_flat (card_at s) ≡ s
    unfolding card_flat card_at
    flat-card =
        join [] _ _
        (join [] _ _
        (join [] _ _
        (join [] _ _
        (join [] _ _
        (join [] _ _ (read_byte s 0 (omega arith)) identity-at)
        pins-at)
        pairing-at)
        keys-at)
        channel-at)
        tap-at

  pub flat-session : length s ≡ session_bytes → session_flat (session_at s) ≡ s
  unfolding session_flat session_at
  flat-session l =
      join [] _ _
      (join [] _ _ (read-bytes s 0 key_bytes (omega arith) refl) (read-bytes s session_mac_key_offset key_bytes (omega arith) refl))
      (read-bytes s session_iv_offset iv_bytes (omega arith) refl)
      ∙ take_all session_bytes s (omega arith)

-- ---- the card, or the session, that is read at its places has the bytes given
pub card-read : {r : Card} (s : List ℕ) → length s ≡ card_bytes → r ≡ card_at s → (card_flat r ≡ s) × (r ≡ card_at s)
card-read s l e = (ap card_flat e ∙ flat-card s l, e)

pub session-read : {r : Session} (s : List ℕ) → length s ≡ session_bytes → r ≡ session_at s → (session_flat r ≡ s) × (r ≡ session_at s)
session-read s l e = (ap session_flat e ∙ flat-session s l, e)
