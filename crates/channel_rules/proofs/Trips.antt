-- Terminal and card under the same session: what SEAL makes, the card opens to the same data; what the card seals, UNSEAL opens to the same
-- bytes; both ends then hold the same session; for every data length from 0 to 223 bytes (2 to 223 with a status word). Last, a whole
-- exchange.
-- Assumes nothing.
use mathlib.Core.Path.{◌≡◌, refl, sym, ap, ◌∙◌}
use mathlib.Core.Bool.{Bool, cond}
use mathlib.Core.List.{List, [], ◌∷◌, ◌++◌, append_assoc}
use mathlib.Core.Option.{some}
use Prim.Native.Nat.{ℕ, ◌-◌, ◌≤◌}
use native.Mathlib.Omega.{arith}
use borrow.Author.Tests.{le-ltb}
use lib.ListN.{length, take, drop, replicate, length-append}
use lib.Seq.{take_at, drop_at}
use Rattle.refusals.specs.Refusals.{no_refusal, no_room, not_genuine, seal_room, unseal_room, data_most}
use Rattle.octets.specs.Bytes.{Bytes, Block, same_bytes}
use Rattle.octets.proofs.Lists.{bytes-append, bytes-replicate, same_refl}
use Rattle.aes_padding.proofs.Laws.{padded-next}
use Rattle.channel_rules.specs.declared.Session.{Session}
use Rattle.channel_rules.specs.Message.{Keyed, with_iv, lc, lr, command_head, response_head, ciphertext, field_mac, seal_field, open_field}
use Rattle.channel_rules.specs.Terminal.{Out, refused, sealed_command, seal_out, plain_success, sealed_response, sealed_field, unsealed, unseal_out}
use Rattle.channel_rules.proofs.Fields.{length-ciphertext, field-mac-block, length-field, take-field, open-seal}

-- the header of a command: 4 bytes
pub record Header (header : List ℕ) : Type 0 where
  pub long : length header ≡ 4
  pub bytes : Bytes header

-- ---- head blocks are blocks
pub command-head-block : (header : List ℕ) (n : ℕ) → Header header → n ≤ 224 → Block (command_head header n)
command-head-block header n h l =
    record {
      long = omega (arith, length-append header (lc n ∷ replicate 11 0), h.long);
      bytes = bytes-append header (lc n ∷ replicate 11 0) h.bytes (omega arith, bytes-replicate 11 0 (omega arith));
    }

pub response-head-block : (n : ℕ) → n ≤ 224 → Block (response_head n)
response-head-block n l = record { long = refl; bytes = (omega arith, bytes-replicate 15 0 (omega arith)) }

-- ---- a field with 9000 after it: UNSEAL finds the two
module _ (f : List ℕ) where
  length-before-end : length f ≡ length (f ++ plain_success) - 2
  length-before-end = omega (arith, length-append f plain_success)

  pub field-before-end : sealed_field (f ++ plain_success) ≡ f
  field-before-end = take_at f plain_success (length (f ++ plain_success) - 2) length-before-end

  pub end-after-field : drop (length (f ++ plain_success) - 2) (f ++ plain_success) ≡ plain_success
  end-after-field = drop_at f plain_success (length (f ++ plain_success) - 2) length-before-end

-- a session stays one when its IV becomes a MAC
pub keyed-after : (s : Session) (mac : List ℕ) → Keyed s → Block mac → Keyed (with_iv s mac)
keyed-after s mac k h = record { enc = k.enc; mac = k.mac; iv = h }

module _ (s : Session) (k : Keyed s) where
  pub short : (d : List ℕ) → Bytes d → length d ≤ data_most → length (ciphertext s d) ≤ 224
  short d hd l = omega (arith, length-ciphertext s k d hd, padded-next (length d) 224 refl (omega arith))

  -- ---- a command
  module _ (header d : List ℕ) (hh : Header header) (hd : Bytes d) (fits : length d ≤ data_most) where
    abbrev command-head : ℕ → List ℕ
    command-head = command_head header

    head-block : Block (command-head (length (ciphertext s d)))
    head-block = command-head-block header (length (ciphertext s d)) hh (short d hd fits)

    -- SEAL is not refused where there is room, and its output is the header, Lc and the field
    pub seal-gives : (room : ℕ) → seal_room ≤ room
        → seal_out s header d room ≡ record { refusal = no_refusal; session = with_iv s (field_mac s command-head d); bytes = sealed_command s header d }
    unfolding seal_out
    seal-gives room r = rw (le-ltb room seal_room r, le-ltb data_most (length d) fits)

    -- Lc is the field's length
    pub lc-counts : lc (length (ciphertext s d)) ≡ length (seal_field s command-head d)
    lc-counts = omega (arith, length-field s k command-head d hd head-block, length-ciphertext s k d hd)

    pub command-field : drop 5 (sealed_command s header d) ≡ seal_field s command-head d
    command-field = ap (drop 5) (regroup header hh.long) ∙ drop_at (header ++ (lc (length (ciphertext s d)) ∷ [])) (seal_field s command-head d) 5 five
      where
        regroup : (h : List ℕ) → length h ≡ 4 → h ++ (lc (length (ciphertext s d)) ∷ seal_field s command-head d)
            ≡ (h ++ (lc (length (ciphertext s d)) ∷ [])) ++ seal_field s command-head d
        regroup h e = sym (append_assoc h (lc (length (ciphertext s d)) ∷ []) (seal_field s command-head d))

        five : length (header ++ (lc (length (ciphertext s d)) ∷ [])) ≡ 5
        five = omega (arith, length-append header (lc (length (ciphertext s d)) ∷ []), hh.long)

    -- the card opens it to the data
    pub command-opens : open_field s command-head (drop 5 (sealed_command s header d)) ≡ some d
    command-opens = ap (open_field s command-head) command-field ∙ open-seal s k command-head d hd head-block fits

    -- and both ends then hold the same session
    pub command-sessions : with_iv s (take 16 (drop 5 (sealed_command s header d))) ≡ with_iv s (field_mac s command-head d)
    command-sessions = ap (with_iv s) (ap (take 16) command-field ∙ take-field s k command-head d hd head-block)

    pub command-keyed : Keyed (with_iv s (field_mac s command-head d))
    command-keyed = keyed-after s (field_mac s command-head d) k (field-mac-block s k command-head d hd head-block)

  -- ---- a response
  module _ (p : List ℕ) (hp : Bytes p) (fits : length p ≤ data_most) where
    response-block : Block (response_head (length (ciphertext s p)))
    response-block = response-head-block (length (ciphertext s p)) (short p hp fits)

    abbrev field : List ℕ
    field = seal_field s response_head p

    pub response-field : sealed_field (sealed_response s p) ≡ field
    unfolding sealed_response
    response-field = field-before-end field

    response-end : drop (length (sealed_response s p) - 2) (sealed_response s p) ≡ plain_success
    unfolding sealed_response
    response-end = end-after-field field

    pub response-keyed : Keyed (with_iv s (field_mac s response_head p))
    response-keyed = keyed-after s (field_mac s response_head p) k (field-mac-block s k response_head p hp response-block)

    -- Lr is the field's length
    pub lr-counts : lr (length (ciphertext s p)) ≡ length (seal_field s response_head p)
    lr-counts = omega (arith, length-field s k response_head p hp response-block, length-ciphertext s k p hp)

    -- UNSEAL gives the same bytes, and the session that the card holds after sealing
    pub unseal-seals : (room : ℕ) → unseal_room ≤ room → 2 ≤ length p
        → unseal_out s (sealed_response s p) room ≡ record { refusal = no_refusal; session = with_iv s (field_mac s response_head p); bytes = p }
    unfolding unseal_out
    unseal-seals room r two =
        let response : List ℕ = sealed_response s p in
        ap (λ (b : Bool). cond b (refused s no_room) (checked response)) (le-ltb room unseal_room r)
        ∙ ap (λ (b : Bool). cond b (unsealed s (sealed_field response) (open_field s response_head (sealed_field response))) (refused s not_genuine))
        (ap (λ (y : List ℕ). same_bytes y plain_success) response-end ∙ same_refl plain_success)
        ∙ ap (λ (f : List ℕ). unsealed s f (open_field s response_head f)) response-field
        ∙ ap (unsealed s field) (open-seal s k response_head p hp response-block fits)
        ∙ ap (λ (b : Bool). cond b (refused s not_genuine) (given (take 16 field))) (le-ltb (length p) 2 two)
        ∙ ap given (take-field s k response_head p hp response-block)
      where
        checked : List ℕ → Out
        checked response =
            cond (same_bytes (drop (length response - 2) response) plain_success)
            (unsealed s (sealed_field response) (open_field s response_head (sealed_field response))) (refused s not_genuine)

        given : List ℕ → Out
        given mac = record { refusal = no_refusal; session = with_iv s mac; bytes = p }

-- ---- a whole exchange: a command sealed and opened, its answer sealed and unsealed
pub record Exchanged (s : Session) (header d p : List ℕ) (sent : Out) (card : Session) (got : Out) : Type 0 where
  pub taken : sent.refusal ≡ no_refusal
  pub opens : open_field s (command_head header) (drop 5 sent.bytes) ≡ some d
  pub accepted : got.refusal ≡ no_refusal
  pub answer : got.bytes ≡ p
  pub same : got.session ≡ with_iv card (field_mac card response_head p)

-- the card's session after the command that it opened
abbrev pub card_after : Session → List ℕ → Session
card_after s command = with_iv s (take 16 (drop 5 command))

pub exchange : (s : Session) → Keyed s → (header d p : List ℕ) → Header header → Bytes d → length d ≤ data_most → Bytes p → 2 ≤ length p → length p ≤ data_most
    → (room room' : ℕ) → seal_room ≤ room → unseal_room ≤ room'
    → Exchanged s header d p (seal_out s header d room) (card_after s (seal_out s header d room).bytes)
    (unseal_out (seal_out s header d room).session (sealed_response (card_after s (seal_out s header d room).bytes) p) room')
exchange s k header d p hh hd ld hp two lp room room' r r' =
    rw (seal-gives s k header d hh hd ld room r, command-sessions s k header d hh hd ld)
    (record {
      taken = refl;
      opens = command-opens s k header d hh hd ld;
      accepted = ap (λ (o : Out). o.refusal) gives;
      answer = ap (λ (o : Out). o.bytes) gives;
      same = ap (λ (o : Out). o.session) gives;
    })
  where
    next : Session
    next = with_iv s (field_mac s (command_head header) d)

    gives : unseal_out next (sealed_response next p) room' ≡ record { refusal = no_refusal; session = with_iv next (field_mac next response_head p); bytes = p }
    gives = unseal-seals next (command-keyed s k header d hh hd ld) p hp lp room' r' two
