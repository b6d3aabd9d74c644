-- The eighteen instructions' commands (RULES 6), in its order, and at the end one rule for each command: the checks of step 6, in order, with
-- their status words; what is compared and which supply is read past them (Supplies.antt); and the reply, from the card, the data (opened,
-- where the command is sealed) and the supply; LOAD's also where its data are at fault. Every length and offset is in bytes.
use Rattle.std.specs.Prelude.{Ok, Err, ℕ, ◌+◌, ◌-◌, ◌%◌, Bool, true, false, ◌&&◌, ◌||◌, not, cond, List, [], ◌∷◌, ◌++◌, leb, eqb, length, take, drop, get_or, set}
use Rattle.std.proofs.Math.Option.{Option, none, some}
use Rattle.octets.specs.Bytes.{same_bytes}
use Rattle.aes_rules.specs.Aes.{inv_aes256}
use Rattle.aes_cbc.specs.Mode.{cbc_decrypt}
use Rattle.aes_padding.specs.Padding.{unpad}
use Rattle.sha_rules.specs.Hash.{sha256}
use Rattle.phrase_rules.specs.Numbers.{numbers_of}
use Rattle.card.specs.declared.Identity.{Identity}
use Rattle.card.specs.declared.Pins.{Pins}
use Rattle.card.specs.declared.Slot.{Slot}
use Rattle.card.specs.declared.Pairing.{Pairing}
use Rattle.card.specs.declared.Path.{Path}
use Rattle.card.specs.declared.Keys.{Keys}
use Rattle.card.specs.declared.Channel.{Channel}
use Rattle.card.specs.declared.Card.{Card}
use Rattle.card.specs.State.{most_pin_tries, most_puk_tries, free_slot, no_keys, empty_path, with_initialised, with_pins, with_pairing, with_keys, with_channel, with_tap, closed, forgotten, not_pending, path_bytes, path_of, tap_of, key_uid}
use Rattle.card.specs.Slots.{all_of, some_of, is_zero, is_free}
use Rattle.card.specs.Sound.{is_digit, is_ndef}
use Rattle.std.specs.Prelude.{Option as Found, Some, None}
use Rattle.card_slots.specs.Free.{first_free}
use Rattle.template_keypair.specs.Keypair.{keypair}
use Rattle.template_walk.specs.Walk.{Walked, walk_of}
use Rattle.template_answers.specs.Answers as answer
use Rattle.rules.specs.declared.StatusKind.{StatusKind}
use Rattle.rules.specs.declared.StatusKind.TheVariants as status
use Rattle.rules.specs.declared.SecretKind.{SecretKind}
use Rattle.rules.specs.declared.SecretKind.TheVariants as secret
use Rattle.rules.specs.declared.KeyForm.{KeyForm}
use Rattle.rules.specs.declared.KeyForm.TheVariants as key
use Rattle.rules.specs.declared.ExportPath.{ExportPath}
use Rattle.rules.specs.declared.ExportPath.TheVariants as export_path
use Rattle.rules.specs.declared.ExportPart.{ExportPart}
use Rattle.rules.specs.declared.ExportPart.TheVariants as export_part
use Rattle.rules.specs.declared.Command.{Command}
use Rattle.rules.specs.declared.Command.TheVariants as command
use Rattle.rules.specs.Words.{tries_left, security_not_met, reference_invalid, conditions_not_met, wrong_data, not_found, no_space, wrong_parameters, Check, must, Reply, succeeds, fails}
use Rattle.rules.specs.Supplies.{no_supply, init_supply, open_supply, mutual_supply, pair_first_supply, pair_final_supply, load_supply, derive_supply, sign_supply, export_supply, mnemonic_supply, says_yes, part, init_key, open_enc_key, open_mac_key, open_salt, open_iv, mutual_random, pair_challenge, pair_salt, load_public, sign_key, sign_r, sign_s, export_public, export_private, mnemonic_entropy}
use Rattle.rules.specs.Rows.{checksum_bits}
use Rattle.rules.specs.Rules.{Secret, pin, puk, no_fault, Rule, rule, placing, comparing}

-- ---- what several commands ask (RULES 6.2)
abbrev pub is_verified : Pins → Bool
is_verified p = not (is_zero p.verified)

abbrev pub has_key : Keys → Bool
has_key k = not (is_zero k.kind)

-- n bytes, all digits
abbrev pub are_digits : ℕ → List ℕ → Bool
are_digits n s = eqb (length s) n && all_of is_digit s

-- a point in uncompressed form: 65 bytes, the first 04
abbrev pub is_point : List ℕ → Bool
is_point s = eqb (length s) 65 && eqb (get_or s 0 0) 0x04

-- a path: 0 to 40 bytes, 4 a component
abbrev pub is_path : List ℕ → Bool
is_path s = leb (length s) 40 && eqb (length s % 4) 0

-- whether a path is not empty
abbrev pub is_set : Path → Bool
is_set p = not (is_zero p.len)

-- ---- SELECT 00 A4 (RULES 6.4): closes the channel
abbrev pub application_id : List ℕ
application_id =
    0x53 ∷ 0x74 ∷ 0x61 ∷ 0x74 ∷ 0x75 ∷ 0x73 ∷ 0x57 ∷ 0x61 ∷ 0x6C ∷ 0x6C ∷ 0x65 ∷ 0x74 ∷ 0x41 ∷ 0x70 ∷ 0x70 ∷ []

unfoldable pub select_checks : List ℕ → List Check
select_checks d = must (same_bytes d application_id) not_found ∷ []

-- how many slots are free
unfoldable pub free_slots : List Slot → ℕ
free_slots [] = 0
free_slots (s ∷ more) = cond (is_free s) (1 + free_slots more) (free_slots more)

-- what SELECT answers, from the parts of the card that it shows
abbrev pub selected : ℕ → Identity → List Slot → Keys → List ℕ
selected initialised id slots k =
    cond (is_zero initialised) (answer.pre_initialised id.public_key)
    (answer.application_info id.uid id.public_key (free_slots slots) (key_uid k))

unfoldable pub select_reply : Card → Reply
select_reply c =
    succeeds (closed c) (selected c.initialised c.identity c.pairing.slots c.keys)

-- ---- INIT FE (RULES 6.5): the length byte 41, a point starting 04, an IV of 16 bytes and a ciphertext of 64
abbrev pub is_init_data : List ℕ → Bool
is_init_data d = eqb (length d) 146 && eqb (get_or d 0 0) 0x41 && eqb (get_or d 1 0) 0x04

unfoldable pub init_checks : List ℕ → List Check
init_checks d = must (is_init_data d) wrong_data ∷ []

unfoldable pub init_content : List ℕ → List ℕ → Option (List ℕ)
init_content aes d = unpad (cbc_decrypt (inv_aes256 aes) (part 66 16 d) (part 82 64 d))

-- the content: PIN 6, PUK 12, pairing secret 32
abbrev pub is_content : List ℕ → Bool
is_content x = eqb (length x) 50 && (all_of is_digit (part 0 6 x) && all_of is_digit (part 6 12 x))

-- PIN and PUK of the content, with full tries
abbrev pub pins_with : List ℕ → Pins
pins_with x = record { pin = part 0 6 x; puk = part 6 12 x; pin_tries = most_pin_tries; puk_tries = most_puk_tries; verified = 0 }

abbrev pub with_pairing_secret : Pairing → List ℕ → Pairing
with_pairing_secret p d = record { secret = d; slots = p.slots; pending = p.pending; expected = p.expected }

abbrev pub initialised_with : Card → List ℕ → Card
initialised_with c x = with_initialised (with_pairing (with_pins c (pins_with x)) (with_pairing_secret c.pairing (part 18 32 x))) 1

unfoldable pub init_with : Card → Option (List ℕ) → Reply
init_with c none = fails c wrong_data
init_with c (some x) = cond (is_content x) (succeeds (initialised_with c x) []) (fails c wrong_data)

unfoldable pub init_reply : Card → List ℕ → List ℕ → Reply
init_reply c d s = cond (says_yes s) (init_with c (init_content (init_key s) d)) (fails c wrong_data)

-- ---- OPEN 10 (RULES 6.6), P1 the slot: the card that comes here has its channel closed (Steps.antt, step 5)
abbrev pub slot_at : List Slot → ℕ → Slot
slot_at slots i = get_or slots i free_slot

unfoldable pub open_checks : List Slot → ℕ → List ℕ → List Check
open_checks slots i d = must (not (is_free (slot_at slots i))) wrong_parameters ∷ must (is_point d) wrong_data ∷ []

abbrev pub opened_with : List ℕ → Channel
opened_with s = record { stage = 1; enc_key = open_enc_key s; mac_key = open_mac_key s; iv = open_iv s }

unfoldable pub open_reply : Card → List ℕ → Reply
open_reply c s =
    cond (says_yes s) (succeeds (with_channel c (opened_with s)) (open_salt s ++ open_iv s)) (fails c wrong_data)

-- ---- MUTUAL 11 (RULES 6.7): in stage 2 not again
unfoldable pub mutual_checks : ℕ → List ℕ → List Check
mutual_checks stage d = must (eqb stage 1) conditions_not_met ∷ must (eqb (length d) 32) security_not_met ∷ []

abbrev pub in_stage2 : Channel → Channel
in_stage2 k = record { stage = 2; enc_key = k.enc_key; mac_key = k.mac_key; iv = k.iv }

unfoldable pub mutual_reply : Card → List ℕ → Reply
mutual_reply c s = succeeds (with_channel c (in_stage2 c.channel)) (mutual_random s)

-- ---- PAIR 12 (RULES 6.8): what is computed from the pairing secret, which comes first in each: a cryptogram from the challenge of the other
-- side, and the pairing key from the salt
abbrev pub with_secret : Pairing → List ℕ → List ℕ
with_secret p x = sha256 (p.secret ++ x)

-- PAIR 12, first (RULES 6.8): the data are the client's challenge
unfoldable pub pair_first_checks : Pairing → ℕ → List ℕ → List Check
pair_first_checks p stage d =
    must (not (eqb stage 2)) conditions_not_met
    ∷ must (eqb (length d) 32) wrong_data
    ∷ must (some_of is_free p.slots) no_space
    ∷ []

abbrev pub pending_with : Pairing → List ℕ → Pairing
pending_with p expected = record { secret = p.secret; slots = p.slots; pending = 1; expected = expected }

-- the cryptogram that the client will have to send is kept
unfoldable pub pair_first_reply : Card → List ℕ → List ℕ → Reply
pair_first_reply c d s =
    succeeds (with_pairing c (pending_with c.pairing (with_secret c.pairing (pair_challenge s))))
    (with_secret c.pairing d ++ pair_challenge s)

-- PAIR 12, final (RULES 6.8): the data are the client cryptogram
unfoldable pub pair_final_checks : Pairing → ℕ → List ℕ → List Check
pair_final_checks p stage d =
    must (not (is_zero p.pending)) wrong_parameters
    ∷ must (not (eqb stage 2)) conditions_not_met
    ∷ must (eqb (length d) 32) wrong_data
    ∷ must (same_bytes d p.expected) security_not_met
    ∷ []

-- the pairing with this slot in the place of the one with this index
abbrev pub with_slot : Pairing → ℕ → Slot → Pairing
with_slot p i slot = record { secret = p.secret; slots = set p.slots i slot; pending = p.pending; expected = p.expected }

abbrev pub filled_with : List ℕ → Slot
filled_with k = record { filled = 1; key = k }

-- a pending pairing has a free slot, so that Full does not occur here (law `pending-slot`)
unfoldable pub pair_into : Card → List ℕ → Found ℕ → Reply
pair_into c s (Some i) =
    succeeds (with_pairing c (with_slot (not_pending c.pairing) i (filled_with (with_secret c.pairing (pair_salt s))))) (i ∷ pair_salt s)
pair_into c s None = fails (forgotten c) no_space

unfoldable pub pair_final_reply : Card → List ℕ → Reply
pair_final_reply c s = pair_into c s (first_free c.pairing.slots)

-- ---- UNPAIR 13 (RULES 6.9), with a verified PIN, P1 the slot: frees it, also a free one
unfoldable pub unpair_checks : Pins → List Check
unpair_checks p = must (is_verified p) conditions_not_met ∷ []

unfoldable pub unpair_reply : Card → ℕ → Reply
unpair_reply c i = succeeds (with_pairing c (with_slot c.pairing i free_slot)) []

-- ---- GET STATUS F2 (RULES 6.10)
-- its template, from the parts of the card that it tells
abbrev pub status_bytes : Pins → Keys → List ℕ
status_bytes p k = answer.status p.pin_tries p.puk_tries (has_key k)

unfoldable pub status_reply : Card → StatusKind → Reply
status_reply c status.Application = succeeds c (status_bytes c.pins c.keys)
status_reply c status.Path = succeeds c (path_bytes c.keys.current)

-- ---- VERIFY 20 (RULES 6.11): any other bytes or length is wrong
unfoldable pub verify_checks : Pins → List Check
verify_checks p = must (not (is_zero p.pin_tries)) (tries_left 0) ∷ []

abbrev pub pin_right : Pins → Pins
pin_right p = record { pin = p.pin; puk = p.puk; pin_tries = most_pin_tries; puk_tries = p.puk_tries; verified = 1 }

abbrev pub pin_wrong : Pins → Pins
pin_wrong p = record { pin = p.pin; puk = p.puk; pin_tries = p.pin_tries - 1; puk_tries = p.puk_tries; verified = 0 }

-- how the comparison with the PIN came out decides
unfoldable pub verify_reply : Bool → Card → Reply
verify_reply right c =
    cond right (succeeds (with_pins c (pin_right c.pins)) [])
    (fails (with_pins c (pin_wrong c.pins)) (tries_left (c.pins.pin_tries - 1)))

-- ---- CHANGE 21 (RULES 6.12), with a verified PIN: PIN, PUK or pairing secret
abbrev pub is_secret : SecretKind → List ℕ → Bool
is_secret secret.Pin d = are_digits 6 d
is_secret secret.Puk d = are_digits 12 d
is_secret secret.Pairing d = eqb (length d) 32

unfoldable pub change_checks : Pins → SecretKind → List ℕ → List Check
change_checks p which d = must (is_verified p) conditions_not_met ∷ must (is_secret which d) wrong_data ∷ []

-- full tries for the one changed; verification stays
abbrev pub with_pin : Pins → List ℕ → Pins
with_pin p d = record { pin = d; puk = p.puk; pin_tries = most_pin_tries; puk_tries = p.puk_tries; verified = p.verified }

abbrev pub with_puk : Pins → List ℕ → Pins
with_puk p d = record { pin = p.pin; puk = d; pin_tries = p.pin_tries; puk_tries = most_puk_tries; verified = p.verified }

unfoldable pub change_reply : Card → SecretKind → List ℕ → Reply
change_reply c secret.Pin d = succeeds (with_pins c (with_pin c.pins d)) []
change_reply c secret.Puk d = succeeds (with_pins c (with_puk c.pins d)) []
change_reply c secret.Pairing d = succeeds (with_pairing c (with_pairing_secret c.pairing d)) []

-- ---- UNBLOCK 22 (RULES 6.13): only at 0 PIN tries. PUK, any 12 bytes, then the new PIN
abbrev pub is_unblocking : List ℕ → Bool
is_unblocking d = eqb (length d) 18 && all_of is_digit (drop 12 d)

unfoldable pub unblock_checks : Pins → List ℕ → List Check
unblock_checks p d =
    must (is_zero p.pin_tries) conditions_not_met
    ∷ must (not (is_zero p.puk_tries)) (tries_left 0)
    ∷ must (is_unblocking d) wrong_data
    ∷ []

abbrev pub puk_right : Pins → List ℕ → Pins
puk_right p new_pin = record { pin = new_pin; puk = p.puk; pin_tries = most_pin_tries; puk_tries = most_puk_tries; verified = 1 }

abbrev pub puk_wrong : Pins → Pins
puk_wrong p = record { pin = p.pin; puk = p.puk; pin_tries = p.pin_tries; puk_tries = p.puk_tries - 1; verified = p.verified }

-- how the comparison with the PUK came out decides
unfoldable pub unblock_reply : Bool → Card → List ℕ → Reply
unblock_reply right c new_pin =
    cond right (succeeds (with_pins c (puk_right c.pins new_pin)) [])
    (fails (with_pins c (puk_wrong c.pins)) (tries_left (c.pins.puk_tries - 1)))

-- ---- LOAD D0 (RULES 6.14), with a verified PIN: a keypair template without or with the chain code, or a seed
abbrev pub is_key_data : KeyForm → List ℕ → Bool
is_key_data key.Keypair d = keypair false d
is_key_data key.Extended d = keypair true d
is_key_data key.Seed d = eqb (length d) 64

-- the kind of key that each form makes: 1, or 2 for an extended one
abbrev pub kind_of : KeyForm → ℕ
kind_of key.Keypair = 1
kind_of key.Extended = 2
kind_of key.Seed = 2

unfoldable pub load_checks : Pins → KeyForm → List ℕ → List Check
load_checks p form d = must (is_verified p) conditions_not_met ∷ must (is_key_data form d) wrong_data ∷ []

-- both paths are cleared
abbrev pub key_with : ℕ → List ℕ → Keys
key_with kind uid = record { kind = kind; uid = uid; current = empty_path; pinless = empty_path }

-- the key UID is computed from the supplied public key; a public key in the template is not looked at
abbrev pub uid_of : List ℕ → List ℕ
uid_of s = sha256 (load_public s)

unfoldable pub load_reply : Card → KeyForm → List ℕ → Reply
load_reply c form s = cond (says_yes s) (succeeds (with_keys c (key_with (kind_of form) (uid_of s))) (uid_of s)) (fails c wrong_data)

-- the fault offset (RULES 5.9): where WALK refuses a template, how many bytes come before the tag of the faulty field; a seed is no template
abbrev pub place_in : Walked → ℕ
place_in (Ok n) = no_fault
place_in (Err r) = r.place

unfoldable pub load_place : KeyForm → List ℕ → ℕ
load_place key.Keypair d = place_in (walk_of d)
load_place key.Extended d = place_in (walk_of d)
load_place key.Seed d = no_fault

-- ---- DERIVE D1 (RULES 6.15): an extended key, and a verified PIN or a PIN-less path
unfoldable pub derive_checks : Pins → Keys → List ℕ → List Check
derive_checks p k d =
    must ((is_verified p || is_set k.pinless) && eqb k.kind 2) conditions_not_met ∷ must (is_path d) wrong_data ∷ []

abbrev pub with_current : Keys → Path → Keys
with_current k p = record { kind = k.kind; uid = k.uid; current = p; pinless = k.pinless }

unfoldable pub derive_reply : Card → List ℕ → List ℕ → Reply
derive_reply c d s = cond (says_yes s) (succeeds (with_keys c (with_current c.keys (path_of d))) []) (fails c reference_invalid)

-- ---- REMOVE D3 (RULES 6.16), with a verified PIN: no key, both paths empty
unfoldable pub remove_checks : Pins → List Check
remove_checks p = must (is_verified p) conditions_not_met ∷ []

unfoldable pub remove_reply : Card → Reply
remove_reply c = succeeds (with_keys c no_keys) []

-- ---- SET PIN-LESS PATH C1 (RULES 6.17), with a verified PIN: data as DERIVE; empty means none
unfoldable pub pinless_checks : Pins → List ℕ → List Check
pinless_checks p d = must (is_verified p) conditions_not_met ∷ must (is_path d) wrong_data ∷ []

abbrev pub with_pinless : Keys → Path → Keys
with_pinless k p = record { kind = k.kind; uid = k.uid; current = k.current; pinless = p }

unfoldable pub pinless_reply : Card → List ℕ → Reply
pinless_reply c d = succeeds (with_keys c (with_pinless c.keys (path_of d))) []

-- ---- SIGN C0 (RULES 6.18): a key, and a verified PIN or a PIN-less path that is not empty and equals the current one
abbrev pub on_pinless_path : Keys → Bool
on_pinless_path k = is_set k.pinless && same_bytes (path_bytes k.pinless) (path_bytes k.current)

unfoldable pub sign_checks : Pins → Keys → List ℕ → List Check
sign_checks p k d =
    must (has_key k && (is_verified p || on_pinless_path k)) conditions_not_met ∷ must (eqb (length d) 32) wrong_data ∷ []

unfoldable pub sign_reply : Card → List ℕ → Reply
sign_reply c s = succeeds c (answer.signature (sign_key s) (sign_r s) (sign_s s))

-- ---- EXPORT C2 (RULES 6.19), with an extended key and a verified PIN; a PIN-less path does not help
-- the data for each P1: none, or a path as DERIVE's
abbrev pub is_export_data : ExportPath → List ℕ → Bool
is_export_data export_path.Current d = is_zero (length d)
is_export_data export_path.Given d = is_path d
is_export_data export_path.MakeCurrent d = is_path d

-- the path whose keys go out
abbrev pub exported_path : ExportPath → Keys → List ℕ → List ℕ
exported_path export_path.Current k d = path_bytes k.current
exported_path export_path.Given k d = d
exported_path export_path.MakeCurrent k d = d

-- the node whose keys are no money's (EIP-1581): 8000002B 8000003C 8000062D; a path that begins so is that node or below it
abbrev pub eip1581_node : List ℕ
eip1581_node = 0x80 ∷ 0x00 ∷ 0x00 ∷ 0x2B ∷ 0x80 ∷ 0x00 ∷ 0x00 ∷ 0x3C ∷ 0x80 ∷ 0x00 ∷ 0x06 ∷ 0x2D ∷ []

abbrev pub in_eip1581 : List ℕ → Bool
in_eip1581 path = same_bytes (take 12 path) eip1581_node

-- a private key goes out there alone, a public key everywhere
abbrev pub may_go_out : ExportPart → List ℕ → Bool
may_go_out export_part.PrivateAndPublic path = in_eip1581 path
may_go_out export_part.PublicOnly path = true

unfoldable pub export_checks : Pins → Keys → ExportPath → ExportPart → List ℕ → List Check
export_checks p k which what d =
    must (eqb k.kind 2 && is_verified p) conditions_not_met
    ∷ must (is_export_data which d) wrong_data
    ∷ must (may_go_out what (exported_path which k d)) conditions_not_met
    ∷ []

-- what goes out, from the supply
abbrev pub exported_keys : ExportPart → List ℕ → List ℕ
exported_keys export_part.PrivateAndPublic s = answer.exported_pair (export_public s) (export_private s)
exported_keys export_part.PublicOnly s = answer.exported_public (export_public s)

-- P1 02: the given path becomes current
abbrev pub keys_after_export : ExportPath → Keys → List ℕ → Keys
keys_after_export export_path.Current k d = k
keys_after_export export_path.Given k d = k
keys_after_export export_path.MakeCurrent k d = with_current k (path_of d)

unfoldable pub export_reply : Card → ExportPath → ExportPart → List ℕ → List ℕ → Reply
export_reply c which what d s =
    cond (says_yes s) (succeeds (with_keys c (keys_after_export which c.keys d)) (exported_keys what s)) (fails c reference_invalid)

-- ---- SET NDEF F3 (RULES 6.20), with a verified PIN: the data become the tap record, their two length bytes with them
unfoldable pub ndef_checks : Pins → List ℕ → List Check
ndef_checks p d = must (is_verified p) conditions_not_met ∷ must (is_ndef d) wrong_data ∷ []

unfoldable pub ndef_reply : Card → List ℕ → Reply
ndef_reply c d = succeeds (with_tap c (tap_of d)) []

-- ---- GENERATE MNEMONIC D2 (RULES 6.22), without a PIN: no data; the word numbers of the supplied entropy, 2 bytes each
unfoldable pub mnemonic_checks : List ℕ → List Check
mnemonic_checks d = must (is_zero (length d)) wrong_data ∷ []

unfoldable pub mnemonic_reply : Card → ℕ → List ℕ → Reply
mnemonic_reply c bits s = succeeds c (numbers_of (mnemonic_entropy bits s))

-- ---- the rules (RULES 6.2): for each command its checks, the supply that is read past them or the secret that is compared, and its reply
unfoldable pub rule_of : Command → Rule
rule_of command.Select = rule (λ c d. select_checks d) no_supply (λ c d s. select_reply c)
rule_of command.Init = rule (λ c d. init_checks d) init_supply init_reply
rule_of (command.Open i) = rule (λ c d. open_checks c.pairing.slots i d) open_supply (λ c d s. open_reply c s)
rule_of command.Mutual = rule (λ c d. mutual_checks c.channel.stage d) mutual_supply (λ c d s. mutual_reply c s)
rule_of command.PairFirst = rule (λ c d. pair_first_checks c.pairing c.channel.stage d) pair_first_supply pair_first_reply
rule_of command.PairFinal = rule (λ c d. pair_final_checks c.pairing c.channel.stage d) pair_final_supply (λ c d s. pair_final_reply c s)
rule_of (command.Unpair i) = rule (λ c d. unpair_checks c.pins) no_supply (λ c d s. unpair_reply c i)
rule_of (command.Status which) = rule (λ c d. []) no_supply (λ c d s. status_reply c which)
rule_of command.Verify = comparing pin (λ c d. verify_checks c.pins) (λ right c d. verify_reply right c)
rule_of (command.Change which) = rule (λ c d. change_checks c.pins which d) no_supply (λ c d s. change_reply c which d)
rule_of command.Unblock = comparing puk (λ c d. unblock_checks c.pins d) (λ right c d. unblock_reply right c (drop 12 d))
rule_of (command.Load form) =
    placing (load_place form) (rule (λ c d. load_checks c.pins form d) load_supply (λ c d s. load_reply c form s))
rule_of command.Derive = rule (λ c d. derive_checks c.pins c.keys d) derive_supply derive_reply
rule_of command.Remove = rule (λ c d. remove_checks c.pins) no_supply (λ c d s. remove_reply c)
rule_of command.SetPinless = rule (λ c d. pinless_checks c.pins d) no_supply (λ c d s. pinless_reply c d)
rule_of command.Sign = rule (λ c d. sign_checks c.pins c.keys d) sign_supply (λ c d s. sign_reply c s)
rule_of (command.Export which what) =
    rule (λ c d. export_checks c.pins c.keys which what d) export_supply (λ c d s. export_reply c which what d s)
rule_of command.SetNdef = rule (λ c d. ndef_checks c.pins d) no_supply (λ c d s. ndef_reply c d)
rule_of (command.Mnemonic x) =
    rule (λ c d. mnemonic_checks d) (mnemonic_supply (checksum_bits x)) (λ c d s. mnemonic_reply c (checksum_bits x) s)
