-- Lists of calls that reach what a run can start from: INIT on FRESH reaches an initialised sound card; PAIR, OPEN and MUTUAL then reach the
-- stages 1 and 2; VERIFY and LOAD reach the key kinds 1 and 2. Plain commands are computed, sealed ones open by the law of sealed messages;
-- nothing of AES is computed.
-- Assumes nothing.
use Rattle.std.specs.Prelude.{Ok}
use mathlib.Core.Path.{◌≡◌, refl, sym, ap, ◌∙◌, subst}
use mathlib.Core.Bool.{true, false}
use mathlib.Core.List.{List, [], ◌∷◌, ◌++◌}
use mathlib.Core.Option.{Option, some}
use Prim.Native.Nat.{ℕ, ◌≤◌, ◌<◌}
use native.Mathlib.Omega.{arith}
use borrow.Author.Tests.{le-ltb}
use lib.ListN.{length, take, replicate, length-append}
use lib.Seq.{take_all}
use Rattle.octets.specs.Bytes.{Bytes, Block}
use Rattle.octets.proofs.Lists.{bytes-append, bytes-replicate, same_refl}
use Rattle.aes_rules.specs.Aes.{inv_aes256}
use Rattle.aes_cbc.specs.Mode.{cbc_decrypt}
use Rattle.aes_padding.specs.Padding.{padded_bytes, unpad}
use Rattle.aes_padding.proofs.Laws.{unpad-pad}
use Rattle.sha_rules.specs.Hash.{sha256}
use Rattle.sha_rules.proofs.Blocks.{length-sha256, bytes-sha256}
use Rattle.refusals.specs.Refusals.{answer_room}
use Rattle.channel_rules.specs.declared.Session.{Session}
use Rattle.channel_rules.specs.Message.{Keyed, lc, command_head, response_head, ciphertext, field_mac, seal_field}
use Rattle.channel_rules.specs.Terminal.{sealed_command}
use Rattle.channel_rules.proofs.Fields.{length-ciphertext, decrypted}
use Rattle.channel_rules.proofs.Trips.{command-opens, command-sessions, command-keyed, response-keyed}
use Rattle.card.specs.declared.Keys.{Keys}
use Rattle.card.specs.declared.Slot.{Slot}
use Rattle.card.specs.declared.Card.{Card}
use Rattle.card.specs.State.{zeros, fresh_of, no_keys, no_tap, with_pairing, with_channel}
use Rattle.card.specs.Slots.{all_of, some_of}
use Rattle.card.specs.Sound.{is_sound}
use Rattle.card_slots.specs.Free.{first_free}
use Rattle.rules.specs.declared.Supply.{Supply}
use Rattle.rules.specs.declared.KeyForm.TheVariants as key
use Rattle.rules.specs.declared.Instruction.{Instruction}
use Rattle.rules.specs.declared.Instruction.TheVariants as ins
use Rattle.rules.specs.declared.Command.{Command}
use Rattle.rules.specs.declared.Command.TheVariants as command
use Rattle.rules.specs.Words.{Hold, success, word, Reply, succeeds}
use Rattle.rules.specs.Supplies.{init_supply, pair_final_supply, suits}
use Rattle.rules.specs.Rules.{no_fault}
use Rattle.rules.specs.Rows.{row_of, is_plain}
use Rattle.rules.specs.Commands.{mutual_checks, mutual_reply, verify_checks, verify_reply, load_checks, load_reply, key_with, open_checks, open_reply, pair_final_checks, pair_into, pair_final_reply, pair_first_checks, pair_first_reply, with_slot, filled_with, init_checks, init_content, init_with, init_reply, initialised_with, rule_of}
use Rattle.rules.specs.Channel.{Outgoing, plainly, tell}
use Rattle.rules.specs.Steps.{step1, data_of, name_of, Arrived, in_stage, failed, step4, step5, past_step1, arrival, checks_of, supply_of, reply_of, step6, finish, decide}
use Rattle.rules.specs.Engine.{AnswerOut, answered, answer_out}
use Rattle.laws_two_runs.specs.Runs.{Call, answer, next_at, end_of}
use Rattle.laws_two_runs.proofs.Over.{kept-over}
use Rattle.laws_two_runs.proofs.Compared.{step6-replies}
use Rattle.laws_two_runs.proofs.Sealed.{data-filled, header_is, sealed-data, sealed-arrives}

-- ---- ANSWER where the order of checks comes to this decision, and the supply suits
pub answers : (c : Card) (cmd s : List ℕ) (room : ℕ) (u : Supply) (d : List ℕ) (f : List ℕ → Outgoing) → is_sound c ≡ true → answer_room ≤ room
    → decide c cmd ≡ record { supply = u; data' = d; answer = f; fault_offset = no_fault } → suits u s ≡ true → answer_out c cmd s room ≡ answered (f s)
unfolding answer_out
answers c cmd s room u d f e l m z = rw (e, le-ltb room answer_room l, m, z)

-- ---- INIT on FRESH
abbrev pub fresh : Card
fresh = fresh_of (zeros 16) (zeros 65)

-- PIN 000000, PUK 000000000000, and a pairing secret of zeros
abbrev pub content : List ℕ
content = replicate 18 0x30 ++ zeros 32

-- the key and the IV that the content is enciphered under, both zeros
abbrev under : Session
under = record { enc_key = zeros 32; mac_key = zeros 32; iv = zeros 16 }

pub under-keyed : Keyed under
under-keyed = record {
  enc = record { long = refl; bytes = bytes-replicate 32 0 (omega arith) };
  mac = record { long = refl; bytes = bytes-replicate 32 0 (omega arith) };
  iv = record { long = refl; bytes = bytes-replicate 16 0 (omega arith) };
}

abbrev enciphered : List ℕ
enciphered = ciphertext under content

abbrev pub init_data : List ℕ
init_data = 0x41 ∷ 0x04 ∷ (zeros 64 ++ (zeros 16 ++ enciphered))

abbrev pub init_command : List ℕ
init_command = 0x80 ∷ 0xFE ∷ 0 ∷ 0 ∷ 146 ∷ init_data

abbrev pub init_call : Call
init_call = answer init_command (1 ∷ zeros 32) (zeros 258)

abbrev pub initialised_card : Card
initialised_card = initialised_with fresh content

content-bytes : Bytes content
content-bytes = bytes-append (replicate 18 0x30) (zeros 32) (bytes-replicate 18 0x30 (omega arith)) (bytes-replicate 32 0 (omega arith))

long : length enciphered ≡ 64
unfolding padded_bytes
long = length-ciphertext under under-keyed content content-bytes

init-long : length init_data ≡ 146
init-long = omega (arith, long)

init-form : data_of init_command ≡ some init_data
init-form =
    ap (λ (n : ℕ). data_of (0x80 ∷ 0xFE ∷ 0 ∷ 0 ∷ n ∷ init_data)) (sym init-long) ∙ data-filled 0x80 0xFE 0 0 init_data (omega (arith, init-long))

init-opens : init_content (zeros 32) init_data ≡ some content
unfolding init_content
init-opens =
    ap (λ (y : List ℕ). unpad (cbc_decrypt (inv_aes256 (zeros 32)) (zeros 16) y)) (take_all 64 enciphered (omega (arith, long)))
    ∙ ap unpad (decrypted under under-keyed content content-bytes)
    ∙ unpad-pad content

init-replies : init_reply fresh init_data (1 ∷ zeros 32) ≡ record { status = success; response = []; card = initialised_card }
unfolding init_reply init_with all_of
init-replies = ap (λ (o : Option (List ℕ)). init_with fresh o) init-opens

init-decides : decide fresh init_command
    ≡ record { supply = init_supply; data' = init_data; answer = λ s. plainly (init_reply fresh init_data s); fault_offset = no_fault }
unfolding decide arrival step1 past_step1 name_of step4 step5 step6 rule_of init_checks tell
init-decides = rw (init-form, init-long)

fresh-is-sound : is_sound fresh ≡ true
unfolding is_sound all_of
fresh-is-sound = refl

pub init-reaches : next_at fresh init_call ≡ initialised_card
unfolding next_at suits
init-reaches =
    ap (λ (a : AnswerOut). a.card)
    (answers fresh init_command (1 ∷ zeros 32) 258 init_supply init_data (λ s. plainly (init_reply fresh init_data s)) fresh-is-sound (omega arith)
    init-decides refl)
    ∙ ap (λ (r : Reply). r.card) init-replies

pub initialised-sound : is_sound initialised_card ≡ true
unfolding is_sound all_of some_of
initialised-sound = refl

-- ---- what a list of calls reaches from FRESH
pub record Reachable (c : Card) : Type 0 where
  pub calls : List Call
  pub ends : end_of fresh calls ≡ c

end-then : (c : Card) (calls : List Call) (k : Call) → end_of c (calls ++ (k ∷ [])) ≡ next_at (end_of c calls) k
unfolding end_of
end-then c [] k = refl
end-then c (j ∷ more) k = end-then (next_at c j) more k

step : {d : Card} (c : Card) → Reachable c → (k : Call) → next_at c k ≡ d → Reachable d
step c r k e = record {
  calls = r.calls ++ (k ∷ []);
  ends = end-then fresh r.calls k ∙ ap (λ (x : Card). next_at x k) r.ends ∙ e;
}

pub fresh-reached : Reachable fresh
unfolding end_of
fresh-reached = record { calls = []; ends = refl }

pub initialised-reached : Reachable initialised_card
initialised-reached = step fresh fresh-reached init_call init-reaches

-- ---- PAIR and OPEN. The pairing secret, both challenges and the salt are zeros, so that both cryptograms and the pairing key are one hash; the
-- client sends it
abbrev pub pair_hash : List ℕ
pair_hash = sha256 (zeros 32 ++ zeros 32)

abbrev pub pair_first_call : Call
pair_first_call = answer (0x80 ∷ 0x12 ∷ 0 ∷ 0 ∷ 32 ∷ zeros 32) (zeros 32) (zeros 258)

abbrev pub pair_final_command : List ℕ
pair_final_command = 0x80 ∷ 0x12 ∷ 1 ∷ 0 ∷ 32 ∷ pair_hash

abbrev pub pair_final_call : Call
pair_final_call = answer pair_final_command (zeros 32) (zeros 258)

abbrev open_call : Call
open_call = answer (0x80 ∷ 0x10 ∷ 0 ∷ 0 ∷ 65 ∷ 0x04 ∷ zeros 64) (1 ∷ zeros 112) (zeros 258)

-- the card that INIT has made, with these slots and a pending pairing
abbrev pub pending_on : List Slot → Card
pending_on slots = with_pairing initialised_card (record { secret = zeros 32; slots = slots; pending = 1; expected = pair_hash })

abbrev pending_card : Card
pending_card = pending_on initialised_card.pairing.slots

abbrev paired_card : Card
paired_card = with_pairing initialised_card (with_slot initialised_card.pairing 0 (filled_with pair_hash))

abbrev stage1_card : Card
stage1_card = with_channel paired_card (record { stage = 1; enc_key = zeros 32; mac_key = zeros 32; iv = zeros 16 })

pair-first-next : next_at initialised_card pair_first_call ≡ pending_card
unfolding next_at answer_out is_sound all_of some_of decide arrival step1 past_step1 data_of name_of step4 step5 step6 rule_of pair_first_checks suits pair_first_reply tell
pair-first-next = refl

pub final-form : data_of pair_final_command ≡ some pair_hash
final-form =
    ap (λ (n : ℕ). data_of (0x80 ∷ 0x12 ∷ 1 ∷ 0 ∷ n ∷ pair_hash)) (sym (length-sha256 (zeros 32 ++ zeros 32)))
    ∙ data-filled 0x80 0x12 1 0 pair_hash (omega (arith, length-sha256 (zeros 32 ++ zeros 32)))

module _ (slots : List Slot) where
  final-decides : decide (pending_on slots) pair_final_command
      ≡ record { supply = pair_final_supply; data' = pair_hash; answer = λ s. plainly (pair_final_reply (pending_on slots) s); fault_offset = no_fault }
  unfolding decide arrival step1 past_step1 name_of step4 step5 step6 rule_of pair_final_checks tell
  final-decides = rw (final-form, length-sha256 (zeros 32 ++ zeros 32), same_refl pair_hash)

  pub final-answers : is_sound (pending_on slots) ≡ true
      → answer_out (pending_on slots) pair_final_command (zeros 32) 258 ≡ answered (plainly (pair_final_reply (pending_on slots) (zeros 32)))
  unfolding suits
  final-answers sound =
      answers (pending_on slots) pair_final_command (zeros 32) 258 pair_final_supply pair_hash (λ s. plainly (pair_final_reply (pending_on slots) s)) sound
      (omega arith) final-decides refl

  pub final-next : is_sound (pending_on slots) ≡ true → next_at (pending_on slots) pair_final_call ≡ (pair_final_reply (pending_on slots) (zeros 32)).card
  unfolding next_at
  final-next sound = ap (λ (a : AnswerOut). a.card) (final-answers sound)

pair-final-next : next_at pending_card pair_final_call ≡ paired_card
unfolding is_sound all_of some_of pair_final_reply pair_into first_free
pair-final-next = final-next initialised_card.pairing.slots refl

open_next : next_at paired_card open_call ≡ stage1_card
unfolding next_at answer_out is_sound all_of some_of decide arrival step1 past_step1 data_of name_of step4 step5 step6 rule_of open_checks suits open_reply tell
open_next = refl

pub stage1-reached : Reachable stage1_card
stage1-reached =
    step paired_card (step pending_card (step initialised_card initialised-reached pair_first_call pair-first-next) pair_final_call pair-final-next)
    open_call open_next

-- ---- sealed commands
-- the paired card in stage n with this IV; its session has keys of zeros
abbrev pub in_channel : ℕ → List ℕ → ℕ → Keys → Card
in_channel n iv verified keys = record {
  initialised = 1;
  identity = paired_card.identity;
  pins = record { pin = replicate 6 0x30; puk = replicate 12 0x30; pin_tries = 3; puk_tries = 5; verified = verified };
  pairing = paired_card.pairing;
  keys = keys;
  channel = record { stage = n; enc_key = zeros 32; mac_key = zeros 32; iv = iv };
  tap = no_tap;
}

stage1-is : stage1_card ≡ in_channel 1 (zeros 16) 0 no_keys
stage1-is = refl

-- a card with this IV that a list of calls reaches
pub record Reaching (n verified : ℕ) (keys : Keys) : Type 0 where
  pub iv : List ℕ
  pub block : Block iv
  pub reached : Reachable (in_channel n iv verified keys)

abbrev pub session_with : List ℕ → Session
session_with iv = record { enc_key = zeros 32; mac_key = zeros 32; iv = iv }

pub session-keyed : (iv : List ℕ) → Block iv → Keyed (session_with iv)
session-keyed iv h = record { enc = under-keyed.enc; mac = under-keyed.mac; iv = h }

-- one sealed command, from a card in stage n to one in stage 2: 80 b p1 00 with the data d and the supply u
module _ (n verified : ℕ) (keys : Keys) (b p1 : ℕ) (b-byte : b < 256) (p1-byte : p1 < 256) (d u : List ℕ) (bytes : Bytes d) (fits : length d ≤ 223)
    (i : Instruction) (k : Command) (name : name_of true 0x80 b ≡ Ok i) (plain : is_plain i ≡ false) (staged : in_stage i n ≡ true)
    (listed : (row_of i).lists p1 0 ≡ some k) (suited : suits (supply_of k) u ≡ true)
    (sound : (iv : List ℕ) → is_sound (in_channel n iv verified keys) ≡ true)
    (first : (iv more : List ℕ) → step1 (0x80 ∷ b ∷ more) (in_channel n iv verified keys) ≡ in_channel n iv verified keys)
    (checks : (iv : List ℕ) → Hold (checks_of k (in_channel n iv verified keys) d))
    (verified' : ℕ) (keys' : Keys) (response : List ℕ) (answer-bytes : Bytes response) (answer-fits : length response ≤ 221)
    (replies : (iv : List ℕ) → reply_of k (in_channel n iv verified keys) d u ≡ succeeds (in_channel 2 iv verified' keys') response) where
  module _ (iv : List ℕ) (block : Block iv) where
    abbrev header : List ℕ
    header = 0x80 ∷ b ∷ p1 ∷ 0 ∷ []

    abbrev s : Session
    s = session_with iv

    abbrev c : Card
    c = in_channel n iv verified keys

    abbrev cmd : List ℕ
    cmd = sealed_command s header d

    abbrev field : List ℕ
    field = seal_field s (command_head header) d

    keyed : Keyed s
    keyed = session-keyed iv block

    abbrev opened : Card
    opened = in_channel n (take 16 field) verified keys

    abbrev arrived : Arrived
    arrived = record { command = k; data' = d; card = opened; lost = failed (row_of i).loss p1 opened; over = true }

    decides : decide c cmd ≡ record { supply = supply_of k; data' = d; answer = λ y. tell true (reply_of k opened d y); fault_offset = no_fault }
    unfolding decide
    decides =
        ap finish (sealed-arrives c c cmd field d i k (first iv (p1 ∷ 0 ∷ lc (length (ciphertext s d)) ∷ field))
        (sealed-data s keyed b p1 b-byte p1-byte d bytes fits) name plain staged
        (command-opens s keyed header d (header_is b p1 b-byte p1-byte) bytes fits) listed)
        ∙ rw (kept-over i opened plain, plain) (step6-replies arrived (checks (take 16 field)))

    opened-keyed : Keyed (session_with (take 16 field))
    opened-keyed =
        subst (λ (x : Session). Keyed x) (sym (command-sessions s keyed header d (header_is b p1 b-byte p1-byte) bytes fits))
        (command-keyed s keyed header d (header_is b p1 b-byte p1-byte) bytes fits)

    abbrev plaintext : List ℕ
    plaintext = response ++ word success

    abbrev mac : List ℕ
    mac = field_mac (session_with (take 16 field)) response_head plaintext

    mac-block : Block mac
    mac-block =
        (response-keyed (session_with (take 16 field)) opened-keyed plaintext
        (bytes-append response (word success) answer-bytes (omega arith, (omega arith, tt)))
        (omega (arith, length-append response (word success), answer-fits))).iv

    told : (tell true (succeeds (in_channel 2 (take 16 field) verified' keys') response)).card ≡ in_channel 2 mac verified' keys'
    unfolding tell
    told = refl

    next : next_at c (answer cmd u (zeros 258)) ≡ in_channel 2 mac verified' keys'
    unfolding next_at
    next =
        ap (λ (a : AnswerOut). a.card)
        (answers c cmd u 258 (supply_of k) d (λ y. tell true (reply_of k (in_channel n (take 16 field) verified keys) d y)) (sound iv) (omega arith)
        decides suited)
        ∙ ap (λ (r : Reply). (tell true r).card) (replies (take 16 field))
        ∙ told

  sealed-step : Reaching n verified keys → Reaching 2 verified' keys'
  sealed-step r = record {
    iv = mac r.iv r.block;
    block = mac-block r.iv r.block;
    reached = step (c r.iv r.block) r.reached (answer (cmd r.iv r.block) u (zeros 258)) (next r.iv r.block);
  }

-- ---- MUTUAL: stage 2
pub stage2-reached : Reaching 2 0 no_keys
unfolding name_of rule_of suits is_sound all_of some_of step1 mutual_checks mutual_reply
stage2-reached =
    sealed-step 1 0 no_keys 0x11 0 (omega arith) (omega arith) (zeros 32) (zeros 32) (bytes-replicate 32 0 (omega arith)) (omega arith) ins.Mutual
    command.Mutual refl refl refl refl refl (λ iv. refl) (λ iv more. refl) (λ iv. (refl, (refl, tt))) 0 no_keys (zeros 32) (bytes-replicate 32 0 (omega arith))
    (omega arith) (λ iv. refl)
    (record { iv = zeros 16; block = under-keyed.iv; reached = stage1-reached })

-- VERIFY with the right PIN
pub verified-reached : Reaching 2 1 no_keys
unfolding name_of rule_of suits is_sound all_of some_of step1 verify_checks verify_reply
verified-reached =
    sealed-step 2 0 no_keys 0x20 0 (omega arith) (omega arith) (replicate 6 0x30) [] (bytes-replicate 6 0x30 (omega arith)) (omega arith) ins.Verify
    command.Verify refl refl refl refl refl (λ iv. refl) (λ iv more. refl) (λ iv. (refl, tt)) 1 no_keys [] tt (omega arith) (λ iv. refl) stage2-reached

-- ---- LOAD: a keypair template with a private key of zeros, kind 1; a seed of zeros, kind 2. The supplied public key is zeros, and this its hash
abbrev pub key_hash : List ℕ
key_hash = sha256 (zeros 65)

abbrev keypair_data : List ℕ
keypair_data = 0xA1 ∷ 0x22 ∷ 0x81 ∷ 0x20 ∷ zeros 32

keypair-bytes : Bytes keypair_data
keypair-bytes = (omega arith, (omega arith, (omega arith, (omega arith, bytes-replicate 32 0 (omega arith)))))

pub kind1-reached : Reaching 2 1 (key_with 1 key_hash)
unfolding name_of rule_of suits is_sound all_of some_of step1 load_checks load_reply
kind1-reached =
    sealed-step 2 1 no_keys 0xD0 1 (omega arith) (omega arith) keypair_data (1 ∷ zeros 65) keypair-bytes (omega arith) ins.Load
    (command.Load key.Keypair) refl refl refl refl refl (λ iv. refl) (λ iv more. refl) (λ iv. (refl, (refl, tt))) 1 (key_with 1 key_hash) key_hash
    (bytes-sha256 (zeros 65)) (omega (arith, length-sha256 (zeros 65))) (λ iv. refl) verified-reached

pub kind2-reached : Reaching 2 1 (key_with 2 key_hash)
unfolding name_of rule_of suits is_sound all_of some_of step1 load_checks load_reply
kind2-reached =
    sealed-step 2 1 no_keys 0xD0 3 (omega arith) (omega arith) (zeros 64) (1 ∷ zeros 65) (bytes-replicate 64 0 (omega arith)) (omega arith) ins.Load
    (command.Load key.Seed) refl refl refl refl refl (λ iv. refl) (λ iv more. refl) (λ iv. (refl, (refl, tt))) 1 (key_with 2 key_hash) key_hash
    (bytes-sha256 (zeros 65)) (omega (arith, length-sha256 (zeros 65))) (λ iv. refl) verified-reached

-- each of these cards is sound, whatever its IV
pub reached-sound : (iv : List ℕ)
    → (is_sound (in_channel 2 iv 0 no_keys) ≡ true)
    × (is_sound (in_channel 2 iv 1 (key_with 1 key_hash)) ≡ true)
    × (is_sound (in_channel 2 iv 1 (key_with 2 key_hash)) ≡ true)
unfolding is_sound all_of some_of
reached-sound iv = (refl, refl, refl)
