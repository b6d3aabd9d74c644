-- What the terminal's two operations give (RULES 8.6, 8.7), and what a sealed response looks like (RULES 8.5).
use Rattle.std.specs.Prelude.{ℕ, ◌-◌, cond, List, [], ◌∷◌, ◌++◌, ltb, length, take, drop}
use Rattle.std.proofs.Math.Option.{Option, none, some}
use Rattle.refusals.specs.Refusals.{no_refusal, no_room, data_long, not_genuine, seal_room, unseal_room, data_most}
use Rattle.octets.specs.Bytes.{same_bytes}
use Rattle.channel_rules.specs.declared.Session.{Session}
use Rattle.channel_rules.specs.Message.{with_iv, lc, command_head, response_head, ciphertext, field_mac, seal_field, open_field}

-- what an operation gives: the number of a refusal or of none, the next session, and the bytes written from the buffer's start
pub record Out : Type 0 where
  pub refusal : ℕ
  pub session : Session
  pub bytes : List ℕ

-- a refusal gives back the session and writes nothing (RULES 3.2)
abbrev pub refused : Session → ℕ → Out
refused s number = record { refusal = number; session = s; bytes = [] }

-- SEAL (RULES 8.6): the header, Lc, and the sealed field; room and data are counted in bytes
abbrev pub sealed_command : Session → List ℕ → List ℕ → List ℕ
sealed_command s header data' = header ++ (lc (length (ciphertext s data')) ∷ seal_field s (command_head header) data')

unfoldable pub seal_out : Session → List ℕ → List ℕ → ℕ → Out
seal_out s header data' room =
    cond (ltb room seal_room) (refused s no_room)
    (cond (ltb data_most (length data')) (refused s data_long)
    (record { refusal = no_refusal; session = with_iv s (field_mac s (command_head header) data'); bytes = sealed_command s header data' }))

-- a response in stage 2 (RULES 8.5): the field of data and status word, then 9000 in the clear
abbrev pub plain_success : List ℕ
plain_success = 0x90 ∷ 0x00 ∷ []

unfoldable pub sealed_response : Session → List ℕ → List ℕ
sealed_response s plain = seal_field s response_head plain ++ plain_success

-- UNSEAL (RULES 8.7): genuine is a response that ends in 9000 and whose field opens to two bytes or more
abbrev pub sealed_field : List ℕ → List ℕ
sealed_field response = take (length response - 2) response

abbrev pub unsealed : Session → List ℕ → Option (List ℕ) → Out
unsealed s field none = refused s not_genuine
unsealed s field (some plain) =
    cond (ltb (length plain) 2) (refused s not_genuine) (record { refusal = no_refusal; session = with_iv s (take 16 field); bytes = plain })

unfoldable pub unseal_out : Session → List ℕ → ℕ → Out
unseal_out s response room =
    cond (ltb room unseal_room) (refused s no_room)
    (cond (same_bytes (drop (length response - 2) response) plain_success) (unsealed s (sealed_field response) (open_field s response_head (sealed_field response)))
    (refused s not_genuine))
