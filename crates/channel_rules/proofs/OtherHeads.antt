-- A field that was sealed under another head block, with the same session, does not open; UNSEAL refuses a response that was sealed so.
-- Assumes nothing.
use mathlib.Core.Path.{◌≡◌, refl, sym, ap, ap₂, ◌∙◌}
use mathlib.Core.Bool.{Bool, cond}
use mathlib.Core.List.{List, ◌++◌}
use mathlib.Core.Option.{Option, none, some}
use Prim.Native.Nat.{ℕ, ◌-◌, ◌%◌, ◌≤◌, ◌<◌}
use native.Mathlib.Omega.{arith}
use borrow.Author.Tests.{le-ltb, lt-ltb}
use lib.ListN.{length, drop}
use Rattle.refusals.specs.Refusals.{no_room, not_genuine, unseal_room, data_most}
use Rattle.octets.specs.Bytes.{Bytes, Block, same_bytes}
use Rattle.octets.proofs.Lists.{same_refl}
use Rattle.aes_rules.specs.Aes.{aes256, inv_aes256}
use Rattle.aes_rules.proofs.Permutation.{aes-permutes}
use Rattle.aes_cbc.proofs.Heads.{mac-injective}
use Rattle.aes_padding.proofs.Laws.{padded-whole}
use Rattle.channel_rules.specs.declared.Session.{Session}
use Rattle.channel_rules.specs.Message.{Keyed, response_head, ciphertext, mac_of, seal_field, open_field}
use Rattle.channel_rules.specs.Terminal.{Out, refused, plain_success, sealed_field, unsealed, unseal_out}
use Rattle.channel_rules.proofs.Fields.{length-ciphertext, bytes-ciphertext, length-field, bytes-field, take-field, drop-field, genuine}
use Rattle.channel_rules.proofs.Trips.{short, response-head-block, field-before-end, end-after-field}

-- what UNSEAL gives past the test of the room
abbrev judged : Session → List ℕ → Out
judged s response =
    cond (same_bytes (drop (length response - 2) response) plain_success)
    (unsealed s (sealed_field response) (open_field s response_head (sealed_field response))) (refused s not_genuine)

-- ---- unseal_out, where the room is not enough: whatever the response is
pub no-room : (s : Session) (response : List ℕ) (room : ℕ) → room < unseal_room → unseal_out s response room ≡ refused s no_room
unfolding unseal_out
no-room s response room l =
    ap (λ (b : Bool). cond b (refused s no_room) (judged s response)) (lt-ltb room unseal_room l)

module _ (s : Session) (k : Keyed s) (other : ℕ → List ℕ) (d : List ℕ) (hd : Bytes d) (ho : Block (other (length (ciphertext s d)))) where
  abbrev n : ℕ
  n = length (ciphertext s d)

  abbrev field : List ℕ
  field = seal_field s other d

  -- ---- open_field
  module _ (head : ℕ → List ℕ) (hh : Block (head n)) (differ : head n ≡ other n → ⊥) where
    same-mac : (x : List ℕ) → open_field s head field ≡ some x → mac_of s (head n) (ciphertext s d) ≡ mac_of s (other n) (ciphertext s d)
    same-mac x e =
        let long : length field - 16 ≡ n = omega (arith, length-field s k other d hd ho, length-ciphertext s k d hd) in
        sym (ap₂ (λ (m : ℕ) (c : List ℕ). mac_of s (head m) c) long (drop-field s k other d hd ho))
        ∙ genuine s k head field x (bytes-field s k other d hd ho) e
        ∙ take-field s k other d hd ho

    same_head : (x : List ℕ) → open_field s head field ≡ some x → head n ≡ other n
    unfolding mac_of
    same_head x e =
        mac-injective (aes256 s.mac_key) (inv_aes256 s.mac_key) (aes-permutes s.mac_key k.mac) (head n) (other n) (ciphertext s d)
        hh ho (bytes-ciphertext s k d hd) (ap (λ (m : ℕ). m % 16) (length-ciphertext s k d hd) ∙ padded-whole (length d)) (same-mac x e)

    pub other-refused : open_field s head field ≡ none
    other-refused = go (open_field s head field) refl
      where
        go : (o : Option (List ℕ)) → open_field s head field ≡ o → o ≡ none
        go none e = refl
        go (some x) e = absurd (differ (same_head x e))

  -- ---- unseal_out, where the room is enough
  module _ (fits : length d ≤ data_most) (differ : response_head n ≡ other n → ⊥) (room : ℕ) where
    abbrev response : List ℕ
    response = field ++ plain_success

    pub other-not-genuine : unseal_room ≤ room → unseal_out s response room ≡ refused s not_genuine
    unfolding unseal_out
    other-not-genuine l =
        ap (λ (b : Bool). cond b (refused s no_room) (judged s response)) (le-ltb room unseal_room l)
        ∙ ap (λ (b : Bool). cond b (unsealed s (sealed_field response) (open_field s response_head (sealed_field response))) (refused s not_genuine))
        (ap (λ (y : List ℕ). same_bytes y plain_success) (end-after-field field) ∙ same_refl plain_success)
        ∙ ap (λ (f : List ℕ). unsealed s f (open_field s response_head f)) (field-before-end field)
        ∙ ap (unsealed s field) (other-refused response_head (response-head-block n (short s k d hd fits)) differ)
