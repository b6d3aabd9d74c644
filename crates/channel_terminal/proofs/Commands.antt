-- The buffer through SEAL: the data put after the places of the front and of the MAC, the field sealed in the part of the buffer after
-- the front, and the front written.
-- Assumes nothing.
use mathlib.Core.Path.{◌≡◌, sym, ap, ap₂, ◌∙◌}
use mathlib.Core.List.{List, [], ◌∷◌, ◌++◌, append_assoc}
use Prim.Native.Nat.{ℕ, ◌+◌, ◌-◌, ◌≤◌}
use native.Mathlib.Omega.{arith}
use lib.ListN.{length, take, drop, length-append}
use lib.Seq.{drop_at, drop-drop, length-take-le}
use Rattle.refusals.specs.Refusals.{no_refusal, seal_room, data_most}
use Rattle.octets.specs.Bytes.{overwrite, written}
use Rattle.octets.proofs.Lists.{overwritten, length-overwrite, drop-overwrite-behind}
use Rattle.aes_padding.specs.Padding.{padded_bytes}
use Rattle.aes_padding.proofs.Laws.{padded-larger}
use Rattle.channel_rules.specs.declared.Session.{Session}
use Rattle.channel_rules.specs.Message.{with_iv, command_head, ciphertext, mac_of, field_mac, seal_field}
use Rattle.channel_rules.specs.Terminal.{Out, sealed_command, seal_out}
use Rattle.channel_seal.specs.Promise.{FieldSealed}
use Rattle.channel_heads.proofs.Tails.{tail-is, tail-put}
use Rattle.channel_seal.proofs.Responses.{response-fits}
use Rattle.channel_terminal.specs.declared.Outcome.{Outcome}
use Rattle.channel_terminal.specs.Did.{Did}
use Rattle.channel_terminal.proofs.Outcomes.{seal-done}

module _ (s : Session) (B B₁ Y B₃ header d head mac : List ℕ) (p : ℕ) (room : seal_room ≤ length B) (short : length d ≤ data_most) (four : length header ≡ 4)
    (ep : p ≡ padded_bytes (length d)) (e₁ : B₁ ≡ overwrite B 21 d) (eh : head ≡ command_head header p)
    (field : FieldSealed s head (length d) (take (length B₁ - 5) (drop 5 B₁)) mac Y) (lm : length mac ≡ 16)
    (e₃ : B₃ ≡ overwrite (take 5 B₁ ++ (Y ++ drop (length B₁ - 5) (drop 5 B₁))) 0 (header ++ ((16 + p) ∷ []))) where
  abbrev front : List ℕ
  front = header ++ ((16 + p) ∷ [])

  within : padded_bytes (length d) ≤ 224
  within = response-fits (length d) short

  length-B₁ : length B₁ ≡ length B
  length-B₁ = ap length e₁ ∙ length-overwrite B 21 d (omega arith)

  tail : take (length B₁ - 5) (drop 5 B₁) ≡ drop 5 B₁
  tail = tail-is 5 B₁

  part : take (length d) (drop 16 (take (length B₁ - 5) (drop 5 B₁))) ≡ d
  part =
      ap (λ (t : List ℕ). take (length d) (drop 16 t)) tail
      ∙ ap (take (length d)) (drop-drop 16 5 B₁ ∙ ap (drop 21) e₁)
      ∙ overwritten B 21 d (omega arith)

  length-c : length (ciphertext s d) ≡ p
  length-c = sym (ap (λ (x : List ℕ). length (ciphertext s x)) part) ∙ field.long ∙ sym ep

  mac-is : mac ≡ field_mac s (command_head header) d
  mac-is = field.told ∙ ap₂ (λ (h x : List ℕ). mac_of s h (ciphertext s x)) (eh ∙ ap (command_head header) (sym length-c)) part

  behind : drop (16 + padded_bytes (length d)) (take (length B₁ - 5) (drop 5 B₁)) ≡ drop (21 + padded_bytes (length d)) B
  behind =
      ap (drop (16 + padded_bytes (length d))) tail
      ∙ drop-drop (16 + padded_bytes (length d)) 5 B₁
      ∙ ap₂ (λ (k : ℕ) (b : List ℕ). drop k b) more e₁
      ∙ drop-overwrite-behind B 21 d (21 + padded_bytes (length d)) (omega (arith, padded-larger (length d))) (omega (arith, within))
    where
      more : 5 + (16 + padded_bytes (length d)) ≡ 21 + padded_bytes (length d)
      more = omega arith

  -- the field, and what follows it
  Y-is : Y ≡ (mac ++ ciphertext s d) ++ drop (21 + padded_bytes (length d)) B
  Y-is =
      field.left
      ∙ ap (λ (x : List ℕ). written (mac ++ ciphertext s x) (take (length B₁ - 5) (drop 5 B₁))) part
      ∙ ap (λ (y : List ℕ). (mac ++ ciphertext s d) ++ y) (ap (λ (k : ℕ). drop k (take (length B₁ - 5) (drop 5 B₁))) long ∙ behind)
    where
      long : length (mac ++ ciphertext s d) ≡ 16 + padded_bytes (length d)
      long = omega (arith, length-append mac (ciphertext s d), lm, length-c, ep)

  five : length front ≡ 5
  five = omega (arith, length-append header ((16 + p) ∷ []))

  -- the command
  command-is : front ++ (mac ++ ciphertext s d) ≡ sealed_command s header d
  unfolding seal_field
  command-is =
      append_assoc header ((16 + p) ∷ []) (mac ++ ciphertext s d)
      ∙ ap₂ (λ (k : ℕ) (m : List ℕ). header ++ ((16 + k) ∷ (m ++ ciphertext s d))) (sym length-c) mac-is

  length-command : 5 + 16 + p ≡ length (sealed_command s header d)
  length-command =
      sym (ap length (sym command-is) ∙ omega (arith, length-append front (mac ++ ciphertext s d), length-append mac (ciphertext s d), five, length-c))

  buffer-is : B₃ ≡ written (sealed_command s header d) B
  buffer-is =
      e₃
      ∙ ap (λ (k : ℕ). front ++ drop (0 + k) (take 5 B₁ ++ (Y ++ drop (length B₁ - 5) (drop 5 B₁)))) five
      ∙ ap (λ (b : List ℕ). front ++ drop 5 b) (tail-put 5 B₁ Y)
      ∙ ap (λ (b : List ℕ). front ++ b) (drop_at (take 5 B₁) Y 5 (length-take-le 5 B₁ (omega (arith, length-B₁))) ∙ Y-is)
      ∙ sym (append_assoc front (mac ++ ciphertext s d) (drop (21 + padded_bytes (length d)) B))
      ∙ ap₂ (λ (x : List ℕ) (k : ℕ). x ++ drop k B) command-is (ap (λ (k : ℕ). 21 + k) (sym ep) ∙ count)
    where
      count : 21 + p ≡ length (sealed_command s header d)
      count = omega (arith, length-command)

  pub did-seal : (r : Outcome) → r.refusal ≡ no_refusal → r.count ≡ 5 + 16 + p → r.session ≡ with_iv s mac → Did (seal_out s header d (length B)) r B B₃
  did-seal r er ec es =
      let e = seal-done s header d (length B) room short in
      record {
        refusal = er ∙ sym (ap (λ (x : Out). x.refusal) e);
        count = ec ∙ length-command ∙ sym (ap (λ (x : Out). length x.bytes) e);
        session = es ∙ ap (with_iv s) mac-is ∙ sym (ap (λ (x : Out). x.session) e);
        left = buffer-is ∙ sym (ap (λ (x : Out). written x.bytes B) e);
      }
