-- The buffer through the sealing of a response: data and status word put after the MAC's place, the field sealed, 9000 put after it.
-- Assumes nothing.
use mathlib.Core.Path.{◌≡◌, refl, sym, ap, ap₂, ◌∙◌}
use mathlib.Core.List.{List, ◌++◌}
use Prim.Native.Nat.{ℕ, ◌+◌, ◌≤◌, ◌<◌}
use native.Mathlib.Omega.{arith}
use lib.ListN.{length, take, drop, length-append}
use lib.Seq.{drop-drop}
use Rattle.octets.specs.Bytes.{overwrite, written}
use Rattle.octets.proofs.Lists.{overwrite-next, overwritten, overwrite-behind, drop-overwrite-behind}
use Rattle.aes_padding.specs.Padding.{padded_bytes}
use Rattle.aes_padding.proofs.Laws.{padded-larger, padded-next}
use Rattle.channel_rules.specs.declared.Session.{Session}
use Rattle.channel_rules.specs.Message.{with_iv, response_head, ciphertext, mac_of, field_mac, seal_field}
use Rattle.channel_rules.specs.Terminal.{plain_success, sealed_response}
use Rattle.channel_seal.specs.declared.Response.{Response}
use Rattle.channel_seal.specs.Promise.{FieldSealed, ResponseSealed}

-- a response's data and status word, padded, has at most 224 bytes
pub response-fits : (n : ℕ) → n ≤ 223 → padded_bytes n ≤ 224
response-fits n h = padded-next n 224 refl (omega arith)

module _ (s : Session) (B B₁ B₂ B₃ B₄ d status head mac : List ℕ) (n p : ℕ) (room : 258 ≤ length B) (short : length d ≤ 221) (two : length status ≡ 2)
    (en : n ≡ length d + 2) (ep : p ≡ padded_bytes n) (e₁ : B₁ ≡ overwrite B 16 d) (e₂ : B₂ ≡ overwrite B₁ (16 + length d) status)
    (eh : head ≡ response_head p) (field : FieldSealed s head n B₂ mac B₃) (lm : length mac ≡ 16) (e₄ : B₄ ≡ overwrite B₃ (16 + p) plain_success) where
  abbrev plain : List ℕ
  plain = d ++ status

  abbrev c : List ℕ
  c = ciphertext s plain

  long : length plain ≡ n
  long = omega (arith, length-append d status)

  within : padded_bytes n ≤ 224
  within = response-fits n (omega arith)

  put_both : B₂ ≡ overwrite B 16 plain
  put_both = e₂ ∙ ap (λ (b : List ℕ). overwrite b (16 + length d) status) e₁ ∙ overwrite-next B 16 (16 + length d) d status refl (omega arith)

  part : take n (drop 16 B₂) ≡ plain
  part =
      ap (λ (b : List ℕ). take n (drop 16 b)) put_both
      ∙ ap (λ (k : ℕ). take k (drop 16 (overwrite B 16 plain))) (sym long)
      ∙ overwritten B 16 plain (omega (arith, long))

  length-c : length c ≡ p
  length-c = sym (ap (λ (x : List ℕ). length (ciphertext s x)) part) ∙ field.long ∙ sym ep

  mac-is : mac ≡ field_mac s response_head plain
  mac-is =
      field.told ∙ ap₂ (λ (h x : List ℕ). mac_of s h (ciphertext s x)) (eh ∙ ap response_head (sym length-c)) part

  behind : drop (16 + padded_bytes n) B₂ ≡ drop (16 + padded_bytes n) B
  behind =
      ap (drop (16 + padded_bytes n)) put_both
      ∙ drop-overwrite-behind B 16 plain (16 + padded_bytes n) (omega (arith, long, padded-larger n)) (omega (arith, within))

  front : length (mac ++ c) ≡ 16 + p
  front = omega (arith, length-append mac c, length-c)

  -- the whole response
  response-is : (mac ++ c) ++ plain_success ≡ sealed_response s plain
  unfolding sealed_response seal_field
  response-is = ap (λ (m : List ℕ). (m ++ c) ++ plain_success) mac-is

  pub length-response : 16 + p + 2 ≡ length (sealed_response s plain)
  length-response = sym (ap length (sym response-is) ∙ omega (arith, length-append (mac ++ c) plain_success, front))

  pub response-sealed : (r : Response) → r.count ≡ 16 + p + 2 → r.session ≡ with_iv s mac → ResponseSealed s plain B r B₄
  response-sealed r ec es =
      record {
        count = ec ∙ length-response;
        session = es ∙ ap (with_iv s) mac-is;
        left =
            e₄
            ∙ ap (λ (b : List ℕ). overwrite b (16 + p) plain_success)
            (field.left
            ∙ ap (λ (x : List ℕ). written (mac ++ ciphertext s x) B₂) part
            ∙ ap (λ (y : List ℕ). (mac ++ c) ++ y) (ap (λ (k : ℕ). drop k B₂) (front ∙ ap (λ (k : ℕ). 16 + k) ep) ∙ behind))
            ∙ overwrite-behind (mac ++ c) (drop (16 + padded_bytes n) B) plain_success (16 + p) front
            ∙ ap₂ (λ (x y : List ℕ). x ++ y) response-is
            (drop-drop 2 (16 + padded_bytes n) B ∙ ap (λ (k : ℕ). drop k B) (ap (λ (k : ℕ). 16 + k + 2) (sym ep) ∙ length-response));
      }
