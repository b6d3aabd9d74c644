-- What UNSEAL takes: a field that opens holds bytes, 223 at most, and is their sealing.
-- Assumes nothing.
use mathlib.Core.Path.{◌≡◌, refl, sym, ap, ◌∙◌, subst}
use mathlib.Core.Bool.{Bool, true, false, cond}
use mathlib.Core.List.{List}
use mathlib.Core.Logic.{◌⊎◌, inl, inr, ⊎_elim}
use mathlib.Core.Option.{Option, none, some}
use Prim.Native.Nat.{ℕ, ◌-◌, ◌%◌, ◌≤◌}
use native.Mathlib.Omega.{arith}
use borrow.Author.Tests.{ltb-true, ltb-false}
use lib.Dec.{ltb}
use lib.ListN.{length, take, drop, length-drop}
use Rattle.octets.specs.Bytes.{Bytes, same_bytes}
use Rattle.octets.proofs.Lists.{bytes_take, bytes_drop}
use Rattle.aes_rules.specs.Aes.{aes256, inv_aes256}
use Rattle.aes_rules.proofs.Permutation.{aes-permutes}
use Rattle.aes_cbc.specs.Mode.{cbc_decrypt}
use Rattle.aes_cbc.proofs.Laws.{bytes-cbc-decrypt}
use Rattle.aes_padding.specs.Padding.{unpad}
use Rattle.aes_padding.proofs.Laws.{unpad-front}
use Rattle.channel_rules.specs.declared.Session.{Session}
use Rattle.channel_rules.specs.Message.{Keyed, response_head, mac_of, field_form, open_field}
use Rattle.channel_rules.specs.Terminal.{Out, refused, plain_success, sealed_response, sealed_field, unsealed, unseal_out}
use Rattle.channel_rules.proofs.Fields.{provided-some, provided-is, form-is, opened-short}
use Rattle.channel_rules.proofs.Trips.{unseal-seals}
use Rattle.channel_rules.proofs.Accepted.{unseal-sound}
use Rattle.template_rules.proofs.HeadFacts.{by-test}
use Rattle.claims.specs.Refusals.{Genuine, UnsealRefuses}
use Rattle.claims.proofs.Untouched.{unseal-nothing}

-- ---- what opens is bytes
opened-bytes : (s : Session) → Keyed s → (head : ℕ → List ℕ) (f d : List ℕ) → Bytes f → open_field s head f ≡ some d → Bytes d
unfolding open_field
opened-bytes s k head f d hf e =
    let right = provided-some (field_form (length f)) _ d e in
    let form = form-is (length f) right in
    let inner = sym (provided-is (field_form (length f)) _ right) ∙ e in
    let mac = provided-some (same_bytes (mac_of s (head (length f - 16)) (drop 16 f)) (take 16 f)) _ d inner in
    let plain = cbc_decrypt (inv_aes256 s.enc_key) s.iv (drop 16 f) in
    let unpads = sym (provided-is _ (unpad plain) mac) ∙ inner in
    let whole : length (drop 16 f) % 16 ≡ 0 = omega (arith, length-drop 16 f, form.low, form.whole) in
    let bytes =
    bytes-cbc-decrypt (aes256 s.enc_key) (inv_aes256 s.enc_key) (aes-permutes s.enc_key k.enc) s.iv (drop 16 f)
    k.iv (bytes_drop 16 f hf) whole in
    subst (λ (x : List ℕ). Bytes x) (sym (unpad-front d plain unpads)) (bytes_take (length d) plain bytes)

-- ---- after the test of the room: taken, and then the field opens to two bytes or more; or 7
record Judged (s : Session) (opening : Option (List ℕ)) (o : Out) : Type 0 where
  pub numbers : (o.refusal ≡ 0) ⊎ (o.refusal ≡ 7)
  pub opens : o.refusal ≡ 0 → (opening ≡ some o.bytes) × (2 ≤ length o.bytes)

judged-7 : (s : Session) (o : Option (List ℕ)) → Judged s o (refused s 7)
judged-7 s o = record { numbers = inr refl; opens = λ e. absurd (omega arith) }

judged : (s : Session) (field : List ℕ) (b : Bool) (o : Option (List ℕ)) → Judged s o (cond b (unsealed s field o) (refused s 7))
judged s field false o = judged-7 s o
judged s field true none = judged-7 s none
judged s field true (some p) = by-test (Judged s (some p)) (ltb (length p) 2) (λ e. judged-7 s (some p))
    (λ e. record { numbers = inl refl; opens = λ z. (refl, ltb-false (length p) 2 e) })

module _ (s : Session) (response : List ℕ) (room : ℕ) where
  abbrev field : List ℕ
  field = sealed_field response

  abbrev opening : Option (List ℕ)
  opening = open_field s response_head field

  abbrev inner : Out
  inner = cond (same_bytes (drop (length response - 2) response) plain_success) (unsealed s field opening) (refused s 7)

  is : Judged s opening inner
  is = judged s field (same_bytes (drop (length response - 2) response) plain_success) opening

  inner-is : ltb room 223 ≡ false → unseal_out s response room ≡ inner
  unfolding unseal_out
  inner-is e = ap (λ (b : Bool). cond b (refused s 2) inner) e

  refused-is : ltb room 223 ≡ true → unseal_out s response room ≡ refused s 2
  unfolding unseal_out
  refused-is e = ap (λ (b : Bool). cond b (refused s 2) inner) e

  -- what is taken is genuine, and what is genuine is taken
  genuine : Keyed s → Bytes response → ltb room 223 ≡ false → (unseal_out s response room).refusal ≡ 0 → Genuine s response
  genuine k h e z =
      let same = inner-is e in
      let o = is.opens (sym (ap (λ (x : Out). x.refusal) same) ∙ z) in
      let bytes = bytes_take (length response - 2) response h in (
        inner.bytes,
        opened-bytes s k response_head field inner.bytes bytes o.0,
        o.1,
        opened-short s k response_head field inner.bytes bytes o.0,
        subst (λ (x : Out). response ≡ sealed_response s x.bytes) same (unseal-sound s k response h room z),
      )

  taken : Keyed s → 223 ≤ room → Genuine s response → (unseal_out s response room).refusal ≡ 0
  taken k r g =
      ap (λ (x : List ℕ). (unseal_out s x room).refusal) g.4 ∙ ap (λ (o : Out). o.refusal)
      (unseal-seals s k g.0 g.1 g.3 room r g.2)

  pub unseal-refuses : UnsealRefuses s response room
  unseal-refuses = go (ltb room 223) refl
    where
      go : (b : Bool) → ltb room 223 ≡ b → UnsealRefuses s response room
      go true e =
          let z : (unseal_out s response room).refusal ≡ 2 = ap (λ (o : Out). o.refusal) (refused-is e) in
          let small = ltb-true room 223 e in
          record {
            small = (λ h. small, λ h. z);
            taken = λ k b. (λ h. absurd (omega arith), λ h. absurd (omega (arith, h.0)));
            forged = λ k b. (λ h. absurd (omega arith), λ h. absurd (omega (arith, h.0)));
            others = inr (inl z);
            nothing = unseal-nothing s response;
          }
      go false e =
          let z : (unseal_out s response room).refusal ≡ inner.refusal = ap (λ (o : Out). o.refusal) (inner-is e) in
          let large = ltb-false room 223 e in
          ⊎_elim
          (λ t.
          let zero : (unseal_out s response room).refusal ≡ 0 = z ∙ t in
          record {
            small = (λ h. absurd (omega arith), λ h. absurd (omega arith));
            taken = λ k b. (λ h. (large, genuine k b e h), λ h. zero);
            forged = λ k b. (λ h. absurd (omega arith), λ h. absurd (h.1 (genuine k b e zero)));
            others = inl zero;
            nothing = unseal-nothing s response;
          })
          (λ t.
          let seven : (unseal_out s response room).refusal ≡ 7 = z ∙ t in
          record {
            small = (λ h. absurd (omega arith), λ h. absurd (omega arith));
            taken = λ k b. (λ h. absurd (omega arith), λ h. taken k h.0 h.1);
            forged = λ k b. (λ h. (large, λ g. absurd (omega (arith, taken k large g))), λ h. seven);
            others = inr (inr seven);
            nothing = unseal-nothing s response;
          })
          is.numbers
