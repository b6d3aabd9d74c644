-- What an opening may conclude from the MAC that it compared and from the padding that it found.
-- Assumes nothing.
use mathlib.Core.Path.{◌≡◌, refl, sym, ap, ◌∙◌, subst}
use mathlib.Core.Bool.{Bool, true, false}
use mathlib.Core.List.{List, ◌++◌}
use mathlib.Core.Option.{Option, none, some}
use Prim.Native.Nat.{ℕ, ◌+◌, ◌-◌, ◌≤◌}
use native.Mathlib.Omega.{arith}
use lib.ListN.{length, take, drop, length-drop}
use lib.Seq.{take_at, take-append-le}
use Rattle.octets.specs.Bytes.{overwrite, same_bytes}
use Rattle.aes_rules.specs.Aes.{aes256, inv_aes256}
use Rattle.aes_cbc.specs.Mode.{cbc_decrypt, cbc_mac}
use Rattle.aes_padding.specs.Padding.{unpad, answer}
use Rattle.std.specs.Prelude as rust
use Rattle.aes_padding.proofs.Laws.{unpad-front, unpad-shorter, padded-larger}
use Rattle.channel_rules.specs.declared.Session.{Session}
use Rattle.channel_rules.specs.Message.{mac_of, field_form, provided, opened, open_field, opened_to}
use Rattle.channel_open.specs.Promise.{Opens}
use Rattle.channel_heads.proofs.Tails.{tail-is}

-- what was found in a plaintext is what the opening finds
pub opens-found : (o : Option (List ℕ)) (r : rust.Option ℕ) (plain : List ℕ) → r ≡ answer o → ((x : List ℕ) → o ≡ some x → x ≡ take (length x) plain)
    → ((x : List ℕ) → o ≡ some x → length x ≤ 223) → Opens o r plain
opens-found none r plain e f g = rw e (record { told = refl; says = refl; left = f; short = g })
opens-found (some x) r plain e f g = rw e (record { told = refl; says = ap opened_to (sym (f x refl)); left = f; short = g })

-- nothing is opened
pub opens-none : (o : Option (List ℕ)) (plain : List ℕ) → o ≡ none → Opens o rust.None plain
opens-none o plain e =
    let no : (x : List ℕ) → o ≡ some x → ⊥ = λ x f. (let z : ◌≡◌ {A = ℕ} 0 1 = cc in omega arith) in
    opens-found o rust.None plain (sym (ap answer e)) (λ x f. absurd (no x f)) (λ x f. absurd (no x f))

module _ (s : Session) (head field : List ℕ) where
  abbrev test : Bool
  test = same_bytes (mac_of s head (drop 16 field)) (take 16 field)

  abbrev plaintext : List ℕ
  plaintext = cbc_decrypt (inv_aes256 s.enc_key) s.iv (drop 16 field)

  pub mac-differs : (plain : List ℕ) → test ≡ false → Opens (opened s head field) rust.None plain
  mac-differs plain e = opens-none (opened s head field) plain (ap (λ (b : Bool). provided b (unpad plaintext)) e)

  opened-is : test ≡ true → opened s head field ≡ unpad plaintext
  opened-is e = ap (λ (b : Bool). provided b (unpad plaintext)) e

  pub padding-found : (y rest : List ℕ) (r : rust.Option ℕ) → length y ≤ 224 → test ≡ true → y ≡ plaintext → r ≡ answer (unpad plaintext)
      → Opens (opened s head field) r (y ++ rest)
  padding-found y rest r ly e ey f =
      rw (opened-is e)
      (opens-found (unpad plaintext) r (y ++ rest) f
      (λ x o.
      unpad-front x plaintext o
      ∙ ap (take (length x)) (sym ey)
      ∙ sym (take-append-le (length x) y rest (omega (arith, ap length ey, unpad-shorter x plaintext o, padded-larger (length x)))))
      (λ x o. omega (arith, ap length ey, unpad-shorter x plaintext o, padded-larger (length x))))

  -- ---- what the code compared, deciphered and searched
  pub compared : (mac : List ℕ) (r : Bool) → mac ≡ cbc_mac (aes256 s.mac_key) (head ++ take (length field - 16) (drop 16 field))
      → r ≡ same_bytes mac (take 16 field) → test ≡ r
  unfolding mac_of
  compared mac r em er =
      ap (λ (x : List ℕ). same_bytes x (take 16 field)) (sym (em ∙ ap (λ (t : List ℕ). cbc_mac (aes256 s.mac_key) (head ++ t)) (tail-is 16 field))) ∙ sym er

  -- m is the ciphertext's length as the code counts the part
  module _ (plain y₁ y₂ : List ℕ) (m : ℕ) (em : m ≡ length field - 16) (room : length field - 16 ≤ length plain)
      (e₁ : y₁ ≡ overwrite plain 0 (take (length field - 16) (drop 16 field)))
      (e₂ : y₂ ≡ cbc_decrypt (inv_aes256 s.enc_key) s.iv (take m y₁)) where
    copied : take m y₁ ≡ drop 16 field
    copied =
        ap (take m) (e₁ ∙ ap (overwrite plain 0) (tail-is 16 field))
        ∙ take_at (drop 16 field) (drop (0 + length (drop 16 field)) plain) m (length-drop 16 field ∙ sym em)

    pub deciphered : y₂ ≡ plaintext
    deciphered = e₂ ∙ ap (cbc_decrypt (inv_aes256 s.enc_key) s.iv) copied

    pub deciphered-long : length y₂ ≡ length (take m y₁) → length y₂ ≡ length field - 16
    deciphered-long l₂ = l₂ ∙ ap length copied ∙ length-drop 16 field

    -- the part that was searched is the plaintext
    pub searched : (rest : List ℕ) → length y₂ ≡ length (take m y₁) → take m (y₂ ++ rest) ≡ plaintext
    searched rest l₂ = take_at y₂ rest m (l₂ ∙ ap length copied ∙ length-drop 16 field ∙ sym em) ∙ deciphered

-- ---- a field whose length was looked at first
module _ (s : Session) (head : ℕ → List ℕ) (field : List ℕ) where
  pub opens-formed : (h : List ℕ) (r : rust.Option ℕ) (plain : List ℕ) → field_form (length field) ≡ true → h ≡ head (length field - 16)
      → Opens (opened s h field) r plain → Opens (open_field s head field) r plain
  unfolding open_field
  opens-formed h r plain f e o =
      subst (λ (x : Option (List ℕ)). Opens x r plain)
      (ap (λ (y : List ℕ). opened s y field) e ∙ sym (ap (λ (b : Bool). provided b (opened s (head (length field - 16)) field)) f)) o

  pub opens-unformed : (plain : List ℕ) → (field_form (length field) ≡ true → ⊥) → Opens (open_field s head field) rust.None plain
  unfolding open_field
  opens-unformed plain h =
      opens-none (open_field s head field) plain
      (ap (λ (b : Bool). provided b (opened s (head (length field - 16)) field)) (unless-true (field_form (length field)) h))
    where
      unless-true : (b : Bool) → (b ≡ true → ⊥) → b ≡ false
      unless-true true k = absurd (k refl)
      unless-true false k = refl
