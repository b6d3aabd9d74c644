-- The laws of WRITE and READ: both round trips, which bytes READ takes, what it gives, and how long a record is, in bytes.
-- Assumes nothing.
use mathlib.Core.Path.{◌≡◌, refl, sym, ap, subst, ◌∙◌}
use mathlib.Core.Bool.{Bool, true, false, cond}
use mathlib.Core.Logic.{◌⊎◌, inl, inr, ⊎_elim}
use mathlib.Core.List.{List, [], ◌∷◌, ◌++◌}
use Prim.Native.Nat.{ℕ, zero, suc, ◌+◌, ◌*◌, ◌≤◌}
use native.Mathlib.Omega.{arith}
use lib.Dec.{ltb}
use lib.ListN.{length, drop, length-append}
use lib.Seq.{length-take-le, take_all}
use borrow.Author.Tests.{le-ltb}
use Rattle.card.specs.declared.Card.{Card}
use Rattle.card.specs.declared.Slot.{Slot}
use Rattle.card.specs.declared.Path.{Path}
use Rattle.card.specs.Sizes.{uid_bytes, public_key_bytes, key_bytes, path_most_bytes, tap_most_bytes, slot_bytes, slot_count}
use Rattle.card.specs.State.{zeros, fresh_of, reset_of, key_uid, path_bytes, tap_bytes}
use Rattle.card.specs.Shape.{KeysLong, Shaped}
use Rattle.card.specs.Slots.{some_of, is_zero}
use Rattle.card.specs.Sound.{is_sound}
use Rattle.card.proofs.Tests.{both}
use Rattle.card.proofs.Rules.{sound-cases}
use Rattle.card.proofs.SoundFacts.{fresh-sound, reset-sound, path-lengths, tap-length}
use Rattle.sound.specs.declared.Answer.{Answer}
use Rattle.refusals.specs.Refusals.{no_refusal, unsound, no_room, not_record}
use Rattle.sound.specs.Reset.{done, refused}
use Rattle.record_rules.specs.declared.Form.{Form}
use Rattle.record_rules.specs.Fields.{Field, encode, encode_all, slots_bytes, identity_fields, owner_fields, fields_in, written_form, record_of}
use Rattle.record_rules.specs.Lengths.{record_field_bytes, record_fresh, record_least, record_most, write_room}
use Rattle.record_rules.specs.Parse.{field24, content, fit, slots_from, card_of}
use Rattle.record_rules.specs.Forms.{forms, holds, renewed, is_in_form, Listed, first, InForm}
use Rattle.record_rules.specs.Renewal.{Renewal}
use Rattle.record_rules.specs.Answers.{write_refusal, write_bytes, is_record_of, read_answer}
use Rattle.record_rules.proofs.FieldFacts.{length-all}
use Rattle.record_rules.proofs.ParseFacts.{slots-long}
use Rattle.record_rules.proofs.FormFacts.{found, passes, held-reset, fields-reset, form-today, reset-in-form, card-in-form}
use Rattle.record_rules.proofs.RenewFacts.{renewal}
use Rattle.record_rules.proofs.OneForm.{form-slots, same-form}

-- ---- card_of
-- however many slots are read, their keys have their length
slots-keyed : (n : ℕ) (x : List ℕ) → KeysLong (slots_from n x)
unfolding slots_from
slots-keyed zero x = tt
slots-keyed (suc n) x = (refl, slots-keyed n (drop slot_bytes x))

-- the card of any bytes has its shape
pub card-of-shaped : (s : List ℕ) → Shaped (card_of s)
unfolding card_of slots_from
card-of-shaped s = record {
  uid = refl;
  public_key = refl;
  pin = refl;
  puk = refl;
  secret = refl;
  slots = refl;
  keys = slots-keyed slot_count (fit (slot_bytes * slot_count) (content s field24));
  expected = refl;
  keyuid = refl;
  current = refl;
  pinless = refl;
  tap = refl;
}

-- ---- READ of WRITE of a sound card is RESET of it
pub read-in-form : (s : List ℕ) (c : Card) → Shaped c → is_sound c ≡ true → InForm s c forms → read_answer s ≡ done (reset_of c)
unfolding read_answer is_record_of
read-in-form s c w e r =
    rw (card-in-form s c r w e, reset-sound c e, passes s (reset_of c) forms (reset-in-form s c r))

-- a card's record is in the form that WRITE writes
pub record-in-form : (c : Card) → InForm (record_of c) c forms
unfolding record_of holds
record-in-form c = record { form = written_form; listed = first _; held = refl; bytes = refl }

pub read-record : (c : Card) → Shaped c → is_sound c ≡ true → read_answer (record_of c) ≡ done (reset_of c)
read-record c w e = read-in-form (record_of c) c w e (record-in-form c)

pub read-write : (c : Card) (room : ℕ) → Shaped c → write_refusal c room ≡ no_refusal
    → read_answer (write_bytes c room) ≡ done (reset_of c)
unfolding write_refusal write_bytes
read-write c room w e = by-sound (is_sound c) refl e
  where
    by-room : is_sound c ≡ true → (b : Bool) → cond b no_room no_refusal ≡ no_refusal
        → read_answer (cond b [] (record_of c)) ≡ done (reset_of c)
    by-room s true h = absurd (omega arith)
    by-room s false h = read-record c w s

    by-sound : (b : Bool) → is_sound c ≡ b → cond b (cond (ltb room write_room) no_room no_refusal) unsound ≡ no_refusal
        → read_answer (cond b (cond (ltb room write_room) [] (record_of c)) []) ≡ done (reset_of c)
    by-sound true s h = by-room s (ltb room write_room) h
    by-sound false s h = absurd (omega arith)

-- ---- what READ gives
-- taken: the card is sound, and the bytes are its record in one of the forms
pub record Took (s : List ℕ) (c : Card) : Type 0 where
  pub sound : is_sound c ≡ true
  pub tested : some_of (is_in_form s c) forms ≡ true

-- the two answers
pub read-cases : (s : List ℕ)
    → ((read_answer s ≡ done (card_of s)) × Took s (card_of s)) ⊎ (read_answer s ≡ refused not_record (fresh_of (zeros uid_bytes) (zeros public_key_bytes)))
unfolding read_answer is_record_of
read-cases s = by-test (is_record_of s (card_of s)) refl
  where
    by-test : (b : Bool) → is_record_of s (card_of s) ≡ b
        → ((cond b (done (card_of s)) (refused not_record (fresh_of (zeros uid_bytes) (zeros public_key_bytes))) ≡ done (card_of s)) × Took s (card_of s))
        ⊎ (cond b (done (card_of s)) (refused not_record (fresh_of (zeros uid_bytes) (zeros public_key_bytes))) ≡ refused not_record (fresh_of (zeros uid_bytes) (zeros public_key_bytes)))
    by-test true e =
        let h = both (is_sound (card_of s)) (some_of (is_in_form s (card_of s)) forms) e in
        inl (refl, record { sound = h.0; tested = h.1 })
    by-test false e = inr refl

card-of-reset : (s : List ℕ) → reset_of (card_of s) ≡ card_of s
unfolding card_of
card-of-reset s = refl

-- the card that READ gives is sound and reset, refused or not
pub read-sound : (s : List ℕ) → is_sound (read_answer s).card ≡ true
read-sound s = ⊎_elim
    (λ t. ap (λ (a : Answer). is_sound a.card) t.0 ∙ t.1.sound)
    (λ e. ap (λ (a : Answer). is_sound a.card) e ∙ fresh-sound (zeros uid_bytes) (zeros public_key_bytes))
    (read-cases s)

pub read-reset : (s : List ℕ) → reset_of (read_answer s).card ≡ (read_answer s).card
read-reset s = ⊎_elim
    (λ t. ap (λ (a : Answer). reset_of a.card) t.0 ∙ card-of-reset s ∙ sym (ap (λ (a : Answer). a.card) t.0))
    (λ e. ap (λ (a : Answer). reset_of a.card) e ∙ sym (ap (λ (a : Answer). a.card) e))
    (read-cases s)

-- ---- WRITE of what READ took: the record as its form is renewed
eight : ◌≡◌ {A = ℕ} 8 0 → ⊥
eight p = omega arith

-- the card of an answer without refusal, and in which form the bytes are its record
pub read_taken : (s : List ℕ) → (read_answer s).refusal ≡ no_refusal → InForm s (read_answer s).card forms
read_taken s h = ⊎_elim
    (λ t. subst (λ (a : Answer). InForm s a.card forms) (sym t.0) (found s (card_of s) forms t.1.tested))
    (λ e. absurd (eight (sym (ap (λ (a : Answer). a.refusal) e) ∙ h)))
    (read-cases s)

pub read-shaped : (s : List ℕ) → (read_answer s).refusal ≡ no_refusal → Shaped (read_answer s).card
read-shaped s h = ⊎_elim
    (λ t. subst (λ (a : Answer). Shaped a.card) (sym t.0) (card-of-shaped s))
    (λ e. absurd (eight (sym (ap (λ (a : Answer). a.refusal) e) ∙ h)))
    (read-cases s)

-- a card is written as it is reset
record-reset : (c : Card) → record_of (reset_of c) ≡ record_of c
unfolding record_of fields_in
record-reset c = refl

pub record-renewed : (s : List ℕ) (c : Card) → Shaped c → is_sound c ≡ true → (r : InForm s c forms) → record_of c ≡ renewed r.form s
record-renewed s c w e r =
    form-today r.form c w e r.held ∙ ap (renewed r.form) r.bytes

pub record-read : (s : List ℕ) → (read_answer s).refusal ≡ no_refusal → Renewal s (record_of (read_answer s).card)
record-read s h = renewal s (read_answer s).card (read-shaped s h) (read-sound s) (read_taken s h)

module _ (s : List ℕ) (room : ℕ) (e : write_room ≤ room) where
  pub write_read : (read_answer s).refusal ≡ no_refusal
      → (write_refusal (read_answer s).card room ≡ no_refusal)
      × Renewal s (write_bytes (read_answer s).card room)
  unfolding write_refusal write_bytes
  write_read h =
      (rw (read-sound s, le-ltb room write_room e), rw (read-sound s, le-ltb room write_room e) (record-read s h))

  -- of bytes that READ takes as a card's record
  pub write-of : (c : Card) → read_answer s ≡ done (reset_of c) → write_bytes (read_answer s).card room ≡ record_of c
  unfolding write_bytes
  write-of c g =
      rw (read-sound s, le-ltb room write_room e) (ap (λ (a : Answer). record_of a.card) g ∙ record-reset c)

  -- of the record of a sound card, in whichever form
  pub write-renewed : (c : Card) → Shaped c → is_sound c ≡ true → (r : InForm s c forms)
      → write_bytes (read_answer s).card room ≡ renewed r.form s
  write-renewed c w g r = write-of c (read-in-form s c w g r) ∙ record-renewed s c w g r

-- ---- the record of a sound card in a form that holds it: READ takes it
pub read_held : (f : Form) → Listed f forms → (c : Card) → Shaped c → is_sound c ≡ true → holds f c ≡ true
    → read_answer (encode_all (fields_in f c)) ≡ done (reset_of c)
read_held f l c w e h =
    read-in-form (encode_all (fields_in f c)) c w e (record { form = f; listed = l; held = h; bytes = refl })

-- ---- which bytes READ refuses: those that are no sound card's record in any form
pub read-refuses : (s : List ℕ) → (read_answer s).refusal ≡ not_record
    → (c : Card) → Shaped c → is_sound c ≡ true → InForm s c forms → ⊥
read-refuses s h c w e r = zero-eight (sym (ap (λ (a : Answer). a.refusal) (read-in-form s c w e r)) ∙ h)
  where
    zero-eight : ◌≡◌ {A = ℕ} 0 8 → ⊥
    zero-eight p = omega arith

-- ---- no bytes are the records of two different sound reset cards, whatever the forms
pub one-card : (s : List ℕ) (c d : Card) → Shaped c → Shaped d → is_sound c ≡ true → is_sound d ≡ true
    → InForm s c forms → InForm s d forms → reset_of c ≡ reset_of d
one-card s c d w v e g r t = sym (card-in-form s c r w e) ∙ card-in-form s d t v g

-- ---- and they are a record in one form alone
pub one_form : (s : List ℕ) (c d : Card) → Shaped c → Shaped d → is_sound c ≡ true → is_sound d ≡ true
    → (r : InForm s c forms) (t : InForm s d forms) → r.form ≡ t.form
one_form s c d w v e g r t =
    let k = one-card s c d w v e g r t in
    let f = t.form in
    let kept = sym (held-reset f c) ∙ ap (holds f) k ∙ held-reset f d ∙ t.held in
    let fields = sym (fields-reset f d) ∙ ap (fields_in f) (sym k) ∙ fields-reset f c in
    same-form c w e r.form f r.held kept (form-slots r.form r.listed) (form-slots f t.listed)
    (r.bytes ∙ sym t.bytes ∙ ap encode_all fields)

-- ---- how long a record is
module _ (c : Card) (w : Shaped c) where
  pub length_before : c.initialised ≡ 0 → length (record_of c) ≡ record_fresh
  unfolding record_of fields_in
  length_before i =
      ap (λ (n : ℕ). length (encode_all (identity_fields c.initialised c.identity ++ cond (is_zero n) [] (owner_fields written_form c)))) i
      ∙ length-all (identity_fields c.initialised c.identity)
      ∙ omega (arith, w.uid, w.public_key)

  key-length : length (key_uid c.keys) ≤ key_bytes
  key-length = by_kind (is_zero c.keys.kind)
    where
      by_kind : (b : Bool) → length (cond b [] c.keys.uid) ≤ key_bytes
      by_kind true = omega arith
      by_kind false = omega (arith, w.keyuid)

  path-length : (p : Path) → p.len ≤ path_most_bytes → length p.bytes ≡ path_most_bytes → length (path_bytes p) ≤ path_most_bytes
  path-length p h l = omega (arith, length-take-le p.len p.bytes (omega arith))

  pub length-after : c.initialised ≡ 1 → is_sound c ≡ true → (record_least ≤ length (record_of c)) × (length (record_of c) ≤ record_most)
  unfolding record_of fields_in
  length-after i e =
      let l = ap (λ (n : ℕ). length (encode_all (identity_fields c.initialised c.identity ++ cond (is_zero n) [] (owner_fields written_form c)))) i
      ∙ length-all (identity_fields c.initialised c.identity ++ owner_fields written_form c) in
      let m = path-lengths c e in
      omega (
        arith,
        l,
        w.uid,
        w.public_key,
        w.pin,
        w.puk,
        w.secret,
        w.slots,
        slots-long c.pairing.slots w.keys,
        ap (λ (t : List Slot). length (slots_bytes t)) (take_all slot_count c.pairing.slots (omega (arith, w.slots))),
        key-length,
        path-length c.keys.current m.0 w.current,
        path-length c.keys.pinless m.1 w.pinless,
        length-take-le c.tap.len c.tap.bytes (omega (arith, tap-length c e, w.tap)),
        tap-length c e,
      )

  -- before INIT and after it
  pub record-length : is_sound c ≡ true → (length (record_of c) ≡ record_fresh) ⊎ ((record_least ≤ length (record_of c)) × (length (record_of c) ≤ record_most))
  record-length e = ⊎_elim (λ b. inl (length_before b.flag)) (λ a. inr (length-after a.flag e)) (sound-cases c e)
