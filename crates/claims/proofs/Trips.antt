-- Demand 2: each part is a law of the crate whose definitions it speaks of.
-- Assumes nothing.
use mathlib.Core.Path.{◌≡◌, refl, sym, ap, ◌∙◌}
use mathlib.Core.Bool.{Bool, true, false}
use mathlib.Core.List.{List, [], ◌∷◌, ◌++◌}
use Prim.Native.Nat.{ℕ, ◌+◌, ◌≤◌, ◌<◌}
use native.Mathlib.Omega.{arith}
use lib.ListN.{length, get_or}
use Rattle.octets.specs.Bytes.{Bytes, Block}
use Rattle.octets.proofs.Lists.{bytes-replicate}
use Rattle.channel_rules.specs.declared.Session.{Session}
use Rattle.channel_rules.specs.Message.{Keyed, with_iv, response_head, ciphertext, field_mac}
use Rattle.channel_rules.specs.Terminal.{Out, sealed_response, unseal_out}
use Rattle.channel_rules.proofs.Trips.{short, lr-counts, unseal-seals}
use Rattle.channel_rules.proofs.OtherHeads.{no-room, other-not-genuine}
use Rattle.template_walk.specs.Walk.{walk_of, report, WALK}
use Rattle.template_walk.proofs.Joining.{walk-sum}
use Rattle.card.specs.declared.Card.{Card}
use Rattle.card.specs.State.{reset_of}
use Rattle.card.specs.Sound.{is_sound}
use Rattle.card.proofs.SoundFacts.{fresh-sound, reset-sound, reset-reset}
use Rattle.sound.specs.declared.Answer.{Answer}
use Rattle.refusals.specs.Refusals.{unsound}
use Rattle.sound.specs.Reset.{refused, done, reset_answer}
use Rattle.record_rules.specs.Fields.{encode_all, fields_in, record_of}
use Rattle.record_rules.specs.Answers.{write_refusal}
use Rattle.record_rules.proofs.FormFacts.{form-today, holds-each}
use Rattle.record_rules.proofs.ReadFacts.{read-record, read-write, write_read, write-of, write-renewed, read_held, one-card, one_form, read-sound, record-length}
use Rattle.laws_engine.proofs.Sound.{answer-sound}
use Rattle.laws_engine.proofs.Rooms.{answer-most, ask-most}
use Rattle.laws_walk.proofs.Walking.{counts-fields, walk-encodes}
use Rattle.laws_walk.proofs.Answers.{encodes-pre-initialised, encodes-application-info, encodes-status, encodes-signature, encodes-exported-public, encodes-exported-pair}
use Rattle.laws_engine.proofs.Agreement.{kind-is, ask-data, ask-empty, unread-taken, unread-same, read-refused, read_taken}
use Rattle.claims.specs.Trips.{old_head, old_response, zero_session, Trips}
use Rattle.claims.proofs.Refusals.{refusals}

-- ---- responses, and those of the old rule: Lr is another byte there
old-block : (s : Session) → Keyed s → (p : List ℕ) → Bytes p → length p ≤ 223 → Block (old_head (length (ciphertext s p)))
old-block s k p b most = record { long = refl; bytes = (omega (arith, short s k p b most), bytes-replicate 15 0 (omega arith)) }

old-differs : (n : ℕ) → response_head n ≡ old_head n → ⊥
old-differs n e = absurd (omega (arith, ap (λ (x : List ℕ). get_or x 0 0) e))

unseals : (s : Session) (p : List ℕ) (room : ℕ) → Keyed s → Bytes p → 2 ≤ length p → length p ≤ 223 → 223 ≤ room
    → unseal_out s (sealed_response s p) room ≡ record { refusal = 0; session = with_iv s (field_mac s response_head p); bytes = p }
unseals s p room k b two most r = unseal-seals s k p b most room r two

oldrefused : (s : Session) (p : List ℕ) (room : ℕ) → Keyed s → Bytes p → length p ≤ 223 → 223 ≤ room
    → unseal_out s (old_response s p) room ≡ record { refusal = 7; session = s; bytes = [] }
oldrefused s p room k b most r = other-not-genuine s k old_head p b (old-block s k p b most) most (old-differs (length (ciphertext s p))) room r

zero-keyed : Keyed zero_session
zero-keyed = record {
  enc = record { long = refl; bytes = bytes-replicate 32 0 (omega arith) };
  mac = record { long = refl; bytes = bytes-replicate 32 0 (omega arith) };
  iv = record { long = refl; bytes = bytes-replicate 16 0 (omega arith) };
}

abbrev nine : List ℕ
nine = 0x90 ∷ 0x00 ∷ []

nine-bytes : Bytes nine
nine-bytes = (omega arith, (omega arith, tt))

-- ---- RESET
reset-refused : (c : Card) → is_sound c ≡ false → reset_answer c ≡ refused unsound c
unfolding reset_answer
reset-refused c e = rw e

reset-is : (c : Card) → is_sound c ≡ true → reset_answer c ≡ done (reset_of c)
unfolding reset_answer
reset-is c e = rw e

reset-twice : (c : Card) → reset_answer (reset_answer c).card ≡ reset_answer c
reset-twice c = go (is_sound c) refl
  where
    go : (b : Bool) → is_sound c ≡ b → reset_answer (reset_answer c).card ≡ reset_answer c
    go true e = ap (λ (a : Answer). reset_answer a.card) (reset-is c e) ∙ reset-is (reset_of c) (reset-sound c e) ∙ ap done (reset-reset c) ∙ sym (reset-is c e)
    go false e = ap (λ (a : Answer). reset_answer a.card) (reset-refused c e)

-- a card that WRITE takes is sound
written-sound : (c : Card) (room : ℕ) → write_refusal c room ≡ 0 → is_sound c ≡ true
written-sound c room h = go (is_sound c) refl
  where
    go : (b : Bool) → is_sound c ≡ b → b ≡ true
    go true e = refl
    go false e = absurd (omega (arith, (refusals.write c room).unsound.1 e))

-- ---- WALK
joined : (s t : List ℕ) (m n : ℕ) → WALK s ≡ record { refusal = 0; count = m; offset = 0 } → WALK t ≡ record { refusal = 0; count = n; offset = 0 }
    → WALK (s ++ t) ≡ record { refusal = 0; count = m + n; offset = 0 }
joined s t m n e f = ap report (walk-sum s t m n (counts-fields (walk_of s) m e) (counts-fields (walk_of t) n f))

pub trips : Trips
trips = record {
  responses = record {
    lrcounts = λ s p k b most. lr-counts s k p b most;
    unseals = unseals;
    oldrefused = oldrefused;
    oldroom = λ s p room r. no-room s (old_response s p) room r;
    example = (
      ap (λ (o : Out). o.refusal) (unseals zero_session nine 223 zero-keyed nine-bytes (omega arith) (omega arith) (omega arith)),
      ap (λ (o : Out). o.refusal) (oldrefused zero_session nine 223 zero-keyed nine-bytes (omega arith) (omega arith)),
    );
  };
  records = record {
    readwrite = λ c room w h. read-write c room w h ∙ sym (reset-is c (written-sound c room h));
    writeread = write_read;
    renews = write-renewed;
    current = λ c room w e r. write-of (record_of c) room r c (read-record c w e);
    other = λ f l c room w e h r. record {
      read = read_held f l c w e h ∙ sym (reset-is c e);
      written = write-of (encode_all (fields_in f c)) room r c (read_held f l c w e h) ∙ form-today f c w e h;
      same = sym (form-today f c w e h);
    };
    four = refl;
    held = λ f l c i z free w. holds-each c i z f l free w;
    onecard = one-card;
    oneform = one_form;
  };
  walks = record {
    joined = joined;
    preinitialised = λ key k. walk-encodes (encodes-pre-initialised key k);
    application = λ uid key free key_uid u k x. walk-encodes (encodes-application-info uid key free key_uid u k x);
    status = λ pin puk key. walk-encodes (encodes-status pin puk key);
    signature = λ key r s k m n. walk-encodes (encodes-signature key r s k m n);
    exportedpublic = λ key k. walk-encodes (encodes-exported-public key k);
    exportedpair = λ key private k m. walk-encodes (encodes-exported-pair key private k m);
  };
  agree = λ c cmd asks answers e a b. record {
    kind = kind-is c cmd asks e a;
    unread = unread-same c cmd asks answers e a b;
    untouched = unread-taken c cmd asks answers e a b;
    nothing = ask-empty c cmd asks e a;
    refused = read-refused c cmd asks answers e a b;
    taken = read_taken c cmd asks answers e a b;
    told = ask-data c cmd asks e a;
  };
  soundness = record {
    fresh = fresh-sound;
    reset = λ c e. ap (λ (a : Answer). is_sound a.card) (reset-is c e) ∙ reset-sound c e;
    read = read-sound;
    answer = answer-sound;
  };
  resets = record { twice = reset-twice };
  sizes = record {
    card = refl;
    fresh = refl;
    least = refl;
    most = refl;
    room = refl;
    ask = ask-most;
    answer = answer-most;
    write = record-length;
  };
}
