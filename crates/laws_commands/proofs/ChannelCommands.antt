-- SELECT, INIT, OPEN, MUTUAL, PAIR and UNPAIR are lawful.
-- Assumes nothing.
use mathlib.Core.Path.{◌≡◌, refl, sym, ◌∙◌}
use mathlib.Core.Bool.{Bool, true, false, ◌&&◌, ◌||◌, not, false≢true}
use mathlib.Core.List.{List, [], ◌++◌}
use mathlib.Core.Option.{Option, none, some}
use Prim.Native.Nat.{ℕ, ◌≤◌}
use native.Mathlib.Omega.{arith}
use lib.Dec.{leb, eqb}
use lib.ListN.{length, length-set}
use borrow.Author.Tests.{eqb-true, eqb-false, leb-true, not-true, eq-eqb}
use Rattle.octets.specs.Bytes.{Bytes}
use Rattle.template_rules.proofs.HeadFacts.{by-test, field-length, short-field, field-bytes-le}
use Rattle.sha_rules.proofs.Blocks.{length-sha256}
use Rattle.card.specs.declared.Card.{Card}
use Rattle.card.specs.State.{free_slot, closed, forgotten, with_secrets, unverified, not_pending, key_uid}
use Rattle.card.specs.Slots.{all_of, is_zero}
use Rattle.card.specs.Sound.{is_sound, is_digit, session_zero}
use Rattle.card.specs.Shape.{Shaped}
use Rattle.card.proofs.Tests.{both}
use Rattle.card.proofs.Rules.{After, PartsRules, parts-rules, parts-sound, blank-rules, pins-sound, sound-after}
use Rattle.card.proofs.TapFacts.{tap-blank-sound}
use Rattle.std.specs.Prelude.{Option as Found, Some, None}
use Rattle.card_slots.specs.Free.{first_free}
use Rattle.template_answers.specs.Answers.{application_fields}
use Rattle.template_answers.proofs.AnswerFacts.{application-length, application-bytes-le}
use Rattle.rules.specs.declared.Instruction.TheVariants as ins
use Rattle.rules.specs.declared.Command.TheVariants as command
use Rattle.rules.specs.Words.{success, Hold, Reply}
use Rattle.rules.specs.Supplies.{part, says_yes, init_key, open_salt, open_iv, pair_challenge, pair_salt}
use Rattle.rules.specs.Commands.{free_slots, selected, select_checks, select_reply, is_content, initialised_with, init_checks, init_content, init_with, init_reply, opened_with, open_checks, open_reply, in_stage2, mutual_checks, mutual_reply, with_secret, pending_with, pair_first_checks, pair_first_reply, with_slot, filled_with, pair_final_checks, pair_into, pair_final_reply, unpair_checks, unpair_reply, rule_of}
use Rattle.rules.specs.Rows.{row_of}
use Rattle.rules.specs.Steps.{is_initialised}
use Rattle.laws_commands.proofs.Checks.{never, open-two, part_length, part-most}
use Rattle.laws_commands.proofs.Parts.{after-init, before-init, pairing-sound, keys-sound, channel-blank, pairing-kept, channel-kept, or_right, pairing-shaped, channel-shaped, closed-fit, forgotten-fit}
use Rattle.laws_commands.proofs.Changed.{keys-set, pending-rules, filled-rules, freed-rules, blank-pending, blank-pairing-rules, blank-keys-rules}
use Rattle.laws_commands.proofs.Erasure.{cond_same}
use Rattle.laws_commands.specs.Lawful.{Fit, erase_reply, Verifies, Filled, Lawful}
use Rattle.laws_commands.proofs.Texts.{Short, bare, nothing, two-parts, part_bytes}

not_yet : (c : Card) → is_initialised c ≡ false → Filled c
not_yet c f e = absurd (false≢true (sym f ∙ e))

-- a test that is true where its negation is false
negated : (b : Bool) → not b ≡ true → b ≡ false
negated true e = sym e
negated false e = refl

-- ---- SELECT
key-uid-short : (c : Card) → Shaped c → length (key_uid c.keys) ≤ 32
key-uid-short c h = by-test (λ (x : List ℕ). length x ≤ 32) (eqb c.keys.kind 0) (λ e. omega arith) (λ e. omega (arith, h.keyuid))

selected-short : (c : Card) → Shaped c → length (selected c.initialised c.identity c.pairing.slots c.keys) ≤ 221
selected-short c h = by-test (λ (x : List ℕ). length x ≤ 221) (is_zero c.initialised)
    (λ e. omega (arith, short-field 0x80 key (omega (arith, h.public_key)), h.public_key))
    (λ e.
    let inner = application_fields uid key free (key_uid c.keys) in
    let most = application-bytes-le (length uid) (length key) (length (key_uid c.keys)) (omega (arith, h.uid))
    (omega (arith, h.public_key)) (key-uid-short c h) in
    omega (arith, field-length 0xA4 inner, field-bytes-le (length inner), application-length uid key free (key_uid c.keys), most))
  where
    uid : List ℕ
    uid = c.identity.uid

    key : List ℕ
    key = c.identity.public_key

    free : ℕ
    free = free_slots c.pairing.slots

pub select-lawful : Lawful ins.Select command.Select
unfolding rule_of select_reply select_checks
select-lawful = record {
  keeps = λ g c d s f r v u. closed-fit g c f;
  short = λ c d s h. selected-short c h;
  unread = λ c d s t e. refl;
  unflagged = λ c d s t f. absurd (false≢true f);
  checksblind = λ p q c d. refl;
  replyblind = λ p q b c d s. refl;
  compares = λ x e. never x e;
  verifies = λ b c d s e o v t. absurd (omega (arith, t));
  over = λ e. absurd (false≢true (sym e));
  fresh = λ e c f k d s t. absurd (false≢true (sym f ∙ t));
}

-- ---- INIT
module _ (g c : Card) (f : Fit g c) (n : is_initialised c ≡ false) where
  initialised-fit : (x : List ℕ) → is_content x ≡ true → Fit g (initialised_with c x)
  initialised-fit x e =
      let b = before-init c f.sound n in
      let r = blank-rules c b.blank in
      let h = both (eqb (length x) 50) (all_of is_digit (part 0 6 x) && all_of is_digit (part 6 12 x)) e in
      let t = both (all_of is_digit (part 0 6 x)) (all_of is_digit (part 6 12 x)) h.1 in
      let l = eqb-true (length x) 50 h.0 in
      let k = initialised_with c x in
      record {
        sound = sound-after k (record {
          flag = refl;
          parts = parts-sound k (record {
            pins = pins-sound k.pins (record { flag = refl; pin = t.0; puk = t.1; pintries = refl; puktries = refl; verified = refl });
            pairing = pairing-sound k.pairing (blank-pairing-rules c.pairing (part 18 32 x) r.pairing);
            keys = keys-sound c.keys (blank-keys-rules c.keys r.keys);
            channel = channel-blank c f.sound;
            tap = tap-blank-sound c.tap r.tap;
            pending = rw (blank-pending c.pairing r.pairing);
            verified = refl;
          });
        });
        shaped = λ w. record {
          uid = (f.shaped w).uid;
          public_key = (f.shaped w).public_key;
          pin = part_length 0 6 x (omega arith);
          puk = part_length 6 12 x (omega arith);
          secret = part_length 18 32 x (omega arith);
          slots = (f.shaped w).slots;
          keys = (f.shaped w).keys;
          expected = (f.shaped w).expected;
          keyuid = (f.shaped w).keyuid;
          current = (f.shaped w).current;
          pinless = (f.shaped w).pinless;
          tap = (f.shaped w).tap;
        };
      }

  abbrev InitFits : Reply → Type 0
  InitFits r = Fit g r.card

  init-with-fit : (o : Option (List ℕ)) → InitFits (init_with c o)
  unfolding init_with
  init-with-fit none = f
  init-with-fit (some x) = by-test InitFits (is_content x) (λ e. initialised-fit x e) (λ e. f)

  init-fit : (d s : List ℕ) → InitFits (init_reply c d s)
  unfolding init_reply
  init-fit d s = by-test InitFits (says_yes s) (λ e. init-with-fit (init_content (init_key s) d)) (λ e. f)

init-with-short : (c : Card) (o : Option (List ℕ)) → Short (init_with c o)
unfolding init_with
init-with-short c none = nothing
init-with-short c (some x) = by-test Short (is_content x) (λ e. nothing) (λ e. nothing)

init-with-blind : (p q : List ℕ) (c : Card) (o : Option (List ℕ)) → erase_reply (init_with c o) ≡ erase_reply (init_with (with_secrets p q c) o)
unfolding init_with
init-with-blind p q c none = refl
init-with-blind p q c (some x) = cond_same erase_reply (is_content x) refl refl

abbrev FilledReply : Reply → Type 0
FilledReply r = Filled r.card

init-with-fills : (c : Card) → is_initialised c ≡ false → c.keys.kind ≡ 0 → (o : Option (List ℕ)) → FilledReply (init_with c o)
unfolding init_with
init-with-fills c f k none = not_yet c f
init-with-fills c f k (some x) =
    by-test FilledReply (is_content x) (λ e t. record { pin = refl; puk = refl; key = k }) (λ e. not_yet c f)

-- a card before INIT has its channel closed, and INIT leaves it so
module _ (right : Bool) (c : Card) (e : is_sound c ≡ true) (n : is_initialised c ≡ false) where
  abbrev InitVerifies : Reply → Type 0
  InitVerifies = Verifies none right c

  shut : c.channel.stage ≡ 0
  shut = eqb-true c.channel.stage 0
      (both (is_zero c.channel.stage) (session_zero c.channel) (blank-rules c (before-init c e n).blank).channel).0

  still : {A : Type 0} → c.channel.stage ≡ 2 → A
  still t = absurd (omega (arith, shut))

  content-verifies : (o : Option (List ℕ)) → InitVerifies (init_with c o)
  unfolding init_with
  content-verifies none = λ t. still t
  content-verifies (some x) = by-test InitVerifies (is_content x) (λ y t. still t) (λ y t. still t)

  init-verifies : (d s : List ℕ) → InitVerifies (init_reply c d s)
  unfolding init_reply
  init-verifies d s = by-test InitVerifies (says_yes s) (λ y. content-verifies (init_content (init_key s) d)) (λ y t. still t)

pub init-lawful : Lawful ins.Init command.Init
unfolding rule_of init_reply init_checks
init-lawful = record {
  keeps = λ g c d s f r v u. init-fit g c f (negated (is_initialised c) r.offer) d s;
  short = λ c d s h. by-test Short (says_yes s) (λ e. init-with-short c (init_content (init_key s) d)) (λ e. nothing);
  unread = λ c d s t e. absurd (omega arith);
  unflagged = λ c d s t f e g. rw (e, g);
  checksblind = λ p q c d. refl;
  replyblind = λ p q b c d s. cond_same erase_reply (says_yes s) (init-with-blind p q c (init_content (init_key s) d)) refl;
  compares = λ x e. never x e;
  verifies = λ b c d s e o v. init-verifies b c e (negated (is_initialised c) o) d s;
  over = λ e. absurd (false≢true (sym e));
  fresh = λ e c f k d s.
      by-test FilledReply (says_yes s) (λ t. init-with-fills c f k (init_content (init_key s) d)) (λ t. not_yet c f);
}

-- ---- the others, on an initialised card
-- a pending pairing only in stage 0, so none in another stage
stage-alone : (c : Card) → After c → (c.channel.stage ≡ 0 → ⊥) → c.pairing.pending ≡ 0
stage-alone c a n = by_flag (is_zero c.pairing.pending) refl (parts-rules c a.parts).pending
  where
    by_flag : (b : Bool) → is_zero c.pairing.pending ≡ b → (b || is_zero c.channel.stage) ≡ true → c.pairing.pending ≡ 0
    by_flag true e t = eqb-true c.pairing.pending 0 e
    by_flag false e t = absurd (n (eqb-true c.channel.stage 0 t))

module _ (g c : Card) (f : Fit g c) (i : is_initialised c ≡ true) where
  after' : After c
  after' = after-init c f.sound i

  parts' : PartsRules c
  parts' = parts-rules c after'.parts

  abbrev Fits : Reply → Type 0
  Fits r = Fit g r.card

  open-fit : (s : List ℕ) → c.pairing.pending ≡ 0 → c.pins.verified ≡ 0 → Fits (open_reply c s)
  unfolding open_reply
  open-fit s z y = by-test Fits (says_yes s)
      (λ e. record {
        sound = channel-kept c after' (opened_with s) refl (rw z) (rw y);
        shaped = λ w. channel-shaped c (f.shaped w) (opened_with s);
      })
      (λ e. f)

  mutual-fit : (d s : List ℕ) → Hold (mutual_checks c.channel.stage d) → Fits (mutual_reply c s)
  unfolding mutual_reply mutual_checks
  mutual-fit d s v =
      let h = eqb-true c.channel.stage 1 v.0 in
      record {
        sound = channel-kept c after' (in_stage2 c.channel) refl (rw (stage-alone c after' (λ z. omega arith)))
            (or_right (is_zero c.pins.verified) true refl);
        shaped = λ w. channel-shaped c (f.shaped w) (in_stage2 c.channel);
      }

  zero_of : (n : ℕ) → n ≤ 2 → (n ≡ 1 → ⊥) → (n ≡ 2 → ⊥) → n ≡ 0
  zero_of n a b d = omega arith

  pair-first-fit : (d s : List ℕ) → (c.channel.stage ≡ 1 → ⊥) → Hold (pair_first_checks c.pairing c.channel.stage d)
      → Fits (pair_first_reply c d s)
  unfolding pair_first_reply pair_first_checks
  pair-first-fit d s n h =
      let two = eqb-false c.channel.stage 2 (not-true _ h.0) in
      let most = leb-true c.channel.stage 2 (both (leb c.channel.stage 2) _ parts'.channel).0 in
      let expected = with_secret c.pairing (pair_challenge s) in
      let p = pending_with c.pairing expected in
      record {
        sound =
            pairing-kept c after' p (pending-rules c.pairing parts'.pairing expected h.1.1.0)
            (eq-eqb c.channel.stage 0 (zero_of c.channel.stage most n two));
        shaped = λ w.
            pairing-shaped c (f.shaped w) p (f.shaped w).secret (f.shaped w).slots (f.shaped w).keys
            (length-sha256 (c.pairing.secret ++ pair_challenge s));
      }

  pair-into-fit : (s : List ℕ) → (o : Found ℕ) → Fits (pair_into c s o)
  unfolding pair_into
  pair-into-fit s (Some k) =
      let key = with_secret c.pairing (pair_salt s) in
      let p = with_slot (not_pending c.pairing) k (filled_with key) in
      record {
        sound = pairing-kept c after' p (filled-rules c.pairing parts'.pairing k key) refl;
        shaped = λ w.
            pairing-shaped c (f.shaped w) p (f.shaped w).secret (rw length-set (f.shaped w).slots)
            (keys-set c.pairing.slots k (filled_with key) (f.shaped w).keys (length-sha256 (c.pairing.secret ++ pair_salt s))) refl;
      }
  pair-into-fit s None = forgotten-fit g c f

  unpair-fit : (k : ℕ) → Fits (unpair_reply c k)
  unfolding unpair_reply
  unpair-fit k =
      let p = with_slot c.pairing k free_slot in
      record {
        sound = pairing-kept c after' p (freed-rules c.pairing parts'.pairing k) parts'.pending;
        shaped = λ w.
            pairing-shaped c (f.shaped w) p (f.shaped w).secret (rw length-set (f.shaped w).slots)
            (keys-set c.pairing.slots k free_slot (f.shaped w).keys refl) (f.shaped w).expected;
      }

-- ---- OPEN: its checks and its reply get the closed card
pub open-lawful : (k : ℕ) → Lawful ins.Open (command.Open k)
unfolding rule_of open_reply open_checks
open-lawful k = record {
  keeps = λ g c d s f r v u. open-fit g (closed c) (closed-fit g c f) r.offer s (r.pending (λ e. omega arith)) refl;
  short = λ c d s h. by-test Short (says_yes s)
      (λ e. two-parts (open_salt s) (open_iv s) 32 16 (part-most 65 32 s) (part-most 97 16 s) (omega arith)) (λ e. nothing);
  unread = λ c d s t e. absurd (omega arith);
  unflagged = λ c d s t f e g. rw (e, g);
  checksblind = λ p q c d. refl;
  replyblind = λ p q b c d s. cond_same erase_reply (says_yes s) refl refl;
  compares = λ x e. never x e;
  verifies = λ b c d s e o v. by-test (Verifies none b c) (says_yes s) (λ y t. absurd (omega (arith, t)))
      (λ y t. (open-two c.channel.stage t, refl));
  over = λ e. absurd (false≢true (sym e));
  fresh = λ e. absurd (false≢true e);
}

-- ---- MUTUAL
not-again : (n : ℕ) (d : List ℕ) → n ≡ 2 → Hold (mutual_checks n d) → ⊥
unfolding mutual_checks
not-again n d h v = let z = eqb-true n 1 v.0 in omega arith

pub mutual-lawful : Lawful ins.Mutual command.Mutual
unfolding rule_of mutual_reply mutual_checks
mutual-lawful = record {
  keeps = λ g c d s f r v u. mutual-fit g c f r.offer d s v;
  short = λ c d s h. omega (arith, part-most 0 32 s);
  unread = λ c d s t e. absurd (omega arith);
  unflagged = λ c d s t f. absurd (false≢true f);
  checksblind = λ p q c d. refl;
  replyblind = λ p q b c d s. refl;
  compares = λ x e. never x e;
  verifies = λ b c d s e o v t. (λ z. omega (arith, eqb-true c.channel.stage 1 v.0), refl);
  over = λ _. record {
    channel = λ c d s h v. absurd (not-again c.channel.stage d h v);
    texts = λ c d s t p h. record { status = omega arith; response = part_bytes 0 32 s h };
    words = λ c d. (omega arith, (omega arith, tt));
    path = λ c d s h p. p;
  };
  fresh = λ e. absurd (false≢true e);
}

-- ---- PAIR
pub pair-first-lawful : Lawful ins.Pair command.PairFirst
unfolding rule_of pair_first_reply pair_first_checks
pair-first-lawful = record {
  keeps = λ g c d s f r v u. pair-first-fit g c f r.offer d s (r.half (λ e. omega arith)) v;
  short = λ c d s h. two-parts (with_secret c.pairing d) (pair_challenge s) 32 32 (omega (arith, length-sha256 (c.pairing.secret ++ d))) (part-most 0 32 s)
      (omega arith);
  unread = λ c d s t e. absurd (omega arith);
  unflagged = λ c d s t f. absurd (false≢true f);
  checksblind = λ p q c d. refl;
  replyblind = λ p q b c d s. refl;
  compares = λ x e. never x e;
  verifies = λ b c d s e o v t. (open-two c.channel.stage t, refl);
  over = λ e. absurd (false≢true (sym e));
  fresh = λ e. absurd (false≢true e);
}

into-short : (c : Card) (s : List ℕ) (o : Found ℕ) → Short (pair_into c s o)
unfolding pair_into
into-short c s (Some i) = omega (arith, part-most 0 32 s)
into-short c s None = nothing

into-blind : (p q : List ℕ) (c : Card) (s : List ℕ) (o : Found ℕ) → erase_reply (pair_into c s o) ≡ erase_reply (pair_into (with_secrets p q c) s o)
unfolding pair_into
into-blind p q c s (Some i) = refl
into-blind p q c s None = refl

into-verifies : (right : Bool) (c : Card) (s : List ℕ) (o : Found ℕ) → Verifies none right c (pair_into c s o)
unfolding pair_into
into-verifies right c s (Some i) t = (open-two c.channel.stage t, refl)
into-verifies right c s None t = (open-two c.channel.stage t, refl)

pub pair-final-lawful : Lawful ins.Pair command.PairFinal
unfolding rule_of pair_final_reply pair_final_checks
pair-final-lawful = record {
  keeps = λ g c d s f r v u. pair-into-fit g c f r.offer s (first_free c.pairing.slots);
  short = λ c d s h. into-short c s (first_free c.pairing.slots);
  unread = λ c d s t e. absurd (omega arith);
  unflagged = λ c d s t f. absurd (false≢true f);
  checksblind = λ p q c d. refl;
  replyblind = λ p q b c d s. into-blind p q c s (first_free c.pairing.slots);
  compares = λ x e. never x e;
  verifies = λ b c d s e o v. into-verifies b c s (first_free c.pairing.slots);
  over = λ e. absurd (false≢true (sym e));
  fresh = λ e. absurd (false≢true e);
}

-- ---- UNPAIR
pub unpair-lawful : (k : ℕ) → Lawful ins.Unpair (command.Unpair k)
unfolding rule_of unpair_reply unpair_checks
unpair-lawful k = record {
  keeps = λ g c d s f r v u. unpair-fit g c f r.offer k;
  short = λ c d s h. nothing;
  unread = λ c d s t e. refl;
  unflagged = λ c d s t f. absurd (false≢true f);
  checksblind = λ p q c d. refl;
  replyblind = λ p q b c d s. refl;
  compares = λ x e. never x e;
  verifies = λ b c d s e o v t. (open-two c.channel.stage t, refl);
  over = λ _. record {
    channel = λ c d s h v. refl;
    texts = λ c d s t p h. bare success (omega arith);
    words = λ c d. (omega arith, tt);
    path = λ c d s h p. p;
  };
  fresh = λ e. absurd (false≢true e);
}
