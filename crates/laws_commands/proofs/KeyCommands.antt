-- LOAD, DERIVE, REMOVE, SET PIN-LESS PATH, SIGN, EXPORT, SET NDEF and GENERATE MNEMONIC are lawful.
-- Assumes nothing.
use mathlib.Core.Path.{◌≡◌, refl}
use mathlib.Core.Bool.{Bool, true, false, ◌||◌, cond, false≢true}
use mathlib.Core.List.{List, []}
use mathlib.Core.Option.{none}
use Prim.Native.Nat.{ℕ, ◌-◌, ◌*◌, ◌≤◌, ◌<◌}
use native.Mathlib.Omega.{arith}
use lib.Dec.{eqb}
use lib.ListN.{length}
use Rattle.octets.specs.Bytes.{Bytes}
use Rattle.octets.proofs.Lists.{bytes-append, bytes-replicate}
use Rattle.template_rules.proofs.HeadFacts.{by-test}
use Rattle.template_answers.proofs.AnswerFacts.{signature-length-le, exported-public-length-le, exported-pair-length-le}
use Rattle.card.specs.declared.Keys.{Keys}
use Rattle.card.specs.declared.Card.{Card}
use Rattle.card.specs.State.{zeros, no_keys, path_of, tap_of, with_keys}
use Rattle.card.proofs.Tests.{both}
use Rattle.card.proofs.Rules.{After, PartsRules, parts-rules}
use Rattle.card.proofs.TapFacts.{tap-of-sound, tap-of-length}
use Rattle.rules.specs.declared.Instruction.TheVariants as ins
use Rattle.rules.specs.declared.KeyForm.{KeyForm}
use Rattle.rules.specs.declared.ExportPath.{ExportPath}
use Rattle.rules.specs.declared.ExportPath.TheVariants as export_path
use Rattle.rules.specs.declared.ExportPart.{ExportPart}
use Rattle.rules.specs.declared.ExportPart.TheVariants as export_part
use Rattle.rules.specs.declared.Phrase.{Phrase}
use Rattle.rules.specs.declared.Command.TheVariants as command
use Rattle.rules.specs.Words.{success, reference_invalid, wrong_data, Hold, Reply, succeeds, fails}
use Rattle.sha_rules.proofs.Blocks.{length-sha256, bytes-sha256}
use Rattle.rules.specs.Supplies.{says_yes, load_public, sign_key, sign_r, sign_s, export_public, export_private, mnemonic_entropy}
use Rattle.rules.specs.Commands.{is_verified, is_set, is_path, kind_of, key_with, load_checks, uid_of, load_reply, with_current, derive_checks, derive_reply, remove_checks, remove_reply, with_pinless, pinless_checks, pinless_reply, sign_checks, sign_reply, is_export_data, export_checks, exported_keys, keys_after_export, export_reply, ndef_checks, ndef_reply, mnemonic_checks, mnemonic_reply, rule_of}
use Rattle.rules.specs.Rows.{checksum_bits}
use Rattle.rules.specs.Steps.{is_initialised}
use Rattle.rules.proofs.Phrases.{bits_most}
use Rattle.laws_commands.proofs.Checks.{never, open-two, part-most}
use Rattle.laws_commands.proofs.Parts.{after-init, keys_kept, keys-shaped, tap-kept, tap-shaped}
use Rattle.laws_commands.proofs.Changed.{loaded-rules, removed-rules, derived-rules, pinless-rules, path-of-bytes}
use Rattle.laws_commands.proofs.Erasure.{cond_same}
use Rattle.laws_commands.specs.Lawful.{Fit, erase_reply, Verifies, Plain, Lawful}
use Rattle.laws_commands.proofs.Texts.{Short, SameChannel, PathBytes, bare, nothing, signature-bytes, exported-public-bytes, exported-pair-bytes, numbers-short, numbers-bytes, part_bytes}

-- the current path of 40 zeros, and that of a command's data
empty : Bytes (zeros 40)
empty = bytes-replicate 40 0 (omega arith)

given : (d : List ℕ) → Bytes d → Bytes (path_of d).bytes
given d h = bytes-append d (zeros (40 - length d)) h (bytes-replicate (40 - length d) 0 (omega arith))

-- ---- LOAD, DERIVE and EXPORT, by the flag: with 01 the card has these keys, with 00 it is as it was
module _ (c : Card) (k : Keys) (out s : List ℕ) (w : ℕ) where
  abbrev ByFlag : (Reply → Type 0) → Type 0
  ByFlag P = P (cond (says_yes s) (succeeds (with_keys c k) out) (fails c w))

  flag-fit : (g : Card) → Fit g (with_keys c k) → Fit g c → ByFlag (λ r. Fit g r.card)
  flag-fit g h f = by-test (λ (r : Reply). Fit g r.card) (says_yes s) (λ e. h) (λ e. f)

  flag-short : length out ≤ 221 → ByFlag Short
  flag-short h = by-test Short (says_yes s) (λ e. h) (λ e. nothing)

  flag-verifies : (b : Bool) → ByFlag (Verifies none b c)
  flag-verifies b = by-test (Verifies none b c) (says_yes s) (λ e t. (open-two c.channel.stage t, refl))
      (λ e t. (open-two c.channel.stage t, refl))

  flag-channel : ByFlag (SameChannel c)
  flag-channel = by-test (SameChannel c) (says_yes s) (λ e. refl) (λ e. refl)

  flag-plain : Bytes out → w < 65536 → ByFlag Plain
  flag-plain h l = by-test Plain (says_yes s) (λ e. record { status = omega arith; response = h }) (λ e. bare w l)

  flag-path : Bytes k.current.bytes → Bytes c.keys.current.bytes → ByFlag PathBytes
  flag-path h p = by-test PathBytes (says_yes s) (λ e. h) (λ e. p)

-- ---- soundness and shape, from the card g
module _ (g c : Card) (f : Fit g c) (i : is_initialised c ≡ true) where
  after' : After c
  after' = after-init c f.sound i

  parts' : PartsRules c
  parts' = parts-rules c after'.parts

  abbrev Fits : Reply → Type 0
  Fits r = Fit g r.card

  load-fit : (form : KeyForm) (s : List ℕ) → Fits (load_reply c form s)
  unfolding load_reply
  load-fit form s =
      flag-fit c (key_with (kind_of form) (uid_of s)) (uid_of s) s wrong_data g
      (record {
        sound = keys_kept c after' (key_with (kind_of form) (uid_of s)) (loaded-rules form (uid_of s));
        shaped = λ w. keys-shaped c (f.shaped w) (key_with (kind_of form) (uid_of s)) (length-sha256 (load_public s)) refl refl;
      })
      f

  -- the path d becomes current
  current-fit : (d : List ℕ) → is_path d ≡ true → eqb c.keys.kind 2 ≡ true → Fit g (with_keys c (with_current c.keys (path_of d)))
  current-fit d h x = record {
    sound = keys_kept c after' (with_current c.keys (path_of d)) (derived-rules c.keys parts'.keys d h x);
    shaped = λ w.
        keys-shaped c (f.shaped w) (with_current c.keys (path_of d)) (f.shaped w).keyuid (path-of-bytes d h) (f.shaped w).pinless;
  }

  derive-fit : (d s : List ℕ) → Hold (derive_checks c.pins c.keys d) → Fits (derive_reply c d s)
  unfolding derive_reply derive_checks
  derive-fit d s v =
      let x = (both (is_verified c.pins || is_set c.keys.pinless) (eqb c.keys.kind 2) v.0).1 in
      flag-fit c (with_current c.keys (path_of d)) [] s reference_invalid g (current-fit d v.1.0 x) f

  exported-fit : (which : ExportPath) (d : List ℕ) → is_export_data which d ≡ true → eqb c.keys.kind 2 ≡ true
      → Fit g (with_keys c (keys_after_export which c.keys d))
  exported-fit export_path.Current d h x = f
  exported-fit export_path.Given d h x = f
  exported-fit export_path.MakeCurrent d h x = current-fit d h x

  export-fit : (which : ExportPath) (what : ExportPart) (d s : List ℕ) → Hold (export_checks c.pins c.keys which what d)
      → Fits (export_reply c which what d s)
  unfolding export_reply export_checks
  export-fit which what d s v =
      let x = (both (eqb c.keys.kind 2) (is_verified c.pins) v.0).0 in
      flag-fit c (keys_after_export which c.keys d) (exported_keys what s) s reference_invalid g (exported-fit which d v.1.0 x) f

  remove-fit : Fits (remove_reply c)
  unfolding remove_reply
  remove-fit = record { sound = keys_kept c after' no_keys removed-rules; shaped = λ w. keys-shaped c (f.shaped w) no_keys refl refl refl }

  pinless-fit : (d : List ℕ) → Hold (pinless_checks c.pins d) → Fits (pinless_reply c d)
  unfolding pinless_reply pinless_checks
  pinless-fit d v =
      let h = v.1.0 in
      record {
        sound = keys_kept c after' (with_pinless c.keys (path_of d)) (pinless-rules c.keys parts'.keys d h);
        shaped = λ w.
            keys-shaped c (f.shaped w) (with_pinless c.keys (path_of d)) (f.shaped w).keyuid (f.shaped w).current (path-of-bytes d h);
      }

  ndef-fit : (d : List ℕ) → Hold (ndef_checks c.pins d) → Fits (ndef_reply c d)
  unfolding ndef_reply ndef_checks
  ndef-fit d v = record {
    sound = tap-kept c after' (tap_of d) (tap-of-sound d v.1.0);
    shaped = λ w. tap-shaped c (f.shaped w) (tap_of d) (tap-of-length d v.1.0);
  }

-- ---- LOAD
pub load-lawful : (form : KeyForm) → Lawful ins.Load (command.Load form)
unfolding rule_of load_reply load_checks
load-lawful form = record {
  keeps = λ g c d s f r v u. load-fit g c f r.offer form s;
  short = λ c d s h. flag-short c _ _ s _ (omega (arith, length-sha256 (load_public s)));
  unread = λ c d s t e. absurd (omega arith);
  unflagged = λ c d s t f e g. rw (e, g);
  checksblind = λ p q c d. refl;
  replyblind = λ p q b c d s. cond_same erase_reply (says_yes s) refl refl;
  compares = λ x e. never x e;
  verifies = λ b c d s e o v. flag-verifies c _ _ s _ b;
  over = λ _. record {
    channel = λ c d s h v. flag-channel c _ _ s _;
    texts = λ c d s t p h. flag-plain c _ _ s _ (bytes-sha256 (load_public s)) (omega arith);
    words = λ c d. (omega arith, (omega arith, tt));
    path = λ c d s h p. flag-path c _ _ s _ empty p;
  };
  fresh = λ e. absurd (false≢true e);
}

-- ---- DERIVE
pub derive-lawful : Lawful ins.Derive command.Derive
unfolding rule_of derive_reply derive_checks
derive-lawful = record {
  keeps = λ g c d s f r v u. derive-fit g c f r.offer d s v;
  short = λ c d s h. flag-short c _ _ s _ nothing;
  unread = λ c d s t e. absurd (omega arith);
  unflagged = λ c d s t f e g. rw (e, g);
  checksblind = λ p q c d. refl;
  replyblind = λ p q b c d s. cond_same erase_reply (says_yes s) refl refl;
  compares = λ x e. never x e;
  verifies = λ b c d s e o v. flag-verifies c _ _ s _ b;
  over = λ _. record {
    channel = λ c d s h v. flag-channel c _ _ s _;
    texts = λ c d s t p h. flag-plain c _ _ s _ tt (omega arith);
    words = λ c d. (omega arith, (omega arith, tt));
    path = λ c d s h p. flag-path c _ _ s _ (given d h) p;
  };
  fresh = λ e. absurd (false≢true e);
}

-- ---- REMOVE
pub remove-lawful : Lawful ins.Remove command.Remove
unfolding rule_of remove_reply remove_checks
remove-lawful = record {
  keeps = λ g c d s f r v u. remove-fit g c f r.offer;
  short = λ c d s h. nothing;
  unread = λ c d s t e. refl;
  unflagged = λ c d s t f. absurd (false≢true f);
  checksblind = λ p q c d. refl;
  replyblind = λ p q b c d s. refl;
  compares = λ x e. never x e;
  verifies = λ b c d s e o v t. (open-two c.channel.stage t, refl);
  over = λ _. record {
    channel = λ c d s h v. refl;
    texts = λ c d s t p h. bare success (omega arith);
    words = λ c d. (omega arith, tt);
    path = λ c d s h p. empty;
  };
  fresh = λ e. absurd (false≢true e);
}

-- ---- SET PIN-LESS PATH
pub pinless-lawful : Lawful ins.SetPinless command.SetPinless
unfolding rule_of pinless_reply pinless_checks
pinless-lawful = record {
  keeps = λ g c d s f r v u. pinless-fit g c f r.offer d v;
  short = λ c d s h. nothing;
  unread = λ c d s t e. refl;
  unflagged = λ c d s t f. absurd (false≢true f);
  checksblind = λ p q c d. refl;
  replyblind = λ p q b c d s. refl;
  compares = λ x e. never x e;
  verifies = λ b c d s e o v t. (open-two c.channel.stage t, refl);
  over = λ _. record {
    channel = λ c d s h v. refl;
    texts = λ c d s t p h. bare success (omega arith);
    words = λ c d. (omega arith, (omega arith, tt));
    path = λ c d s h p. p;
  };
  fresh = λ e. absurd (false≢true e);
}

-- ---- SIGN
pub sign-lawful : Lawful ins.Sign command.Sign
unfolding rule_of sign_reply sign_checks
sign-lawful = record {
  keeps = λ g c d s f r v u. f;
  short = λ c d s h.
      omega (arith, signature-length-le (sign_key s) (sign_r s) (sign_s s) (part-most 0 65 s) (part-most 65 32 s) (part-most 97 32 s));
  unread = λ c d s t e. absurd (omega arith);
  unflagged = λ c d s t f. absurd (false≢true f);
  checksblind = λ p q c d. refl;
  replyblind = λ p q b c d s. refl;
  compares = λ x e. never x e;
  verifies = λ b c d s e o v t. (open-two c.channel.stage t, refl);
  over = λ _. record {
    channel = λ c d s h v. refl;
    texts = λ c d s t p h. record {
      status = omega arith;
      response =
          signature-bytes (sign_key s) (sign_r s) (sign_s s) (part-most 0 65 s) (part-most 65 32 s) (part-most 97 32 s) (part_bytes 0 65 s h)
          (part_bytes 65 32 s h) (part_bytes 97 32 s h);
    };
    words = λ c d. (omega arith, (omega arith, tt));
    path = λ c d s h p. p;
  };
  fresh = λ e. absurd (false≢true e);
}

-- ---- EXPORT, by what goes out and by which path
exported-short : (what : ExportPart) (s : List ℕ) → length (exported_keys what s) ≤ 221
exported-short export_part.PrivateAndPublic s =
    omega (arith, exported-pair-length-le (export_public s) (export_private s) (part-most 1 65 s) (part-most 66 32 s))
exported-short export_part.PublicOnly s = omega (arith, exported-public-length-le (export_public s) (part-most 1 65 s))

exported-bytes : (what : ExportPart) (s : List ℕ) → Bytes s → Bytes (exported_keys what s)
exported-bytes export_part.PrivateAndPublic s h =
    exported-pair-bytes (export_public s) (export_private s) (part-most 1 65 s) (part-most 66 32 s) (part_bytes 1 65 s h) (part_bytes 66 32 s h)
exported-bytes export_part.PublicOnly s h = exported-public-bytes (export_public s) (part-most 1 65 s) (part_bytes 1 65 s h)

exported-path : (which : ExportPath) (k : Keys) (d : List ℕ) → Bytes d → Bytes k.current.bytes
    → Bytes (keys_after_export which k d).current.bytes
exported-path export_path.Current k d h p = p
exported-path export_path.Given k d h p = p
exported-path export_path.MakeCurrent k d h p = given d h

pub export-lawful : (which : ExportPath) (what : ExportPart) → Lawful ins.Export (command.Export which what)
unfolding rule_of export_reply export_checks
export-lawful which what = record {
  keeps = λ g c d s f r v u. export-fit g c f r.offer which what d s v;
  short = λ c d s h. flag-short c _ _ s _ (exported-short what s);
  unread = λ c d s t e. absurd (omega arith);
  unflagged = λ c d s t f e g. rw (e, g);
  checksblind = λ p q c d. refl;
  replyblind = λ p q b c d s. cond_same erase_reply (says_yes s) refl refl;
  compares = λ x e. never x e;
  verifies = λ b c d s e o v. flag-verifies c _ _ s _ b;
  over = λ _. record {
    channel = λ c d s h v. flag-channel c _ _ s _;
    texts = λ c d s t p h. flag-plain c _ _ s _ (exported-bytes what s h) (omega arith);
    words = λ c d. (omega arith, (omega arith, (omega arith, tt)));
    path = λ c d s h p. flag-path c _ _ s _ (exported-path which c.keys d h p) p;
  };
  fresh = λ e. absurd (false≢true e);
}

-- ---- SET NDEF
pub ndef-lawful : Lawful ins.SetNdef command.SetNdef
unfolding rule_of ndef_reply ndef_checks
ndef-lawful = record {
  keeps = λ g c d s f r v u. ndef-fit g c f r.offer d v;
  short = λ c d s h. nothing;
  unread = λ c d s t e. refl;
  unflagged = λ c d s t f. absurd (false≢true f);
  checksblind = λ p q c d. refl;
  replyblind = λ p q b c d s. refl;
  compares = λ x e. never x e;
  verifies = λ b c d s e o v t. (open-two c.channel.stage t, refl);
  over = λ _. record {
    channel = λ c d s h v. refl;
    texts = λ c d s t p h. bare success (omega arith);
    words = λ c d. (omega arith, (omega arith, tt));
    path = λ c d s h p. p;
  };
  fresh = λ e. absurd (false≢true e);
}

-- ---- GENERATE MNEMONIC: the entropy has at most 32 bytes
most-entropy : (x : Phrase) (s : List ℕ) → length (mnemonic_entropy (checksum_bits x) s) ≤ 32
most-entropy x s = omega (arith, part-most 0 (4 * checksum_bits x) s, bits_most x)

pub mnemonic-lawful : (x : Phrase) → Lawful ins.Mnemonic (command.Mnemonic x)
unfolding rule_of mnemonic_reply mnemonic_checks
mnemonic-lawful x = record {
  keeps = λ g c d s f r v u. f;
  short = λ c d s h. numbers-short (mnemonic_entropy (checksum_bits x) s) (most-entropy x s);
  unread = λ c d s t e. absurd (omega arith);
  unflagged = λ c d s t f. absurd (false≢true f);
  checksblind = λ p q c d. refl;
  replyblind = λ p q b c d s. refl;
  compares = λ x e. never x e;
  verifies = λ b c d s e o v t. (open-two c.channel.stage t, refl);
  over = λ _. record {
    channel = λ c d s h v. refl;
    texts = λ c d s t p h. record { status = omega arith; response = numbers-bytes (mnemonic_entropy (checksum_bits x) s) (most-entropy x s) };
    words = λ c d. (omega arith, tt);
    path = λ c d s h p. p;
  };
  fresh = λ e. absurd (false≢true e);
}
