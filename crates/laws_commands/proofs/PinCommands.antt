-- GET STATUS, VERIFY, CHANGE and UNBLOCK are lawful.
-- Assumes nothing.
use mathlib.Core.Path.{◌≡◌, refl}
use mathlib.Core.Bool.{Bool, true, false, false≢true}
use mathlib.Core.List.{List, []}
use mathlib.Core.Option.{none, some}
use Prim.Native.Nat.{ℕ}
use native.Mathlib.Omega.{arith}
use lib.Dec.{leb, eqb}
use lib.ListN.{length, drop, length-take, length-drop}
use borrow.Author.Tests.{eqb-true, eq-eqb}
use Rattle.octets.specs.Bytes.{Bytes}
use Rattle.octets.proofs.Lists.{bytes_take}
use Rattle.template_rules.proofs.HeadFacts.{by-test}
use Rattle.card.specs.declared.Card.{Card}
use Rattle.card.specs.State.{with_secrets}
use Rattle.card.specs.Slots.{all_of}
use Rattle.card.specs.Sound.{is_digit}
use Rattle.card.specs.Shape.{Shaped}
use Rattle.card.proofs.Tests.{both}
use Rattle.card.proofs.Rules.{After, PartsRules, parts-rules}
use Rattle.rules.specs.declared.Instruction.TheVariants as ins
use Rattle.rules.specs.declared.StatusKind.{StatusKind}
use Rattle.rules.specs.declared.StatusKind.TheVariants as status
use Rattle.rules.specs.declared.SecretKind.{SecretKind}
use Rattle.rules.specs.declared.SecretKind.TheVariants as secret
use Rattle.rules.specs.declared.Command.TheVariants as command
use Rattle.rules.specs.Words.{success, Hold, Reply}
use Rattle.rules.specs.Rules.{pin, puk, right_by}
use Rattle.rules.specs.Commands.{has_key, status_reply, pin_right, pin_wrong, verify_checks, verify_reply, with_pin, with_puk, with_pairing_secret, change_checks, change_reply, is_unblocking, puk_right, puk_wrong, unblock_checks, unblock_reply, rule_of}
use Rattle.rules.specs.Rows.{row_of}
use Rattle.rules.specs.Steps.{is_initialised}
use Rattle.laws_commands.proofs.Checks.{never, open-two}
use Rattle.laws_commands.proofs.Parts.{after-init, stage-two, pins-kept, pins-shaped, pairing-kept, pairing-shaped}
use Rattle.laws_commands.proofs.Changed.{pin-right, pin-wrong, puk-right, puk-wrong, pin-changed, puk-changed, secret-rules}
use Rattle.laws_commands.specs.Lawful.{Fit, erase_reply, Verifies, Tries, Plain, Lawful}
use Rattle.laws_commands.proofs.Texts.{Short, SameChannel, PathBytes, bare, nothing, status-bytes}

-- ---- GET STATUS, by what it tells
module _ (c : Card) where
  status-fit : (g : Card) → Fit g c → (which : StatusKind) → Fit g (status_reply c which).card
  unfolding status_reply
  status-fit g f status.Application = f
  status-fit g f status.Path = f

  status-short : Shaped c → (which : StatusKind) → Short (status_reply c which)
  unfolding status_reply
  status-short h status.Application = omega arith
  status-short h status.Path = simp length-take (omega (arith, h.current))

  status-blind : (p q : List ℕ) (which : StatusKind) → erase_reply (status_reply c which) ≡ erase_reply (status_reply (with_secrets p q c) which)
  unfolding status_reply
  status-blind p q status.Application = refl
  status-blind p q status.Path = refl

  status-channel : (which : StatusKind) → SameChannel c (status_reply c which)
  unfolding status_reply
  status-channel status.Application = refl
  status-channel status.Path = refl

  status-plain : (which : StatusKind) → Tries c.pins → Bytes c.keys.current.bytes → Plain (status_reply c which)
  unfolding status_reply
  status-plain status.Application t p =
      record {
        status = omega arith;
        response = status-bytes c.pins.pin_tries c.pins.puk_tries (has_key c.keys)
            (omega (arith, t.pin)) (omega (arith, t.puk));
      }
  status-plain status.Path t p =
      record { status = omega arith; response = bytes_take c.keys.current.len c.keys.current.bytes p }

  status-verifies : (right : Bool) (which : StatusKind) → Verifies none right c (status_reply c which)
  unfolding status_reply
  status-verifies right status.Application t = (open-two c.channel.stage t, refl)
  status-verifies right status.Path t = (open-two c.channel.stage t, refl)

  status-path : (which : StatusKind) → Bytes c.keys.current.bytes → PathBytes (status_reply c which)
  unfolding status_reply
  status-path status.Application p = p
  status-path status.Path p = p

pub status-lawful : (which : StatusKind) → Lawful ins.Status (command.Status which)
unfolding rule_of
status-lawful which = record {
  keeps = λ g c d s f r v u. status-fit c g f which;
  short = λ c d s h. status-short c h which;
  unread = λ c d s t e. refl;
  unflagged = λ c d s t f. absurd (false≢true f);
  checksblind = λ p q c d. refl;
  replyblind = λ p q b c d s. status-blind c p q which;
  compares = λ x e. never x e;
  verifies = λ b c d s e o v. status-verifies c b which;
  over = λ _. record {
    channel = λ c d s h v. status-channel c which;
    texts = λ c d s t p h. status-plain c which t p;
    words = λ c d. tt;
    path = λ c d s h p. status-path c which p;
  };
  fresh = λ e. absurd (false≢true e);
}

-- ---- soundness and shape of the others, from the card g
module _ (g c : Card) (f : Fit g c) (i : is_initialised c ≡ true) where
  after' : After c
  after' = after-init c f.sound i

  parts' : PartsRules c
  parts' = parts-rules c after'.parts

  abbrev Fits : Reply → Type 0
  Fits r = Fit g r.card

  verify-fit : leb 2 c.channel.stage ≡ true → (right : Bool) → Fits (verify_reply right c)
  unfolding verify_reply
  verify-fit l right = by-test Fits right
      (λ e. record {
        sound = pins-kept c after' (pin_right c.pins) (pin-right c.pins parts'.pins) (eq-eqb c.channel.stage 2 (stage-two c f.sound l));
        shaped = λ w. pins-shaped c (f.shaped w) (pin_right c.pins) (f.shaped w).pin (f.shaped w).puk;
      })
      (λ e. record {
        sound = pins-kept c after' (pin_wrong c.pins) (pin-wrong c.pins parts'.pins) refl;
        shaped = λ w. pins-shaped c (f.shaped w) (pin_wrong c.pins) (f.shaped w).pin (f.shaped w).puk;
      })

  change-fit : (which : SecretKind) (d : List ℕ) → Hold (change_checks c.pins which d) → Fits (change_reply c which d)
  unfolding change_reply change_checks
  change-fit secret.Pin d v =
      let t = both (eqb (length d) 6) (all_of is_digit d) v.1.0 in
      record {
        sound = pins-kept c after' (with_pin c.pins d) (pin-changed c.pins parts'.pins d t.1) parts'.verified;
        shaped = λ w. pins-shaped c (f.shaped w) (with_pin c.pins d) (eqb-true (length d) 6 t.0) (f.shaped w).puk;
      }
  change-fit secret.Puk d v =
      let t = both (eqb (length d) 12) (all_of is_digit d) v.1.0 in
      record {
        sound = pins-kept c after' (with_puk c.pins d) (puk-changed c.pins parts'.pins d t.1) parts'.verified;
        shaped = λ w. pins-shaped c (f.shaped w) (with_puk c.pins d) (f.shaped w).pin (eqb-true (length d) 12 t.0);
      }
  change-fit secret.Pairing d v =
      let p = with_pairing_secret c.pairing d in
      record {
        sound = pairing-kept c after' p (secret-rules c.pairing parts'.pairing d) parts'.pending;
        shaped = λ w.
            pairing-shaped c (f.shaped w) p (eqb-true (length d) 32 v.1.0) (f.shaped w).slots (f.shaped w).keys
            (f.shaped w).expected;
      }

  unblock-fit : leb 2 c.channel.stage ≡ true → (d : List ℕ) → Hold (unblock_checks c.pins d) → (right : Bool)
      → Fits (unblock_reply right c (drop 12 d))
  unfolding unblock_reply unblock_checks
  unblock-fit x d v right =
      let h = both (eqb (length d) 18) (all_of is_digit (drop 12 d)) v.1.1.0 in
      let l = eqb-true (length d) 18 h.0 in
      by-test Fits right
      (λ e. record {
        sound = pins-kept c after' (puk_right c.pins (drop 12 d)) (puk-right c.pins parts'.pins (drop 12 d) h.1)
            (eq-eqb c.channel.stage 2 (stage-two c f.sound x));
        shaped = λ w. pins-shaped c (f.shaped w) (puk_right c.pins (drop 12 d)) (simp length-drop (omega arith)) (f.shaped w).puk;
      })
      (λ e. record {
        sound = pins-kept c after' (puk_wrong c.pins) (puk-wrong c.pins parts'.pins) parts'.verified;
        shaped = λ w. pins-shaped c (f.shaped w) (puk_wrong c.pins) (f.shaped w).pin (f.shaped w).puk;
      })

-- ---- VERIFY, by how the comparison came out
verify-blind : (p q : List ℕ) (right : Bool) (c : Card) → erase_reply (verify_reply right c) ≡ erase_reply (verify_reply right (with_secrets p q c))
unfolding verify_reply
verify-blind p q true c = refl
verify-blind p q false c = refl

verify-verifies : (right : Bool) (c : Card) → Verifies (some pin) right c (verify_reply right c)
unfolding verify_reply
verify-verifies true c t = (open-two c.channel.stage t, refl)
verify-verifies false c t = (open-two c.channel.stage t, refl)

pub verify-lawful : Lawful ins.Verify command.Verify
unfolding rule_of verify_reply verify_checks
verify-lawful = record {
  keeps = λ g c d s f r v u. verify-fit g c f r.offer (r.stage refl) (right_by pin c.pins d);
  short = λ c d s h. by-test Short (right_by pin c.pins d) (λ e. nothing) (λ e. nothing);
  unread = λ c d s t e. refl;
  unflagged = λ c d s t f. absurd (false≢true f);
  checksblind = λ p q c d. refl;
  replyblind = λ p q b c d s. verify-blind p q b c;
  compares = λ x e. refl;
  verifies = λ b c d s e o v. verify-verifies b c;
  over = λ _. record {
    channel = λ c d s h v. by-test (SameChannel c) (right_by pin c.pins d) (λ e. refl) (λ e. refl);
    texts = λ c d s t p h.
        by-test Plain (right_by pin c.pins d) (λ e. bare success (omega arith)) (λ e. bare _ (omega (arith, t.pin)));
    words = λ c d. (omega arith, tt);
    path = λ c d s h p. by-test PathBytes (right_by pin c.pins d) (λ e. p) (λ e. p);
  };
  fresh = λ e. absurd (false≢true e);
}

-- ---- CHANGE, by which secret
module _ (c : Card) (d : List ℕ) where
  change-short : (which : SecretKind) → Short (change_reply c which d)
  unfolding change_reply
  change-short secret.Pin = nothing
  change-short secret.Puk = nothing
  change-short secret.Pairing = nothing

  change-blind : (p q : List ℕ) (which : SecretKind) → erase_reply (change_reply c which d) ≡ erase_reply (change_reply (with_secrets p q c) which d)
  unfolding change_reply
  change-blind p q secret.Pin = refl
  change-blind p q secret.Puk = refl
  change-blind p q secret.Pairing = refl

  change-channel : (which : SecretKind) → SameChannel c (change_reply c which d)
  unfolding change_reply
  change-channel secret.Pin = refl
  change-channel secret.Puk = refl
  change-channel secret.Pairing = refl

  change-plain : (which : SecretKind) → Plain (change_reply c which d)
  unfolding change_reply
  change-plain secret.Pin = bare success (omega arith)
  change-plain secret.Puk = bare success (omega arith)
  change-plain secret.Pairing = bare success (omega arith)

  change-verifies : (right : Bool) (which : SecretKind) → Verifies none right c (change_reply c which d)
  unfolding change_reply
  change-verifies right secret.Pin t = (open-two c.channel.stage t, refl)
  change-verifies right secret.Puk t = (open-two c.channel.stage t, refl)
  change-verifies right secret.Pairing t = (open-two c.channel.stage t, refl)

  change-path : (which : SecretKind) → Bytes c.keys.current.bytes → PathBytes (change_reply c which d)
  unfolding change_reply
  change-path secret.Pin p = p
  change-path secret.Puk p = p
  change-path secret.Pairing p = p

pub change-lawful : (which : SecretKind) → Lawful ins.Change (command.Change which)
unfolding rule_of change_checks
change-lawful which = record {
  keeps = λ g c d s f r v u. change-fit g c f r.offer which d v;
  short = λ c d s h. change-short c d which;
  unread = λ c d s t e. refl;
  unflagged = λ c d s t f. absurd (false≢true f);
  checksblind = λ p q c d. refl;
  replyblind = λ p q b c d s. change-blind c d p q which;
  compares = λ x e. never x e;
  verifies = λ b c d s e o v. change-verifies c d b which;
  over = λ _. record {
    channel = λ c d s h v. change-channel c d which;
    texts = λ c d s t p h. change-plain c d which;
    words = λ c d. (omega arith, (omega arith, tt));
    path = λ c d s h p. change-path c d which p;
  };
  fresh = λ e. absurd (false≢true e);
}

-- ---- UNBLOCK, by how the comparison came out
unblock-blind : (p q : List ℕ) (right : Bool) (c : Card) (d : List ℕ)
    → erase_reply (unblock_reply right c d) ≡ erase_reply (unblock_reply right (with_secrets p q c) d)
unfolding unblock_reply
unblock-blind p q true c d = refl
unblock-blind p q false c d = refl

unblock-verifies : (right : Bool) (c : Card) (d : List ℕ) → Verifies (some puk) right c (unblock_reply right c d)
unfolding unblock_reply
unblock-verifies true c d t = (open-two c.channel.stage t, refl)
unblock-verifies false c d t = (open-two c.channel.stage t, refl)

pub unblock-lawful : Lawful ins.Unblock command.Unblock
unfolding rule_of unblock_reply unblock_checks
unblock-lawful = record {
  keeps = λ g c d s f r v u. unblock-fit g c f r.offer (r.stage refl) d v (right_by puk c.pins d);
  short = λ c d s h. by-test Short (right_by puk c.pins d) (λ e. nothing) (λ e. nothing);
  unread = λ c d s t e. refl;
  unflagged = λ c d s t f. absurd (false≢true f);
  checksblind = λ p q c d. refl;
  replyblind = λ p q b c d s. unblock-blind p q b c (drop 12 d);
  compares = λ x e. refl;
  verifies = λ b c d s e o v. unblock-verifies b c (drop 12 d);
  over = λ _. record {
    channel = λ c d s h v. by-test (SameChannel c) (right_by puk c.pins d) (λ e. refl) (λ e. refl);
    texts = λ c d s t p h.
        by-test Plain (right_by puk c.pins d) (λ e. bare success (omega arith)) (λ e. bare _ (omega (arith, t.puk)));
    words = λ c d. (omega arith, (omega arith, (omega arith, tt)));
    path = λ c d s h p. by-test PathBytes (right_by puk c.pins d) (λ e. p) (λ e. p);
  };
  fresh = λ e. absurd (false≢true e);
}
