-- Verification ends with the channel: the law of crate `laws_two_runs`, and calls on a card that a list of calls reaches.
-- Assumes nothing.
use mathlib.Core.Path.{◌≡◌, refl, sym, ap, ◌∙◌, subst}
use mathlib.Core.Bool.{true}
use mathlib.Core.List.{List}
use Prim.Native.Nat.{ℕ}
use borrow.Author.Tests.{eqb-true, ne_eqb}
use lib.Dec.{eqb}
use Rattle.channel_rules.specs.Message.{open_field}
use Rattle.card.specs.declared.Card.{Card}
use Rattle.card.specs.State.{no_keys}
use Rattle.card.specs.Slots.{all_of, some_of}
use Rattle.card.specs.Sound.{is_sound}
use Rattle.card.proofs.Tests.{the_second}
use Rattle.card.proofs.SoundFacts.{verified-stage, verified-tries}
use Rattle.sound.specs.declared.Answer.{Answer}
use Rattle.record_rules.specs.Answers.{read_answer}
use Rattle.record_rules.proofs.ReadFacts.{read-reset}
use Rattle.rules.specs.Commands.{select_checks, select_reply, open_checks, open_reply, rule_of}
use Rattle.rules.specs.Supplies.{suits}
use Rattle.rules.specs.Channel.{tell}
use Rattle.rules.specs.Steps.{step1, data_of, name_of, step4, step5, past_step1, arrival, step6, decide}
use Rattle.rules.specs.Engine.{answer_out}
use Rattle.sound.specs.Reset.{reset_answer}
use Rattle.laws_two_runs.specs.Runs.{Call, reset, next_at}
use Rattle.laws_two_runs.proofs.Calls.{reset-is}
use Rattle.laws_two_runs.proofs.Reached.{in_channel, verified-reached}
use Rattle.laws_two_runs.proofs.Verification.{verification}
use Rattle.laws_two_runs.proofs.Closing.{open-loses, select-loses, unopened-loses}
use Rattle.claims.specs.Verified.{Shut, Ends, open_with, selects, bare_status, Verified}

-- ---- a sound card
sound-verified : (c : Card) → is_sound c ≡ true → (c.pins.verified ≡ 0 → ⊥) → (c.channel.stage ≡ 2) × (c.pins.pin_tries ≡ 3)
sound-verified c e n =
    let not-zero = ne_eqb c.pins.verified 0 n in (
      eqb-true c.channel.stage 2 (the_second _ (eqb c.channel.stage 2) not-zero (verified-stage c e)),
      eqb-true c.pins.pin_tries 3 (the_second _ (eqb c.pins.pin_tries 3) not-zero (verified-tries c e)),
    )

-- ---- a card that is its own RESET
shut-reset : (c : Card) → is_sound c ≡ true → Shut (reset_answer c).card
shut-reset c e = subst (λ (a : Answer). Shut a.card) (sym (reset-is c e)) (refl, refl)

shut-read : (s : List ℕ) → Shut (read_answer s).card
shut-read s = subst Shut (read-reset s) (refl, refl)

-- ---- the calls, on the card that is reached
abbrev reached : Card
reached = in_channel 2 verified-reached.iv 1 no_keys

module _ (k : Call) (n : ℕ) (leaves : (iv : List ℕ) → (next_at (in_channel 2 iv 1 no_keys) k).channel.stage ≡ n)
    (ended : (iv : List ℕ) → (next_at (in_channel 2 iv 1 no_keys) k).pins.verified ≡ 0) where
  ends : Ends n k
  ends =
      let r = verified-reached.reached in
      record {
        calls = r.calls;
        open2 = ap (λ (x : Card). x.channel.stage) r.ends;
        verified = ap (λ (x : Card). x.pins.verified) r.ends;
        leaves = ap (λ (x : Card). (next_at x k).channel.stage) r.ends ∙ leaves verified-reached.iv;
        ended = ap (λ (x : Card). (next_at x k).pins.verified) r.ends ∙ ended verified-reached.iv;
      }

opens : Ends 1 (open_with 0 1)
unfolding next_at answer_out is_sound all_of some_of decide arrival step1 past_step1 data_of name_of step4 step5 step6 rule_of open_checks suits open_reply tell
opens = ends (open_with 0 1) 1 (λ iv. refl) (λ iv. refl)

opens_not : Ends 0 (open_with 0 0)
unfolding next_at answer_out is_sound all_of some_of decide arrival step1 past_step1 data_of name_of step4 step5 step6 rule_of open_checks suits open_reply tell
opens_not = ends (open_with 0 0) 0 (λ iv. refl) (λ iv. refl)

free-slot : Ends 0 (open_with 7 1)
unfolding next_at answer_out is_sound all_of some_of decide arrival step1 past_step1 data_of name_of step4 step5 step6 rule_of open_checks suits tell
free-slot = ends (open_with 7 1) 0 (λ iv. refl) (λ iv. refl)

selecting : Ends 0 selects
unfolding next_at answer_out is_sound all_of some_of decide arrival step1 past_step1 data_of name_of step4 step5 step6 rule_of select_checks suits select_reply tell
selecting = ends selects 0 (λ iv. refl) (λ iv. refl)

resetting : Ends 0 reset
unfolding next_at reset_answer is_sound all_of some_of
resetting = ends reset 0 (λ iv. refl) (λ iv. refl)

unopened : Ends 0 bare_status
unfolding next_at answer_out is_sound all_of some_of decide arrival step1 past_step1 data_of name_of step4 suits open_field
unopened = ends bare_status 0 (λ iv. refl) (λ iv. refl)

pub verified : Verified
verified = record {
  sound = sound-verified;
  fresh = λ uid key. (refl, refl);
  powerup = shut-reset;
  read = shut-read;
  calls = verification;
  everyopen = open-loses;
  everyselect = select-loses;
  everyfailure = unopened-loses;
  opens = opens;
  opensnot = opens_not;
  freeslot = free-slot;
  selecting = selecting;
  resetting = resetting;
  unopened = unopened;
}
