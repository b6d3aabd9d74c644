-- The pairing slots: turns with UNPAIR, by the law of sealed turns; a card whose eight slots calls fill, and one with a single slot filled; and the
-- claim.
-- Assumes nothing.
use mathlib.Core.Path.{◌≡◌, refl, sym, ap, ◌∙◌, subst}
use mathlib.Core.Bool.{true, false}
use mathlib.Core.List.{List, [], ◌∷◌, ◌++◌}
use Prim.Native.Nat.{ℕ, zero, suc, ◌-◌, ◌≤◌, ◌<◌}
use native.Mathlib.Omega.{arith}
use borrow.Author.Tests.{eqb-true, not-true}
use lib.Dec.{eqb}
use lib.ListN.{replicate, get_or-replicate}
use lib.Seq.{get_or-set_same}
use Rattle.template_answers.specs.Answers.{application_info}
use Rattle.card.specs.declared.Slot.{Slot}
use Rattle.card.specs.declared.Card.{Card}
use Rattle.card.specs.State.{zeros, free_slot, no_keys, with_pairing}
use Rattle.card.specs.Slots.{all_of, some_of, is_zero}
use Rattle.card.specs.Sound.{is_sound}
use Rattle.card.proofs.Tests.{the_second}
use Rattle.card.proofs.SoundFacts.{verified-stage}
use Rattle.card_slots.specs.Free.{first_free}
use Rattle.rules.specs.declared.Instruction.TheVariants as ins
use Rattle.rules.specs.declared.Command.TheVariants as command
use Rattle.rules.specs.Words.{Reply, succeeds}
use Rattle.rules.specs.Supplies.{suits}
use Rattle.rules.specs.Commands.{is_verified, select_checks, free_slots, select_reply, open_checks, open_reply, pair_first_checks, pair_first_reply, pair_into, pair_final_reply, with_slot, filled_with, unpair_checks, unpair_reply, rule_of}
use Rattle.rules.specs.Rows.{row_of, is_plain}
use Rattle.rules.specs.Channel.{with_mac, plain_text, tell}
use Rattle.rules.specs.Steps.{step1, data_of, cla_of, ins_of, p1_of, p2_of, name_of, is_initialised, step4, step5, past_step1, arrival, step6, decide}
use Rattle.rules.specs.Engine.{answer_out}
use Rattle.laws_exchange.specs.Opens.{outcome}
use Rattle.laws_exchange.specs.Exchange.{Typed, Turn, answered_by, unsealed_by, Names, listed, opened, Exchange}
use Rattle.laws_exchange.proofs.Exchanges.{known, staged, listed2, unlisted2}
use Rattle.laws_two_runs.specs.Runs.{Call, next_at, end_of}
use Rattle.laws_allowance.proofs.Reached.{typed}
use Rattle.laws_two_runs.proofs.Reached.{init_call, initialised_card, init-reaches, pair_hash, pair_first_call, pair_final_call, pending_on, final-next, in_channel, verified-reached}
use Rattle.claims.specs.TapRecord.{Fails}
use Rattle.claims.specs.Slots.{flag_at, unpair_with, Freed, at, Selects, Opens, Pairs, AllFilled, OneFilled, Slots}
use Rattle.claims.proofs.SlotCounts.{counted, after-init}
use Rattle.claims.proofs.SlotCommands.{slot-listed, slot-over, select_told, open-over, open_free, open-filled, pair-full, pair-final}

-- ---- a turn with UNPAIR in stage 2
unpair-sealed : is_plain ins.Unpair ≡ false
unpair-sealed = refl

module _ (c : Card) (t : Turn) (p1 p2 : ℕ) (sound : is_sound c ≡ true) (w : Typed c) (header : t.header ≡ unpair_with p1 p2)
    (in2 : c.channel.stage ≡ 2) where
  abbrev names : Names c t.header
  names = record {
    instruction = ins.Unpair;
    name = ap (λ (h : List ℕ). name_of (is_initialised c) (cla_of h) (ins_of h)) header ∙ known c ins.Unpair p1 p2 sound in2 unpair-sealed;
    sealed = unpair-sealed;
    stage = staged c ins.Unpair p1 p2 sound in2 unpair-sealed;
  }

  listed-as : listed c t.header names ≡ (row_of ins.Unpair).lists p1 p2
  listed-as = ap (λ (h : List ℕ). (row_of ins.Unpair).lists (p1_of h) (p2_of h)) header

unpair-over : (c : Card) (t : Turn) (p1 p2 : ℕ) → is_sound c ≡ true → Typed c → t.header ≡ unpair_with p1 p2 → 8 ≤ p1
    → c.channel.stage ≡ 2 → Fails c t (0x6A ∷ 0x86 ∷ [])
unpair-over c t p1 p2 sound w header h in2 =
    let l = listed-as c t p1 p2 sound w header in2 ∙ slot-over command.Unpair p1 p2 h in
    let turn = (unlisted2 c t (names c t p1 p2 sound w header in2) sound w in2 l).turn in
    record { answered = turn.answered; accepted = turn.accepted; reads = turn.plain; card = turn.card }

module _ (c : Card) (t : Turn) (p1 : ℕ) (sound : is_sound c ≡ true) (w : Typed c) (header : t.header ≡ unpair_with p1 0) (h : p1 < 8)
    (v : is_verified c.pins ≡ true) where
  -- a card that is verified is in stage 2
  in2 : c.channel.stage ≡ 2
  in2 = eqb-true c.channel.stage 2
      (the_second _ (eqb c.channel.stage 2) (not-true (is_zero c.pins.verified) v) (verified-stage c sound))

  turn : Exchange c t (outcome (command.Unpair p1) (opened c t) t.data' t.supply)
  unfolding rule_of suits
  turn = (listed2 c t (names c t p1 0 sound w header in2) sound w in2 (command.Unpair p1)
      (listed-as c t p1 0 sound w header in2 ∙ slot-listed command.Unpair p1 h) (λ _. refl)).turn

  abbrev freed : Card → Card
  freed x = with_pairing x (with_slot x.pairing p1 free_slot)

  frees-it : outcome (command.Unpair p1) (opened c t) t.data' t.supply ≡ succeeds (freed (opened c t)) []
  unfolding rule_of unpair_checks unpair_reply
  frees-it = rw v

  card-freed : (answered_by c t).card ≡ with_mac (freed c) (unsealed_by c t).session.iv
  card-freed = turn.card ∙ ap (λ (r : Reply). with_mac r.card (unsealed_by c t).session.iv) frees-it

  unpair-frees : Freed c t p1
  unpair-frees = record {
    answered = turn.answered;
    accepted = turn.accepted;
    reads = turn.plain ∙ ap plain_text frees-it;
    card = card-freed;
    free = ap (λ (x : Card). flag_at x p1) card-freed
        ∙ ap (λ (y : Slot). y.filled) (get_or-set_same c.pairing.slots p1 free_slot free_slot (omega (arith, h, w.shaped.slots)));
  }

-- ---- the card whose eight slots are filled: INIT and eight PAIRs, all supplies of zeros. The client's cryptogram is a hash that is not computed
-- here, so each PAIR's final step goes by its law
abbrev pair_calls : ℕ → List Call
pair_calls zero = []
pair_calls (suc n) = pair_first_call ∷ pair_final_call ∷ pair_calls n

-- the card that INIT has made, with the first k slots filled
abbrev first_filled : ℕ → List Slot
first_filled k = replicate k (filled_with pair_hash) ++ replicate (8 - k) free_slot

abbrev filled_to : ℕ → Card
filled_to k = with_pairing initialised_card (record { secret = zeros 32; slots = first_filled k; pending = 0; expected = zeros 32 })

abbrev filled_card : Card
filled_card = filled_to 8

one_more : (k n : ℕ) → next_at (filled_to k) pair_first_call ≡ pending_on (first_filled k) → is_sound (pending_on (first_filled k)) ≡ true
    → (pair_final_reply (pending_on (first_filled k)) (zeros 32)).card ≡ filled_to (suc k)
    → end_of (filled_to k) (pair_calls (suc n)) ≡ end_of (filled_to (suc k)) (pair_calls n)
unfolding end_of
one_more k n first sound reply =
    ap (λ (x : Card). end_of (next_at x pair_final_call) (pair_calls n)) first
    ∙ ap (λ (x : Card). end_of x (pair_calls n)) (final-next (first_filled k) sound ∙ reply)

pairs_next : end_of initialised_card (pair_calls 8) ≡ filled_card
unfolding end_of next_at answer_out is_sound all_of some_of decide arrival step1 past_step1 data_of name_of step4 step5 step6 rule_of suits tell pair_first_checks pair_first_reply pair_final_reply pair_into first_free
pairs_next =
    one_more 0 7 refl refl refl ∙ one_more 1 6 refl refl refl ∙ one_more 2 5 refl refl refl ∙ one_more 3 4 refl refl refl
    ∙ one_more 4 3 refl refl refl ∙ one_more 5 2 refl refl refl ∙ one_more 6 1 refl refl refl ∙ one_more 7 0 refl refl refl

filled-ends : at (init_call ∷ pair_calls 8) ≡ filled_card
unfolding end_of
filled-ends = ap (λ (x : Card). end_of x (pair_calls 8)) init-reaches ∙ pairs_next

filled-select : Selects filled_card (application_info (zeros 16) (zeros 65) 0 [] ++ (0x90 ∷ 0x00 ∷ []))
unfolding answer_out is_sound all_of some_of decide arrival step1 past_step1 data_of name_of step4 step5 step6 rule_of suits tell select_checks select_reply free_slots
filled-select = record { taken = refl; reads = refl }

filled-ninth : Pairs filled_card (0x6A ∷ 0x84 ∷ [])
unfolding answer_out is_sound all_of some_of decide arrival step1 past_step1 data_of name_of step4 step5 step6 rule_of suits tell pair_first_checks
filled-ninth = record { taken = refl; reads = refl }

filled-open7 : Opens filled_card 7 (zeros 48 ++ (0x90 ∷ 0x00 ∷ []))
unfolding answer_out is_sound all_of some_of decide arrival step1 past_step1 data_of name_of step4 step5 step6 rule_of suits tell open_checks open_reply
filled-open7 = record { taken = refl; reads = refl }

filled-open8 : Opens filled_card 8 (0x6A ∷ 0x86 ∷ [])
unfolding answer_out is_sound all_of some_of decide arrival step1 past_step1 data_of name_of step4 step5 suits tell
filled-open8 = record { taken = refl; reads = refl }

all-filled : AllFilled
all-filled = record {
  calls = init_call ∷ pair_calls 8;
  filled = λ k h. ap (λ (x : Card). flag_at x k) filled-ends ∙ ap (λ (y : Slot). y.filled) (get_or-replicate 8 k (filled_with pair_hash) free_slot h);
  select = subst (λ (x : Card). Selects x (application_info (zeros 16) (zeros 65) 0 [] ++ (0x90 ∷ 0x00 ∷ []))) (sym filled-ends) filled-select;
  ninth = subst (λ (x : Card). Pairs x (0x6A ∷ 0x84 ∷ [])) (sym filled-ends) filled-ninth;
  open7 = subst (λ (x : Card). Opens x 7 (zeros 48 ++ (0x90 ∷ 0x00 ∷ []))) (sym filled-ends) filled-open7;
  open8 = subst (λ (x : Card). Opens x 8 (0x6A ∷ 0x86 ∷ [])) (sym filled-ends) filled-open8;
}

-- ---- a card with a verified PIN whose slot 0 alone is filled
abbrev one_card : List ℕ → Card
one_card iv = in_channel 2 iv 1 no_keys

one-sound : (iv : List ℕ) → is_sound (one_card iv) ≡ true
unfolding is_sound all_of some_of
one-sound iv = refl

one-select : (iv : List ℕ) → Selects (one_card iv) (application_info (zeros 16) (zeros 65) 7 [] ++ (0x90 ∷ 0x00 ∷ []))
unfolding answer_out is_sound all_of some_of decide arrival step1 past_step1 data_of name_of step4 step5 step6 rule_of suits tell select_checks select_reply free_slots
one-select iv = record { taken = refl; reads = refl }

one-open7 : (iv : List ℕ) → Opens (one_card iv) 7 (0x6A ∷ 0x86 ∷ [])
unfolding answer_out is_sound all_of some_of decide arrival step1 past_step1 data_of name_of step4 step5 step6 rule_of suits tell open_checks
one-open7 iv = record { taken = refl; reads = refl }

abbrev unpair_turn : (p1 : ℕ) → p1 ≤ 255 → Turn
unpair_turn p1 l = record {
  header = unpair_with p1 0;
  data' = [];
  supply = [];
  sealroom = 261;
  answerroom = 258;
  unsealroom = 223;
  four = refl;
  most = omega arith;
  headerbytes = (omega arith, (omega arith, (omega (arith, l), (omega arith, tt))));
  databytes = tt;
  supplybytes = tt;
  sealenough = omega arith;
  answerenough = omega arith;
  unsealenough = omega arith;
}

one-filled : OneFilled
one-filled =
    let r = verified-reached.reached in
    let iv = verified-reached.iv in
    let w : Typed (one_card iv) = typed iv verified-reached.block 1 0 (zeros 32) refl in
    let back : at r.calls ≡ one_card iv = r.ends in
    record {
      calls = r.calls;
      verified = ap (λ (x : Card). is_verified x.pins) back;
      filled = ap (λ (x : Card). flag_at x 0) back;
      select = subst (λ (x : Card). Selects x (application_info (zeros 16) (zeros 65) 7 [] ++ (0x90 ∷ 0x00 ∷ []))) (sym back) (one-select iv);
      open7 = subst (λ (x : Card). Opens x 7 (0x6A ∷ 0x86 ∷ [])) (sym back) (one-open7 iv);
      turn7 = unpair_turn 7 (omega arith);
      header7 = refl;
      unpair7 = subst (λ (x : Card). Freed x (unpair_turn 7 (omega arith)) 7) (sym back)
          (unpair-frees (one_card iv) (unpair_turn 7 (omega arith)) 7 (one-sound iv) w refl (omega arith) refl);
      turn8 = unpair_turn 8 (omega arith);
      header8 = refl;
      unpair8 = subst (λ (x : Card). Fails x (unpair_turn 8 (omega arith)) (0x6A ∷ 0x86 ∷ [])) (sym back)
          (unpair-over (one_card iv) (unpair_turn 8 (omega arith)) 8 0 (one-sound iv) w refl (omega arith) refl);
    }

pub slots : Slots
slots = record {
  eight = λ c h. h.slots;
  afterinit = after-init;
  told = select_told;
  counts = counted;
  openover = open-over;
  openfree = open_free;
  openfilled = λ c p1 rest s d enc mac salt iv room p h n m. open-filled c p1 rest s d room p h n enc mac salt iv m;
  pairfull = pair-full;
  pairs = pair-final;
  unpairover = unpair-over;
  unpairs = unpair-frees;
  allfilled = all-filled;
  onefilled = one-filled;
}
