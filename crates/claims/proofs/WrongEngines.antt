-- The wrong engines, each by a call that the rules answer otherwise. The card of the examples is the one that INIT makes of FRESH, with
-- keys and supplies of zeros; the calls are the two steps of PAIR.
-- Assumes nothing.
use mathlib.Core.Path.{◌≡◌, refl, sym, ap, ◌∙◌}
use mathlib.Core.Bool.{true}
use mathlib.Core.List.{List, [], ◌∷◌, ◌++◌}
use Prim.Native.Nat.{ℕ, ◌≤◌}
use native.Mathlib.Omega.{arith}
use borrow.Author.Tests.{le-ltb}
use lib.ListN.{length, length-append}
use Rattle.sha_rules.proofs.Blocks.{length-sha256}
use Rattle.card.specs.declared.Card.{Card}
use Rattle.card.specs.State.{zeros, with_pairing}
use Rattle.card.specs.Slots.{all_of, some_of}
use Rattle.card.specs.Sound.{is_sound}
use Rattle.card_slots.specs.Free.{first_free}
use Rattle.rules.specs.Supplies.{suits}
use Rattle.rules.specs.Commands.{with_slot, filled_with, pair_first_checks, pair_first_reply, pair_final_checks, pair_into, pair_final_reply, rule_of}
use Rattle.rules.specs.Rows.{row_of}
use Rattle.rules.specs.Channel.{tell}
use Rattle.rules.specs.Steps.{step1, data_of, name_of, step4, step5, past_step1, arrival, step6, decide}
use Rattle.rules.specs.Engine.{AnswerOut, answer_out}
use Rattle.laws_two_runs.proofs.Reached.{initialised_card, initialised-sound, pair_hash, pair_final_command, pending_on, final-form, final-answers}
use Rattle.claims.specs.WrongEngines.{WrongEngines}

-- ---- the empty command
nothing-answers : (c : Card) (supply : List ℕ) (room : ℕ) → is_sound c ≡ true → 258 ≤ room
    → ((answer_out c [] supply room).refusal ≡ 0) × ((answer_out c [] supply room).bytes ≡ 0x67 ∷ 0x00 ∷ [])
unfolding answer_out decide arrival past_step1 data_of suits
nothing-answers c supply room e r = (rw (e, le-ltb room 258 r), rw (e, le-ltb room 258 r))

-- ---- PAIR, both steps
abbrev card : Card
card = initialised_card

abbrev pair_first : List ℕ
pair_first = 0x80 ∷ 0x12 ∷ 0 ∷ 0 ∷ 32 ∷ zeros 32

-- the client's cryptogram, from zeros too, is a hash that is not computed here
abbrev pair_final : List ℕ
pair_final = pair_final_command

abbrev pending : Card
pending = pending_on card.pairing.slots

abbrev paired : Card
paired = with_pairing card (with_slot card.pairing 0 (filled_with pair_hash))

first-answer : answer_out card pair_first (zeros 32) 258
    ≡ record { refusal = 0; card = pending; bytes = pair_hash ++ zeros 32 ++ (0x90 ∷ 0x00 ∷ []); fault_offset = 255 }
unfolding answer_out is_sound all_of some_of decide arrival step1 past_step1 data_of name_of step4 step5 step6 rule_of pair_first_checks suits pair_first_reply tell
first-answer = refl

second-answer : answer_out pending pair_final (zeros 32) 258
    ≡ record { refusal = 0; card = paired; bytes = 0 ∷ zeros 32 ++ (0x90 ∷ 0x00 ∷ []); fault_offset = 255 }
unfolding is_sound all_of some_of pair_final_reply pair_into first_free
second-answer = final-answers card.pairing.slots refl

-- without the first step: 6A86
alone-answer : (answer_out card pair_final (zeros 32) 258).bytes ≡ 0x6A ∷ 0x86 ∷ []
unfolding answer_out is_sound all_of some_of decide arrival step1 past_step1 name_of step4 step5 step6 rule_of pair_final_checks suits tell
alone-answer = rw final-form

-- lists of other lengths are not the same
longer : (s t : List ℕ) (m n : ℕ) → length s ≡ m → length t ≡ n → (m ≡ n → ⊥) → s ≡ t → ⊥
longer s t m n p q d e = d (sym p ∙ ap length e ∙ q)

first-long : length (pair_hash ++ zeros 32 ++ (0x90 ∷ 0x00 ∷ [])) ≡ 66
first-long = omega (
  arith,
  length-append (pair_hash ++ zeros 32) (0x90 ∷ 0x00 ∷ []),
  length-append pair_hash (zeros 32),
  length-sha256 (zeros 32 ++ zeros 32),
)

second_is : answer_out (answer_out card pair_first (zeros 32) 258).card pair_final (zeros 32) 258
    ≡ record { refusal = 0; card = paired; bytes = 0 ∷ zeros 32 ++ (0x90 ∷ 0x00 ∷ []); fault_offset = 255 }
second_is = ap (λ (a : AnswerOut). answer_out a.card pair_final (zeros 32) 258) first-answer ∙ second-answer

bytes-are : (answer_out (answer_out card pair_first (zeros 32) 258).card pair_final (zeros 32) 258).bytes ≡ 0 ∷ zeros 32 ++ (0x90 ∷ 0x00 ∷ [])
bytes-are = ap (λ (a : AnswerOut). a.bytes) second_is

pub wrong-engines : WrongEngines
wrong-engines = record {
  refuses = λ c s room e r. (nothing-answers c s room e r).0;
  agrees = λ c s room e r. (nothing-answers c s room e r).1;
  stays = record {
    card = card;
    bytes = pair_first;
    supply = zeros 32;
    room = 258;
    sound = initialised-sound;
    taken = ap (λ (a : AnswerOut). a.refusal) first-answer;
    changed = λ e. omega (arith, ap (λ (x : Card). x.pairing.pending) (sym (ap (λ (a : AnswerOut). a.card) first-answer) ∙ e));
  };
  echoes = record {
    card = card;
    first = pair_first;
    supply = zeros 32;
    second = pair_final;
    supply' = zeros 32;
    room = 258;
    sound = initialised-sound;
    taken = ap (λ (a : AnswerOut). a.refusal) first-answer;
    taken' = ap (λ (a : AnswerOut). a.refusal) second_is;
    nofirst = λ e. longer (0 ∷ zeros 32 ++ (0x90 ∷ 0x00 ∷ [])) (pair_hash ++ zeros 32 ++ (0x90 ∷ 0x00 ∷ [])) 35 66 refl first-long (λ z. omega arith)
        (sym bytes-are ∙ e ∙ ap (λ (a : AnswerOut). a.bytes) first-answer);
    noecho = λ e. longer (0 ∷ zeros 32 ++ (0x90 ∷ 0x00 ∷ [])) pair_final 35 37 refl (omega (arith, length-sha256 (zeros 32 ++ zeros 32))) (λ z. omega arith) (sym bytes-are ∙ e);
    nosupply = λ e. longer (0 ∷ zeros 32 ++ (0x90 ∷ 0x00 ∷ [])) (zeros 32) 35 32 refl refl (λ z. omega arith) (sym bytes-are ∙ e);
    onward = λ e. longer (0 ∷ zeros 32 ++ (0x90 ∷ 0x00 ∷ [])) (0x6A ∷ 0x86 ∷ []) 35 2 refl refl (λ z. omega arith)
        (sym bytes-are ∙ e ∙ alone-answer);
  };
}
