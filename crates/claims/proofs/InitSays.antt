-- INIT on a card that is not initialised: where ANSWER says 9000, the card that it leaves is initialised, for each other answer has another
-- status word.
-- Assumes nothing.
use Rattle.std.specs.Prelude.{Ok}
use mathlib.Core.Path.{◌≡◌, refl, ap, ap₂, ◌∙◌}
use mathlib.Core.Bool.{Bool, true, false, cond}
use mathlib.Core.List.{List, [], ◌∷◌}
use mathlib.Core.Option.{Option, none, some}
use Prim.Native.Nat.{ℕ}
use native.Mathlib.Omega.{arith}
use lib.Dec.{ltb, eqb}
use lib.ListN.{length, get_or}
use Rattle.template_rules.proofs.HeadFacts.{by-test}
use Rattle.refusals.specs.Refusals.{answer_room}
use Rattle.card.specs.declared.Card.{Card}
use Rattle.card.specs.Slots.{is_zero}
use Rattle.card.specs.Sound.{is_sound}
use Rattle.rules.specs.declared.Instruction.TheVariants as ins
use Rattle.rules.specs.declared.Command.TheVariants as command
use Rattle.rules.specs.Results.{Verdict}
use Rattle.rules.specs.Words.{Reply}
use Rattle.rules.specs.Supplies.{suits, says_yes, init_key}
use Rattle.rules.specs.Commands.{is_init_data, init_checks, is_content, init_content, init_with, init_reply, rule_of}
use Rattle.rules.specs.Rows.{row_of}
use Rattle.rules.specs.Channel.{plain_text, tell}
use Rattle.rules.specs.Steps.{then, step1, data_of, by_form, cla_of, ins_of, p1_of, p2_of, name_of, is_initialised, step3, step4, Arrived, by_choice, step5, past_step1, arrival, Decision, by_verdict, step6, finish, decide}
use Rattle.rules.specs.Engine.{AnswerOut, answer_out}
use Rattle.laws_engine.proofs.Sound.{step1-keeps}

abbrev says : List ℕ
says = 0x90 ∷ 0x00 ∷ []

-- two bytes of which the first is not 90
other : {A : Type 0} (a b : ℕ) → (a ≡ 0x90 → ⊥) → a ∷ b ∷ [] ≡ says → A
other a b n e = absurd (n (ap (λ (x : List ℕ). get_or x 0 0) e))

abbrev Said : Reply → Type 0
Said r = plain_text r ≡ says → is_initialised r.card ≡ true

abbrev Yes : Decision → Type 0
Yes d = (s : List ℕ) → (d.answer s).bytes ≡ says → is_initialised (d.answer s).card ≡ true

module _ (g : Card) where
  init-says : (d s : List ℕ) → Said (init_reply g d s)
  unfolding init_reply init_with
  init-says d s =
      by-test Said (says_yes s) (λ e. with-content (init_content (init_key s) d)) (λ e. other 0x6A 0x80 (λ z. omega arith))
    where
      with-content : (o : Option (List ℕ)) → Said (init_with g o)
      with-content none = other 0x6A 0x80 (λ z. omega arith)
      with-content (some x) = by-test Said (is_content x) (λ e t. refl) (λ e. other 0x6A 0x80 (λ z. omega arith))

  -- INIT at its checks
  abbrev init : List ℕ → Arrived
  init d = record { command = command.Init; data' = d; card = g; lost = g; over = false }

  step6-says : (d : List ℕ) → Yes (step6 (init d))
  unfolding step6 rule_of init_checks tell
  step6-says d =
      by-test (λ (v : Verdict). Yes (by_verdict (init d) v)) (is_init_data d) (λ e. init-says d) (λ e s. other 0x6A 0x80 (λ z. omega arith))

  choice-says : (d : List ℕ) (a b : Bool) → Yes (finish (by_choice false d g g (cond a (cond b (some command.Init) none) none)))
  unfolding tell
  choice-says d true true = step6-says d
  choice-says d true false = λ s. other 0x6A 0x86 (λ z. omega arith)
  choice-says d false b = λ s. other 0x6A 0x86 (λ z. omega arith)

  named-init : (cmd : List ℕ) → is_initialised g ≡ false → cla_of cmd ≡ 0x80 → ins_of cmd ≡ 0xFE
      → name_of (is_initialised g) (cla_of cmd) (ins_of cmd) ≡ Ok ins.Init
  unfolding name_of
  named-init cmd f a b =
      ap (λ (t : Bool). name_of t (cla_of cmd) (ins_of cmd)) f ∙ ap₂ (λ (x y : ℕ). name_of false x y) a b

  form-says : (cmd : List ℕ) → is_initialised g ≡ false → cla_of cmd ≡ 0x80 → ins_of cmd ≡ 0xFE → (o : Option (List ℕ))
      → Yes (finish (then (by_form g o) (λ field. then (step3 cmd g) (λ i. then (step4 i cmd g field) (λ y. step5 i cmd y)))))
  unfolding step4 step5
  form-says cmd f a b none = λ s. other 0x67 0x00 (λ z. omega arith)
  form-says cmd f a b (some d) = rw (named-init cmd f a b) (choice-says d (is_zero (p2_of cmd)) (eqb (p1_of cmd) 0))

pub init-initialises : (c : Card) (cmd s : List ℕ) (room : ℕ) → is_sound c ≡ true → is_initialised c ≡ false → cla_of cmd ≡ 0x80 → ins_of cmd
    ≡ 0xFE
    → (answer_out c cmd s room).bytes ≡ says → is_initialised (answer_out c cmd s room).card ≡ true
unfolding answer_out decide arrival past_step1
init-initialises c cmd s room e f a b =
    by-test Leads (is_sound c) (λ t. by-test Leads (ltb room answer_room) (λ u. empty)
    (λ u. by-test Leads (suits (decide c cmd).supply s)
    (λ w. form-says (step1 cmd c) cmd (step1-keeps (λ (x : Card). is_initialised x ≡ false) (λ x h. h) (λ x h. h) cmd c f) a b (data_of cmd) s)
    (λ w. empty)))
    (λ t. empty)
  where
    Leads : AnswerOut → Type 0
    Leads o = o.bytes ≡ says → is_initialised o.card ≡ true

    empty : [] ≡ says → is_initialised c ≡ true
    empty z = absurd (omega (arith, ap length z))
