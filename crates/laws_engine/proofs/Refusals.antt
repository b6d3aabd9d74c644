-- When ASK and ANSWER refuse, by number, and what a refusal gives (RULES 3.2).
-- Assumes nothing.
use mathlib.Core.Path.{◌≡◌, refl, sym, ◌∙◌}
use mathlib.Core.Bool.{Bool, true, false, cond}
use mathlib.Core.List.{List, []}
use mathlib.Core.Logic.{◌↔◌}
use Prim.Native.Nat.{ℕ, ◌≤◌, ◌<◌}
use native.Mathlib.Omega.{arith}
use lib.Dec.{ltb}
use borrow.Author.Tests.{ltb-true, ltb-false, lt-ltb, le-ltb}
use Rattle.refusals.specs.Refusals.{ask_room, answer_room}
use Rattle.card.specs.declared.Card.{Card}
use Rattle.card.specs.Sound.{is_sound}
use Rattle.rules.specs.Supplies.{suits}
use Rattle.rules.specs.Channel.{Outgoing}
use Rattle.rules.specs.Steps.{decide}
use Rattle.rules.specs.Rules.{no_fault}
use Rattle.rules.specs.Engine.{AskOut, AnswerOut, ask_refused, asked, answer_refused, answered_at, ask_out, answer_out}

-- ---- the number, from the three tests: sound, room too small, supply has the form
abbrev number : Bool → Bool → Bool → ℕ
number a b d = cond a (cond b 2 (cond d 0 3)) 1

number-most : (a b d : Bool) → number a b d ≤ 3
number-most true true d = omega arith
number-most true false true = omega arith
number-most true false false = omega arith
number-most false b d = omega arith

number-1 : (a b d : Bool) → number a b d ≡ 1 → a ≡ false
number-1 true true d e = absurd (omega arith)
number-1 true false true e = absurd (omega arith)
number-1 true false false e = absurd (omega arith)
number-1 false b d e = refl

number-2 : (a b d : Bool) → number a b d ≡ 2 → (a ≡ true) × (b ≡ true)
number-2 true true d e = (refl, refl)
number-2 true false true e = absurd (omega arith)
number-2 true false false e = absurd (omega arith)
number-2 false b d e = absurd (omega arith)

number-3 : (a b d : Bool) → number a b d ≡ 3 → (a ≡ true) × (b ≡ false) × (d ≡ false)
number-3 true true d e = absurd (omega arith)
number-3 true false true e = absurd (omega arith)
number-3 true false false e = (refl, refl, refl)
number-3 false b d e = absurd (omega arith)

-- ---- ANSWER
module _ (c : Card) (cmd s : List ℕ) (room : ℕ) where
  answer-number : (answer_out c cmd s room).refusal ≡ number (is_sound c) (ltb room answer_room) (suits (decide c cmd).supply s)
  unfolding answer_out
  answer-number =
      by_tests (is_sound c) (ltb room answer_room) (suits (decide c cmd).supply s) (decide c cmd).fault_offset ((decide c cmd).answer s)
    where
      by_tests : (a b d : Bool) (n : ℕ) (t : Outgoing)
          → (cond a (cond b (answer_refused c 2) (cond d (answered_at n t) (answer_refused c 3))) (answer_refused c 1)).refusal ≡ number a b d
      by_tests true true d n t = refl
      by_tests true false true n t = refl
      by_tests true false false n t = refl
      by_tests false b d n t = refl

  -- a refusal gives back the card that it was given, writes nothing and tells no fault
  pub answer-refused : ((answer_out c cmd s room).refusal ≡ 0 → ⊥)
      → ((answer_out c cmd s room).card ≡ c) × ((answer_out c cmd s room).bytes ≡ []) × ((answer_out c cmd s room).fault_offset ≡ no_fault)
  unfolding answer_out
  answer-refused =
      by_tests (is_sound c) (ltb room answer_room) (suits (decide c cmd).supply s) (decide c cmd).fault_offset ((decide c cmd).answer s)
    where
      Kept : AnswerOut → Type 0
      Kept o = (o.refusal ≡ 0 → ⊥) → (o.card ≡ c) × (o.bytes ≡ []) × (o.fault_offset ≡ no_fault)

      by_tests : (a b d : Bool) (n : ℕ) (t : Outgoing)
          → Kept (cond a (cond b (answer_refused c 2) (cond d (answered_at n t) (answer_refused c 3))) (answer_refused c 1))
      by_tests true true d n t r = (refl, refl, refl)
      by_tests true false true n t r = absurd (r refl)
      by_tests true false false n t r = (refl, refl, refl)
      by_tests false b d n t r = (refl, refl, refl)

  -- 1: the card is not sound
  pub answer-unsound : (answer_out c cmd s room).refusal ≡ 1 ↔ is_sound c ≡ false
  answer-unsound = (
    λ e. number-1 (is_sound c) (ltb room 258) (suits (decide c cmd).supply s) (sym answer-number ∙ e),
    λ e. answer-number ∙ rw e,
  )

  -- 2: it is sound, and the room is under 258
  pub answer-room : (answer_out c cmd s room).refusal ≡ 2 ↔ (is_sound c ≡ true) × (room < 258)
  answer-room = (
    λ e.
        let h = number-2 (is_sound c) (ltb room 258) (suits (decide c cmd).supply s) (sym answer-number ∙ e) in
        (h.0, ltb-true room 258 h.1),
    λ h. answer-number ∙ rw (h.0, lt-ltb room 258 h.1),
  )

  -- 3: it is sound, there is room, and the supply that is read has not the form
  pub answer-supply : (answer_out c cmd s room).refusal ≡ 3 ↔ (is_sound c ≡ true) × (258 ≤ room) × (suits (decide c cmd).supply s ≡ false)
  answer-supply = (
    λ e.
        let h = number-3 (is_sound c) (ltb room 258) (suits (decide c cmd).supply s) (sym answer-number ∙ e) in
        (h.0, ltb-false room 258 h.1, h.2),
    λ h. answer-number ∙ rw (h.0, le-ltb room 258 h.1, h.2),
  )

  -- no other number
  pub answer-numbers : (answer_out c cmd s room).refusal ≤ 3
  answer-numbers = omega (arith, answer-number, number-most (is_sound c) (ltb room 258) (suits (decide c cmd).supply s))

-- ---- ASK: refusals 1 and 2 alone
module _ (c : Card) (cmd : List ℕ) (room : ℕ) where
  ask-number : (ask_out c cmd room).refusal ≡ number (is_sound c) (ltb room ask_room) true
  unfolding ask_out
  ask-number = by_tests (is_sound c) (ltb room ask_room) (asked (decide c cmd)) refl
    where
      by_tests : (a b : Bool) (o : AskOut) → o.refusal ≡ 0 → (cond a (cond b (ask_refused 2) o) (ask_refused 1)).refusal ≡ number a b true
      by_tests true true o e = refl
      by_tests true false o e = e
      by_tests false b o e = refl

  -- a refusal gives kind 0 and writes nothing
  pub ask-refused : ((ask_out c cmd room).refusal ≡ 0 → ⊥) → ((ask_out c cmd room).kind ≡ 0) × ((ask_out c cmd room).bytes ≡ [])
  unfolding ask_out
  ask-refused = by_tests (is_sound c) (ltb room ask_room) (asked (decide c cmd)) refl
    where
      Blank : AskOut → Type 0
      Blank o = (o.refusal ≡ 0 → ⊥) → (o.kind ≡ 0) × (o.bytes ≡ [])

      by_tests : (a b : Bool) (o : AskOut) → o.refusal ≡ 0 → Blank (cond a (cond b (ask_refused 2) o) (ask_refused 1))
      by_tests true true o e n = (refl, refl)
      by_tests true false o e n = absurd (n e)
      by_tests false b o e n = (refl, refl)

  pub ask-unsound : (ask_out c cmd room).refusal ≡ 1 ↔ is_sound c ≡ false
  ask-unsound = (λ e. number-1 (is_sound c) (ltb room 255) true (sym ask-number ∙ e), λ e. ask-number ∙ rw e)

  pub ask-room : (ask_out c cmd room).refusal ≡ 2 ↔ (is_sound c ≡ true) × (room < 255)
  ask-room = (
    λ e. let h = number-2 (is_sound c) (ltb room 255) true (sym ask-number ∙ e) in (h.0, ltb-true room 255 h.1),
    λ h. ask-number ∙ rw (h.0, lt-ltb room 255 h.1),
  )

  pub ask-numbers : (ask_out c cmd room).refusal ≤ 2
  ask-numbers = omega (arith, ask-number, small (is_sound c) (ltb room 255))
    where
      small : (a b : Bool) → number a b true ≤ 2
      small true true = omega arith
      small true false = omega arith
      small false b = omega arith
