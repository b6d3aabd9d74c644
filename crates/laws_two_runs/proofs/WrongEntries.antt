-- A list of wrong entries, as many as PIN tries are left, each sealed for the card as it then is, under two different PINs: both runs compare
-- at every call, and the premise of the two runs is met, since a wrong entry leaves the PIN, the stage and one try less.
-- Assumes nothing.
use mathlib.Core.Path.{◌≡◌, refl, sym, ap, ◌∙◌, subst}
use mathlib.Core.Bool.{Bool, true, false, cond}
use mathlib.Core.List.{List, [], ◌∷◌}
use mathlib.Core.Logic.{⊎_elim}
use mathlib.Core.Option.{some}
use Prim.Native.Nat.{ℕ, ◌-◌, ◌≤◌}
use native.Mathlib.Omega.{arith}
use borrow.Author.Tests.{ne_eqb, leb-true}
use lib.Dec.{eqb}
use lib.ListN.{length, take}
use Rattle.octets.specs.Bytes.{Bytes, same_bytes}
use Rattle.channel_rules.specs.declared.Session.{Session}
use Rattle.channel_rules.specs.Message.{Keyed, command_head, seal_field}
use Rattle.channel_rules.specs.Terminal.{sealed_command}
use Rattle.channel_rules.proofs.Trips.{command-sessions, command-keyed, response-keyed}
use Rattle.card.specs.declared.Channel.{Channel}
use Rattle.card.specs.declared.Card.{Card}
use Rattle.card.specs.State.{zeros, forgotten}
use Rattle.card.specs.Slots.{is_zero}
use Rattle.card.specs.Sound.{is_sound}
use Rattle.card.proofs.Rules.{pins-rules, parts-rules, sound-cases}
use Rattle.rules.specs.Words.{tries_left, word}
use Rattle.rules.specs.Rules.{pin}
use Rattle.rules.specs.Commands.{verify_reply}
use Rattle.rules.specs.Channel.{session_of, with_mac, plainly, sealed, tell}
use Rattle.rules.specs.Steps.{step1}
use Rattle.rules.specs.Engine.{AnswerOut, answered}
use Rattle.laws_engine.proofs.Sound.{answer-sound}
use Rattle.laws_two_runs.specs.Compared.{Compared}
use Rattle.laws_two_runs.specs.Runs.{Call, answer, comparison_at, next_at, Agree, OutAlike, Alike, Premise}
use Rattle.laws_two_runs.proofs.Calls.{StepSame, call_same}
use Rattle.laws_two_runs.proofs.Compared.{one-made, one-answers}
use Rattle.laws_two_runs.proofs.Sealed.{made, step1-stage2, InStage2, header_with, sealed_for, header_is, verify-form, verify-compares, verify-at}
use Rattle.laws_two_runs.proofs.Meets.{outcomes, by}

-- ---- the calls: ANSWER with no supply and a buffer of 258 bytes
abbrev pub verify_call : Card → List ℕ → Call
verify_call c e = answer (sealed_for c 0x20 e) [] (zeros 258)

unfoldable pub verify_calls : Card → List (List ℕ) → List Call
verify_calls c [] = []
verify_calls c (e ∷ more) = verify_call c e ∷ verify_calls (next_at c (verify_call c e)) more

-- entries that are neither of two PINs
pub record Wrong (p p' e : List ℕ) : Type 0 where
  pub bytes : Bytes e
  pub fits : length e ≤ 223
  pub here : same_bytes e p ≡ false
  pub there : same_bytes e p' ≡ false

unfoldable pub AllWrong : List ℕ → List ℕ → List (List ℕ) → Type 0
AllWrong p p' [] = Unit {0}
AllWrong p p' (e ∷ more) = Wrong p p' e × AllWrong p p' more

-- each call of the list compares the PIN, and that comes out wrong
unfoldable pub AllCompare : Card → List Call → Type 0
AllCompare c [] = Unit {0}
AllCompare c (k ∷ more) = (comparison_at c k ≡ some (by pin false)) × AllCompare (next_at c k) more

-- ---- what a wrong entry leaves
record Leaves (c n : Card) : Type 0 where
  pub initialised : n.initialised ≡ 1
  pub stage : n.channel.stage ≡ 2
  pub keyed : Keyed (session_of n.channel)
  pub pin : n.pins.pin ≡ c.pins.pin
  pub tries : n.pins.pin_tries ≡ c.pins.pin_tries - 1

tries-most : (c : Card) → is_sound c ≡ true → c.initialised ≡ 1 → c.pins.pin_tries ≤ 3
tries-most c e i =
    ⊎_elim (λ b. absurd (omega (arith, i, b.flag)))
    (λ a. leb-true c.pins.pin_tries 3 (pins-rules c.pins (parts-rules c a.parts).pins).pintries) (sound-cases c e)

word-bytes : (t : ℕ) → t ≤ 3 → Bytes (word (tries_left (t - 1)))
word-bytes t l = (omega arith, (omega arith, tt))

module _ (c : Card) (in2 : InStage2 c) (e : List ℕ) (bytes : Bytes e) (fits : length e ≤ 223)
    (left : is_zero c.pins.pin_tries ≡ false) (wrong : same_bytes e c.pins.pin ≡ false) where
  abbrev s : Session
  s = session_of c.channel

  abbrev cmd : List ℕ
  cmd = sealed_for c 0x20 e

  abbrev field : List ℕ
  field = seal_field s (command_head (header_with 0x20)) e

  -- the card at step 6
  abbrev opened : Card
  opened = with_mac (forgotten c) (take 16 field)

  r : Compared c cmd (made pin c.pins e)
  r = one-made c cmd (made pin c.pins e) (verify-compares c in2 e bytes fits left)

  field_is : r.field ≡ field
  field_is =
      let f : some r.field ≡ some field = sym r.form ∙ verify-form c in2 e bytes fits in
      cc

  told_is : r.told ≡ tell true (verify_reply false opened)
  told_is =
      r.tells
      ∙ ap (λ (b : Bool). tell true (verify_reply b (with_mac (step1 cmd c) (take 16 r.field)))) wrong
      ∙ ap (λ (x : Card). tell true (verify_reply false (with_mac x (take 16 r.field)))) (step1-stage2 c cmd in2.stage)
      ∙ ap (λ (x : List ℕ). tell true (verify_reply false (with_mac (forgotten c) (take 16 x)))) field_is

  opened-keyed : Keyed (session_of opened.channel)
  opened-keyed =
      subst (λ (x : Session). Keyed x) (sym (command-sessions s in2.keyed (header_with 0x20) e (header_is 0x20 0 (omega arith) (omega arith)) bytes fits))
      (command-keyed s in2.keyed (header_with 0x20) e (header_is 0x20 0 (omega arith) (omega arith)) bytes fits)

  sealed-is : tell true (verify_reply false opened) ≡ sealed (verify_reply false opened)
  unfolding tell verify_reply
  sealed-is = ap (λ (n : ℕ). cond (eqb n 2) (sealed (verify_reply false opened)) (plainly (verify_reply false opened))) in2.stage

  sealed-leaves : Leaves c (sealed (verify_reply false opened)).card
  unfolding verify_reply
  sealed-leaves = record {
    initialised = in2.initialised;
    stage = in2.stage;
    keyed = response-keyed (session_of opened.channel) opened-keyed (word (tries_left (c.pins.pin_tries - 1)))
        (word-bytes c.pins.pin_tries (tries-most c in2.sound in2.initialised)) (omega arith);
    pin = refl;
    tries = refl;
  }

  wrong-leaves : Leaves c (next_at c (verify_call c e))
  unfolding next_at
  wrong-leaves =
      subst (λ (a : AnswerOut). Leaves c a.card)
      (sym (one-answers c cmd [] 258 (made pin c.pins e) in2.sound (omega arith) r ∙ ap answered (told_is ∙ sealed-is)))
      sealed-leaves

-- ---- the whole list
next-in2 : (c : Card) (e : List ℕ) → InStage2 c → Leaves c (next_at c (verify_call c e)) → InStage2 (next_at c (verify_call c e))
unfolding next_at
next-in2 c e h l = record {
  sound = answer-sound c (sealed_for c 0x20 e) [] 258 h.sound;
  initialised = l.initialised;
  stage = l.stage;
  keyed = l.keyed;
}

pub wrong-entries : (es : List (List ℕ)) (c d : Card) → InStage2 c → InStage2 d → Agree c d → AllWrong c.pins.pin d.pins.pin es
    → length es ≤ c.pins.pin_tries → Alike c d (verify_calls c es) × AllCompare c (verify_calls c es)
unfolding verify_calls AllWrong AllCompare Alike
wrong-entries [] c d h h' a w l = (tt, tt)
wrong-entries (e ∷ more) c d h h' a w l =
    let k : Call = verify_call c e in
    let same : verify_call d e ≡ k = ap (λ (x : Channel). answer (sealed_by x) [] (zeros 258)) (sym a.channel) in
    let z : is_zero c.pins.pin_tries ≡ false = ne_eqb c.pins.pin_tries 0 (λ i. omega arith) in
    let z' : is_zero d.pins.pin_tries ≡ false = ne_eqb d.pins.pin_tries 0 (λ i. omega (arith, a.pintries)) in
    let here : comparison_at c k ≡ some (by pin false) = verify-at c h e w.0.bytes w.0.fits [] (zeros 258) (omega arith) z
    ∙ ap (λ (b : Bool). some (by pin b)) w.0.here in
    let there : comparison_at d k ≡ some (by pin false) = ap (λ (x : Call). comparison_at d x) (sym same)
    ∙ verify-at d h' e w.0.bytes w.0.fits [] (zeros 258) (omega arith) z' ∙ ap (λ (b : Bool). some (by pin b)) w.0.there in
    let alike : OutAlike (comparison_at c k) (comparison_at d k) = outcomes (by pin false) (by pin false) here there refl in
    let n : Leaves c (next_at c k) = wrong-leaves c h e w.0.bytes w.0.fits z w.0.here in
    let n' : Leaves d (next_at d (verify_call d e)) = wrong-leaves d h' e w.0.bytes w.0.fits z' w.0.there in
    let m' : InStage2 (next_at d k) = subst (λ (x : Call). InStage2 (next_at d x)) same (next-in2 d e h' n') in
    let p' : (next_at d k).pins.pin ≡ d.pins.pin = ap (λ (x : Call). (next_at d x).pins.pin) (sym same) ∙ n'.pin in
    let t : StepSame c d k = call_same c d k h.sound h'.sound a alike in
    let ws : AllWrong (next_at c k).pins.pin (next_at d k).pins.pin more = rw (n.pin, p') w.1 in
    let rest = wrong-entries more (next_at c k) (next_at d k) (next-in2 c e h n) m' t.next ws (omega (arith, n.tries)) in
    ((alike, rest.0), (here, rest.1))
  where
    sealed_by : Channel → List ℕ
    sealed_by x = sealed_command (session_of x) (header_with 0x20) e

pub wrong-entries-meet : (es : List (List ℕ)) (c d : Card) → InStage2 c → InStage2 d → Agree c d → AllWrong c.pins.pin d.pins.pin es
    → length es ≤ c.pins.pin_tries → Premise c d (verify_calls c es)
wrong-entries-meet es c d h h' a w l = record {
  sound = h.sound;
  sound' = h'.sound;
  agree = a;
  alike = (wrong-entries es c d h h' a w l).0;
}
