-- A pairing with a client that has the secret: PAIR's first step by its rule, its final step by the law of slots, and a cryptogram that is not the expected one.
-- Assumes nothing.
use Rattle.std.specs.Prelude.{Err}
use mathlib.Core.Path.{◌≡◌, refl, sym, ap, ◌∙◌, subst}
use mathlib.Core.Bool.{Bool, true, false, ◌&&◌, not, cond}
use mathlib.Core.List.{List, [], ◌∷◌, ◌++◌, append_assoc}
use mathlib.Core.Logic.{◌↔◌}
use mathlib.Core.Option.{some}
use Prim.Native.Nat.{ℕ}
use native.Mathlib.Omega.{arith}
use borrow.Author.Tests.{eqb-true, eqb-false, eq-eqb}
use lib.Dec.{eqb}
use lib.ListN.{length, replicate}
use lib.Seq.{take_all}
use Rattle.octets.proofs.Lists.{same_refl}
use Rattle.refusals.specs.Refusals.{wrong_supply}
use Rattle.sha_rules.proofs.Blocks.{length-sha256}
use Rattle.card.specs.declared.Card.{Card}
use Rattle.card.specs.State.{zeros, with_pairing, not_pending, forgotten, closed}
use Rattle.card.specs.Slots.{all_of, some_of, is_free}
use Rattle.card.specs.Sound.{is_sound}
use Rattle.card.specs.Shape.{Shaped}
use Rattle.std.specs.Prelude.{Option, Some, None}
use Rattle.card_slots.specs.Free.{first_free}
use Rattle.card_slots.specs.Free as first-free
use Rattle.card_slots.proofs.FreeFacts.{first-free-says, found, some-found}
use Rattle.rules.specs.declared.Instruction.TheVariants as ins
use Rattle.rules.specs.declared.Command.TheVariants as command
use Rattle.rules.specs.Words.{success, security_not_met, word, verdict, Hold, Reply, succeeds, fails}
use Rattle.rules.specs.Supplies.{suits}
use Rattle.rules.specs.Commands.{pair_first_checks, pair_first_reply, pair_final_checks, rule_of}
use Rattle.rules.specs.Channel.{plainly}
use Rattle.rules.specs.Steps.{begins, step1, data_of, checks_of, supply_of, reply_of, fault_at}
use Rattle.rules.specs.Engine.{AnswerOut, answer_refused, answered_at, answered, answer_out}
use Rattle.laws_engine.proofs.Sound.{answer-sound, answer-shaped}
use Rattle.laws_two_runs.proofs.Sealed.{data-filled}
use Rattle.laws_two_runs.proofs.Reached.{initialised_card, initialised-sound, initialised-reached}
use Rattle.claims.specs.Slots.{pair_command, Supposed, Says}
use Rattle.claims.specs.Hashing.{first_step, final_step, hashed, CanPair, waiting, Asks, Pairing, PairExample}
use Rattle.claims.proofs.Pins.{unlike}
use Rattle.claims.proofs.SlotCommands.{asks-it, reads-it, replies, fails-with, says_plain, pair-named, pair-final}

-- ---- both commands
pair-form : (p1 : ℕ) (x : List ℕ) → length x ≡ 32 → data_of (pair_command p1 (32 ∷ x)) ≡ some x
pair-form p1 x l = ap (λ (n : ℕ). data_of (pair_command p1 (n ∷ x))) (sym l) ∙ data-filled 0x80 0x12 p1 0x00 x (omega (arith, l))

-- with no channel step 1 leaves the card as it is
pair-itself : (p1 : ℕ) (rest : List ℕ) (c : Card) → c.channel.stage ≡ 0 → step1 (pair_command p1 rest) c ≡ c
unfolding step1
pair-itself p1 rest c e = ap (λ (m : ℕ). cond (eqb m 1 && not (begins 0x11 (pair_command p1 rest))) (closed c) c) e

and-true : (b : Bool) → (b && true) ≡ b
and-true true = refl
and-true false = refl

-- a supply of 32 bytes without a flag is refused for its length alone
takes-32 : (a : AnswerOut) (b : Bool) (n : ℕ) (t : AnswerOut) (c : Card) → a ≡ cond b t (answer_refused c wrong_supply) → t.refusal ≡ 0 → b ≡ eqb n 32
    → a.refusal ≡ 3 ↔ (n ≡ 32 → ⊥)
takes-32 a true n t c e z f = (
  λ r. absurd (omega (arith, sym (ap (λ (o : AnswerOut). o.refusal) e) ∙ r, z)),
  λ m. absurd (m (eqb-true n 32 (sym f))),
)
takes-32 a false n t c e z f = (λ r. eqb-false n 32 (sym f), λ m. ap (λ (o : AnswerOut). o.refusal) e)

module _ (c : Card) (room : ℕ) (h : CanPair c c.pairing.secret room) where
  abbrev secret : List ℕ
  secret = c.pairing.secret

  some-free : some_of is_free c.pairing.slots ≡ true
  some-free = go (first_free c.pairing.slots) refl (first-free-says c.pairing.slots _ refl).1
    where
      go : (f : Option ℕ) → first_free c.pairing.slots ≡ f → first-free.Says c.pairing.slots f → some_of is_free c.pairing.slots ≡ true
      go (Some i) e l = some-found c.pairing.slots ∙ ap found e
      go None e l = absurd (l h.slot (omega (arith, h.under, h.shaped.slots)) h.free)

  -- ---- the first step
  module _ (x y : List ℕ) (x32 : length x ≡ 32) (y32 : length y ≡ 32) where
    first-supposed : Supposed c (first_step x) x room
    first-supposed = record { sound = h.sound; initialised = h.initialised; form = pair-form 0 x x32; enough = h.enough }

    first_holds : Hold (checks_of command.PairFirst c x)
    unfolding rule_of pair_first_checks
    first_holds = (rw h.closed, (rw x32, (some-free, tt)))

    first-suits : (s : List ℕ) → suits (supply_of command.PairFirst) s ≡ eqb (length s) 32
    unfolding rule_of suits
    first-suits s = and-true (eqb (length s) 32)

    first-itself : step1 (first_step x) c ≡ c
    first-itself = pair-itself 0 (32 ∷ x) c h.closed

    first-there : Hold (checks_of command.PairFirst (step1 (first_step x) c) x)
    first-there = subst (λ (k : Card). Hold (checks_of command.PairFirst k x)) (sym first-itself) first_holds

    first-asks : Asks c (first_step x) room 4 x
    unfolding rule_of
    first-asks = asks-it c (first_step x) x [] room ins.Pair first-supposed refl pair-named command.PairFirst refl room (omega (arith, h.enough)) first-there

    first-takes : (s : List ℕ) → (answer_out c (first_step x) s room).refusal ≡ 3 ↔ (length s ≡ 32 → ⊥)
    first-takes s = takes-32 _ (suits (supply_of command.PairFirst) s) (length s) _ c
        (reads-it c (first_step x) x s room ins.Pair first-supposed refl pair-named command.PairFirst refl first-there) refl (first-suits s)

    abbrev begun : Reply
    begun = succeeds (waiting c secret y) (hashed secret x ++ y)

    first-replies : reply_of command.PairFirst c x y ≡ begun
    unfolding rule_of pair_first_reply
    first-replies = rw (take_all 32 y (omega (arith, y32)))

    first_out : answer_out c (first_step x) y room ≡ answered (plainly begun)
    first_out =
        replies c (first_step x) x y room ins.Pair first-supposed refl pair-named command.PairFirst refl
        (subst (λ (k : Card). Hold (checks_of command.PairFirst k x)) (sym first-itself) first_holds) (first-suits y ∙ eq-eqb (length y) 32 y32)
        ∙ ap (λ (k : Card). answered (plainly (reply_of command.PairFirst k x y))) first-itself
        ∙ ap (λ (r : Reply). answered (plainly r)) first-replies

    first-waits : (answer_out c (first_step x) y room).card ≡ waiting c secret y
    first-waits = ap (λ (a : AnswerOut). a.card) first_out

    -- ---- the final step, on the card that waits
    waiting-sound : is_sound (waiting c secret y) ≡ true
    waiting-sound = subst (λ (k : Card). is_sound k ≡ true) first-waits (answer-sound c (first_step x) y room h.sound)

    waiting-shaped : Shaped (waiting c secret y)
    waiting-shaped = subst Shaped first-waits (answer-shaped c (first_step x) y room h.sound h.shaped)

    final-supposed : (d : List ℕ) → length d ≡ 32 → Supposed (waiting c secret y) (final_step d) d room
    final-supposed d l = record { sound = waiting-sound; initialised = h.initialised; form = pair-form 1 d l; enough = h.enough }

    final-itself : (d : List ℕ) → step1 (final_step d) (waiting c secret y) ≡ waiting c secret y
    final-itself d = pair-itself 1 (32 ∷ d) (waiting c secret y) h.closed

    final-long : length (hashed secret y) ≡ 32
    final-long = length-sha256 (secret ++ y)

    final-holds : Hold (checks_of command.PairFinal (waiting c secret y) (hashed secret y))
    unfolding rule_of pair_final_checks
    final-holds = (refl, (rw h.closed, (rw final-long, (same_refl (hashed secret y), tt))))

    final-there : Hold (checks_of command.PairFinal (step1 (final_step (hashed secret y)) (waiting c secret y)) (hashed secret y))
    final-there = subst (λ (k : Card). Hold (checks_of command.PairFinal k (hashed secret y))) (sym (final-itself (hashed secret y))) final-holds

    final-suits : (s : List ℕ) → suits (supply_of command.PairFinal) s ≡ eqb (length s) 32
    unfolding rule_of suits
    final-suits s = and-true (eqb (length s) 32)

    final-asks : Asks (waiting c secret y) (final_step (hashed secret y)) room 5 (hashed secret y)
    unfolding rule_of
    final-asks =
        asks-it (waiting c secret y) (final_step (hashed secret y)) (hashed secret y) [] room ins.Pair (final-supposed (hashed secret y) final-long) refl
        pair-named command.PairFinal refl room (omega (arith, h.enough)) final-there

    final-takes : (s : List ℕ) → (answer_out (waiting c secret y) (final_step (hashed secret y)) s room).refusal ≡ 3 ↔ (length s ≡ 32 → ⊥)
    final-takes s = takes-32 _ (suits (supply_of command.PairFinal) s) (length s) _ (waiting c secret y)
        (reads-it (waiting c secret y) (final_step (hashed secret y)) (hashed secret y) s room ins.Pair (final-supposed (hashed secret y) final-long)
        refl pair-named command.PairFinal refl final-there) refl (final-suits s)

    module _ (d s : List ℕ) (d32 : length d ≡ 32) (other : d ≡ hashed secret y → ⊥) where
      wrong-fails : verdict (supply_of command.PairFinal) (checks_of command.PairFinal (waiting c secret y) d) ≡ Err security_not_met
      unfolding rule_of pair_final_checks
      wrong-fails = rw (h.closed, d32, unlike d (hashed secret y) other)

      wrong-out : answer_out (waiting c secret y) (final_step d) s room
          ≡ answered_at (fault_at command.PairFinal d security_not_met) (plainly (fails (with_pairing c (not_pending c.pairing)) security_not_met))
      wrong-out =
          fails-with (waiting c secret y) (final_step d) d s room ins.Pair (final-supposed d d32) refl pair-named command.PairFinal refl security_not_met
          (subst (λ (k : Card). verdict (supply_of command.PairFinal) (checks_of command.PairFinal k d) ≡ Err security_not_met) (sym (final-itself d)) wrong-fails)
          ∙ ap (λ (k : Card). answered_at (fault_at command.PairFinal d security_not_met) (plainly (fails (forgotten k) security_not_met))) (final-itself d)

    own-pairing : (z : List ℕ) → length z ≡ 32 → Pairing c secret x y z room
    own-pairing z z32 = record {
      asksfirst = first-asks;
      takesfirst = first-takes;
      asksfinal = final-asks;
      takesfinal = final-takes;
      first = says_plain _ begun _ first_out (append_assoc (hashed secret x) y (word success));
      waits = first-waits;
      final = pair-final (waiting c secret y) (32 ∷ hashed secret y) z room (final-supposed (hashed secret y) final-long) waiting-shaped
          (λ e. omega (arith, e)) z32;
      wrong = λ d s l n. (
        says_plain _ (fails (with_pairing c (not_pending c.pairing)) security_not_met) _ (wrong-out d s l n) refl,
        ap (λ (a : AnswerOut). a.card) (wrong-out d s l n),
      );
    }

-- ---- with the client's secret
pub pairing : (c : Card) (secret x y z : List ℕ) (room : ℕ) → CanPair c secret room → length x ≡ 32 → length y ≡ 32 → length z ≡ 32
    → Pairing c secret x y z room
pairing c secret x y z room h x32 y32 z32 =
    subst (λ (k : List ℕ). CanPair c k room → Pairing c k x y z room) h.shares (λ g. own-pairing c room g x y x32 y32 z z32) h

-- ---- an example: the card that INIT makes of FRESH
example-can : CanPair initialised_card (zeros 32) 258
unfolding all_of
example-can = record {
  shares = refl;
  sound = initialised-sound;
  initialised = refl;
  shaped = record {
    uid = refl;
    public_key = refl;
    pin = refl;
    puk = refl;
    secret = refl;
    slots = refl;
    keys = (refl, (refl, (refl, (refl, (refl, (refl, (refl, (refl, tt))))))));
    expected = refl;
    keyuid = refl;
    current = refl;
    pinless = refl;
    tap = refl;
  };
  closed = refl;
  slot = 0;
  under = omega arith;
  free = refl;
  enough = omega arith;
}

pub pair-example : PairExample
pair-example = record {
  calls = initialised-reached.calls;
  can = subst (λ (c : Card). CanPair c (zeros 32) 258) (sym initialised-reached.ends) example-can;
  pairs = subst (λ (c : Card). Pairing c (zeros 32) (replicate 32 0x01) (replicate 32 0x02) (replicate 32 0x03) 258) (sym initialised-reached.ends)
      (pairing initialised_card (zeros 32) (replicate 32 0x01) (replicate 32 0x02) (replicate 32 0x03) 258 example-can refl refl refl);
}
