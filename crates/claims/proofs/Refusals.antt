-- The refusals of each operation, by the tests that its definition makes.
-- Assumes nothing.
use mathlib.Core.Path.{◌≡◌, refl, sym, ap, ◌∙◌}
use mathlib.Core.Bool.{Bool, true, false, false≢true}
use mathlib.Core.List.{List}
use mathlib.Core.Logic.{◌⊎◌, inl, inr, ⊎_elim}
use Prim.Native.Nat.{ℕ}
use native.Mathlib.Omega.{arith}
use borrow.Author.Tests.{ltb-true, ltb-false}
use lib.Dec.{ltb}
use lib.ListN.{length}
use Rattle.record_rules.specs.Lengths.{write_room}
use Rattle.channel_rules.specs.declared.Session.{Session}
use Rattle.channel_rules.specs.Terminal.{seal_out}
use Rattle.template_walk.specs.declared.Fault.{Fault}
use Rattle.template_walk.specs.declared.Fault.TheVariants as fault
use Rattle.std.specs.Prelude as rust
use Rattle.template_walk.specs.Walk.{Walked, refusal_number, walk_of, report}
use Rattle.card.specs.declared.Card.{Card}
use Rattle.card.specs.Sound.{is_sound}
use Rattle.sound.specs.declared.Answer.{Answer}
use Rattle.sound.specs.Reset.{reset_answer}
use Rattle.record_rules.specs.Parse.{card_of}
use Rattle.record_rules.specs.Forms.{forms}
use Rattle.record_rules.specs.Answers.{write_refusal, read_answer}
use Rattle.record_rules.proofs.FormFacts.{found}
use Rattle.record_rules.proofs.ReadFacts.{card-of-shaped, read-cases, read-refuses}
use Rattle.laws_engine.proofs.Refusals.{ask-unsound, ask-room, ask-numbers, answer-unsound, answer-room, answer-supply, answer-numbers}
use Rattle.claims.specs.Refusals.{ResetRefuses, WriteRefuses, IsRecord, ReadRefuses, SealRefuses, WalkRefuses, Refusals}
use Rattle.claims.proofs.Untouched.{ask-nothing, answer-nothing, write-nothing, seal-nothing}
use Rattle.claims.proofs.Genuine.{unseal-refuses}
use Rattle.claims.proofs.EntropyRefusals.{entropy-refuses}

never : {b : Bool} {A : Type 0} → b ≡ true → b ≡ false → A
never t f = absurd (false≢true (sym f ∙ t))

-- ---- RESET
reset-refuses : (c : Card) → ResetRefuses c
unfolding reset_answer
reset-refuses c = go (is_sound c) refl
  where
    go : (b : Bool) → is_sound c ≡ b → ResetRefuses c
    go true e =
        let z : (reset_answer c).refusal ≡ 0 = rw e in
        record {
          unsound = (λ h. absurd (omega arith), λ h. never e h);
          taken = (λ h. e, λ h. z);
          others = omega arith;
          nothing = λ n. absurd (n z);
        }
    go false e =
        let z : (reset_answer c).refusal ≡ 1 = rw e in
        record {
          unsound = (λ h. e, λ h. z);
          taken = (λ h. absurd (omega arith), λ h. never h e);
          others = omega arith;
          nothing = λ n. rw e;
        }

-- ---- WRITE
write-refuses : (c : Card) (room : ℕ) → WriteRefuses c room
unfolding write_refusal
write-refuses c room = go (is_sound c) (ltb room write_room) refl refl
  where
    go : (a b : Bool) → is_sound c ≡ a → ltb room write_room ≡ b → WriteRefuses c room
    go true true e t =
        let z : write_refusal c room ≡ 2 = rw (e, t) in
        record {
          unsound = (λ h. absurd (omega arith), λ h. never e h);
          small = (λ h. (e, ltb-true room write_room t), λ h. z);
          others = omega arith;
          nothing = write-nothing c;
        }
    go true false e t =
        let z : write_refusal c room ≡ 0 = rw (e, t) in
        record {
          unsound = (λ h. absurd (omega arith), λ h. never e h);
          small = (λ h. absurd (omega arith), λ h. absurd (omega (arith, ltb-false room write_room t, h.1)));
          others = omega arith;
          nothing = write-nothing c;
        }
    go false b e t =
        let z : write_refusal c room ≡ 1 = rw e in
        record {
          unsound = (λ h. e, λ h. z);
          small = (λ h. absurd (omega arith), λ h. never h.0 e);
          others = omega arith;
          nothing = write-nothing c;
        }

-- ---- READ
read-refusal : (s : List ℕ) → ReadRefuses s
read-refusal s = ⊎_elim
    (λ t.
    let z : (read_answer s).refusal ≡ 0 = ap (λ (a : Answer). a.refusal) t.0 in
    let is : IsRecord s = (card_of s, card-of-shaped s, t.1.sound, found s (card_of s) forms t.1.tested) in
    record {
      taken = (λ h. is, λ h. z);
      refused = (λ h. absurd (omega arith), λ n. absurd (n is));
      others = inl z;
      nothing = λ n. absurd (n z);
    })
    (λ e.
    let z : (read_answer s).refusal ≡ 8 = ap (λ (a : Answer). a.refusal) e in
    let isnot : IsRecord s → ⊥ = λ h. read-refuses s z h.0 h.1 h.2 h.3 in
    record {
      taken = (λ h. absurd (omega arith), λ h. absurd (isnot h));
      refused = (λ h. isnot, λ n. z);
      others = inr z;
      nothing = λ h. ap (λ (a : Answer). a.card) e;
    })
    (read-cases s)

-- ---- SEAL
seal-refuses : (s : Session) (header d : List ℕ) (room : ℕ) → SealRefuses s header d room
unfolding seal_out
seal-refuses s header d room = go (ltb room 261) (ltb 223 (length d)) refl refl
  where
    go : (a b : Bool) → ltb room 261 ≡ a → ltb 223 (length d) ≡ b → SealRefuses s header d room
    go true b e t =
        let z : (seal_out s header d room).refusal ≡ 2 = rw e in
        let small = ltb-true room 261 e in
        record {
          small = (λ h. small, λ h. z);
          long = (λ h. absurd (omega arith), λ h. absurd (omega (arith, h.0)));
          taken = (λ h. absurd (omega arith), λ h. absurd (omega (arith, h.0)));
          nothing = seal-nothing s header d;
        }
    go false true e t =
        let z : (seal_out s header d room).refusal ≡ 6 = rw (e, t) in
        let large = ltb-false room 261 e in
        let long = ltb-true 223 (length d) t in
        record {
          small = (λ h. absurd (omega arith), λ h. absurd (omega arith));
          long = (λ h. (large, long), λ h. z);
          taken = (λ h. absurd (omega arith), λ h. absurd (omega (arith, h.1)));
          nothing = seal-nothing s header d;
        }
    go false false e t =
        let z : (seal_out s header d room).refusal ≡ 0 = rw (e, t) in
        let large = ltb-false room 261 e in
        let short = ltb-false 223 (length d) t in
        record {
          small = (λ h. absurd (omega arith), λ h. absurd (omega arith));
          long = (λ h. absurd (omega arith), λ h. absurd (omega (arith, h.1)));
          taken = (λ h. (large, short), λ h. z);
          nothing = seal-nothing s header d;
        }

-- ---- WALK
walk-refuses : (s : List ℕ) → WalkRefuses s
walk-refuses s = record { numbers = numbers (walk_of s); nothing = nothing (walk_of s) }
  where
    numbers : (w : Walked) → ((report w).refusal ≡ 0) ⊎ (((report w).refusal ≡ 4) ⊎ ((report w).refusal ≡ 5))
    numbers (rust.Ok n) = inl refl
    numbers (rust.Err r) = of-fault r.fault
      where
        of-fault : (f : Fault) → (refusal_number f ≡ 0) ⊎ ((refusal_number f ≡ 4) ⊎ (refusal_number f ≡ 5))
        of-fault fault.Malformed = inr (inl refl)
        of-fault fault.TooDeep = inr (inr refl)

    nothing : (w : Walked) → ((report w).refusal ≡ 0 → ⊥) → (report w).count ≡ 0
    nothing (rust.Ok n) h = absurd (h refl)
    nothing (rust.Err r) h = refl

pub refusals : Refusals
refusals = record {
  ask = λ c cmd room. record {
    unsound = ask-unsound c cmd room;
    small = ask-room c cmd room;
    others = ask-numbers c cmd room;
    nothing = ask-nothing c cmd;
  };
  answer = λ c cmd s room. record {
    unsound = answer-unsound c cmd s room;
    small = answer-room c cmd s room;
    supplied = answer-supply c cmd s room;
    others = answer-numbers c cmd s room;
    nothing = answer-nothing c cmd s;
  };
  reset = reset-refuses;
  write = write-refuses;
  read = read-refusal;
  seal = seal-refuses;
  unseal = unseal-refuses;
  walk = walk-refuses;
  entropy = entropy-refuses;
}
