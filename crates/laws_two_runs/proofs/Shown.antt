-- What a run shows is what the contracts say, by the definitions that both cite; and a report that is shown alike is the same but for its card, since
-- the card put back gives the report again.
-- Assumes nothing.
use mathlib.Core.Path.{◌≡◌, refl, sym, ap}
use Prim.Native.Nat.{ℕ}
use native.Mathlib.Omega.{arith}
use Rattle.sound.specs.declared.Answer.{Answer}
use Rattle.rules.specs.declared.Answered.{Answered}
use Rattle.laws_commands.specs.Lawful.{erase}
use Rattle.laws_two_runs.specs.Runs.{Report, of_ask, of_answer, of_reset, report_at, buffer_at, answered_with, reset_with, shown, seen_at, next_at}
use Rattle.laws_two_runs.specs.Shown.{SameReport, Shown}
use Rattle.laws_two_runs.proofs.Erasure.{erase-agree}

-- ---- two reports of one operation that are shown alike
answers-alike : (r s : Answered) → answered_with (erase r.card) r ≡ answered_with (erase s.card) s → SameReport (of_answer r) (of_answer s)
answers-alike r s e = (
  s.card,
  (erase-agree r.card s.card (ap (λ (x : Answered). x.card) e), sym (ap (λ (x : Answered). of_answer (answered_with s.card x)) e)),
)

resets-alike : (r s : Answer) → reset_with (erase r.card) r ≡ reset_with (erase s.card) s → SameReport (of_reset r) (of_reset s)
resets-alike r s e = (
  s.card,
  (erase-agree r.card s.card (ap (λ (x : Answer). x.card) e), sym (ap (λ (x : Answer). of_reset (reset_with s.card x)) e)),
)

-- those of two operations never are
abbrev operation : Report → ℕ
operation (of_ask r) = 0
operation (of_answer r) = 1
operation (of_reset r) = 2

other : {A : Type 0} (r s : Report) → (operation r ≡ operation s → ⊥) → r ≡ s → A
other r s n e = absurd (n (ap operation e))

shows_alike : (r s : Report) → shown r ≡ shown s → SameReport r s
shows_alike (of_ask r) (of_ask s) e = sym e
shows_alike (of_ask r) (of_answer s) e = other (shown (of_ask r)) (shown (of_answer s)) (λ z. omega arith) e
shows_alike (of_ask r) (of_reset s) e = other (shown (of_ask r)) (shown (of_reset s)) (λ z. omega arith) e
shows_alike (of_answer r) (of_ask s) e = other (shown (of_answer r)) (shown (of_ask s)) (λ z. omega arith) e
shows_alike (of_answer r) (of_answer s) e = answers-alike r s cc
shows_alike (of_answer r) (of_reset s) e = other (shown (of_answer r)) (shown (of_reset s)) (λ z. omega arith) e
shows_alike (of_reset r) (of_ask s) e = other (shown (of_reset r)) (shown (of_ask s)) (λ z. omega arith) e
shows_alike (of_reset r) (of_answer s) e = other (shown (of_reset r)) (shown (of_answer s)) (λ z. omega arith) e
shows_alike (of_reset r) (of_reset s) e = resets-alike r s cc

pub shows : Shown
unfolding seen_at report_at buffer_at next_at
shows = record {
  asks = λ c cmd before after r d. (ap of_ask (sym d.told), sym d.left, refl);
  answers = λ c cmd s before after r d. (
    ap (λ (x : Answered). shown (of_answer x)) (sym d.told),
    sym d.left,
    ap (λ (x : Answered). x.card) (sym d.told),
  );
  resets = λ c r e. (ap (λ (x : Answer). shown (of_reset x)) (sym e), ap (λ (x : Answer). x.card) (sym e));
  alike = shows_alike;
}
