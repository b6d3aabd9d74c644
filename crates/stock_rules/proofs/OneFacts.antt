-- The count of one record is sound, whatever its bytes: READ gives sound cards, so a kind is 0, 1 or 2, tries are 0 to 3, and no more slots
-- are used than a card has. Assumes nothing.
use mathlib.Core.Path.{◌≡◌, refl, sym, ap, ◌∙◌}
use mathlib.Core.Bool.{Bool, true, false, not}
use mathlib.Core.Logic.{⊎_elim}
use mathlib.Core.List.{List, [], ◌∷◌}
use Prim.Native.Nat.{ℕ, zero, suc, ◌+◌, ◌≤◌}
use native.Mathlib.Omega.{arith}
use lib.Dec.{eqb}
use lib.ListN.{length}
use borrow.Author.Tests.{leb-true, eq-eqb, ne_eqb}
use Rattle.card.specs.declared.Slot.{Slot}
use Rattle.card.specs.declared.Card.{Card}
use Rattle.card.specs.Sizes.{slot_count}
use Rattle.card.specs.Slots.{is_zero}
use Rattle.card.proofs.Rules.{After, parts-rules, pins-rules, keys-rules, sound-cases}
use Rattle.sound.specs.declared.Answer.{Answer}
use Rattle.record_rules.specs.Parse.{slots_from, card_of}
use Rattle.record_rules.specs.Answers.{read_answer}
use Rattle.record_rules.proofs.ReadFacts.{read-cases, read-sound}
use Rattle.stock_rules.specs.Rows.{is_taken, used_slots, one_if, one_of}
use Rattle.stock_rules.specs.Counts.{fed, slots_most, is_count}
use Rattle.stock_rules.proofs.CountFacts.{CountRules, count-sound}

-- ---- used_slots: at most as many as there are
one-or-none : (b : Bool) → one_if b ≤ 1
one-or-none true = omega arith
one-or-none false = omega arith

used-most : (s : List Slot) → used_slots s ≤ length s
unfolding used_slots
used-most [] = omega arith
used-most (x ∷ s) = omega (arith, one-or-none (eqb x.filled 1), used-most s)

-- ---- the slots of the card that READ gives
slots-from-long : (n : ℕ) (x : List ℕ) → length (slots_from n x) ≡ n
unfolding slots_from
slots-from-long zero x = refl
slots-from-long (suc n) x = ap suc (slots-from-long n _)

card-slots : (s : List ℕ) → length (card_of s).pairing.slots ≡ slot_count
unfolding card_of
card-slots s = slots-from-long slot_count _

read-slots : (s : List ℕ) → length (read_answer s).card.pairing.slots ≡ slot_count
read-slots s = ⊎_elim
    (λ t. ap (λ (a : Answer). length a.card.pairing.slots) t.0 ∙ card-slots s)
    (λ e. ap (λ (a : Answer). length a.card.pairing.slots) e)
    (read-cases s)

-- ---- a kind that is at most 2 is one of three, and tries that are at most 3 are one of four
one-kind : (k : ℕ) → k ≤ 2 → one_if (eqb k 0) + one_if (eqb k 1) + one_if (eqb k 2) ≡ 1
one-kind zero h = refl
one-kind (suc zero) h = refl
one-kind (suc (suc zero)) h = refl
one-kind (suc (suc (suc k))) h = absurd (omega arith)

one-try : (n : ℕ) → n ≤ 3 → one_if (eqb n 0) + one_if (eqb n 1) + one_if (eqb n 2) + one_if (eqb n 3) ≡ 1
one-try zero h = refl
one-try (suc zero) h = refl
one-try (suc (suc zero)) h = refl
one-try (suc (suc (suc zero))) h = refl
one-try (suc (suc (suc (suc n)))) h = absurd (omega arith)

-- ---- one_of: a record that READ refused, one of a pre-initialised card, and one of an initialised card
pub fed-one : (a : Answer) → fed (one_of a) ≡ 1
fed-one a = by_flag (is_taken a)
  where
    by_flag : (t : Bool) → one_if t + one_if (not t) ≡ 1
    by_flag true = refl
    by_flag false = refl

refused-rules : (a : Answer) → is_taken a ≡ false → CountRules (one_of a)
refused-rules a e = record { kinds = rw e; tries = rw e; few = rw e (omega arith); slots = rw e (omega arith) }

fresh-rules : (a : Answer) → is_taken a ≡ true → is_zero a.card.initialised ≡ true → CountRules (one_of a)
fresh-rules a e z = record { kinds = rw (e, z); tries = rw (e, z); few = rw e (omega arith); slots = rw (e, z) (omega arith) }

initialised-rules : (a : Answer) → is_taken a ≡ true → is_zero a.card.initialised ≡ false → a.card.keys.kind ≤ 2
    → a.card.pins.pin_tries ≤ 3 → length a.card.pairing.slots ≤ slots_most → CountRules (one_of a)
initialised-rules a e z k t l =
    let one = one-kind a.card.keys.kind k in
    record {
      kinds = rw (e, z) (omega (arith, one));
      tries = rw (e, z) (one-try a.card.pins.pin_tries t ∙ sym one);
      few = rw e (omega arith);
      slots = rw (e, z) (omega (arith, one, used-most a.card.pairing.slots));
    }

-- ---- the count of one record
module _ (s : List ℕ) where
  after-rules : is_taken (read_answer s) ≡ true → After (read_answer s).card → CountRules (one_of (read_answer s))
  after-rules e a =
      let p = parts-rules (read_answer s).card a.parts in
      initialised-rules (read_answer s) e (ne_eqb _ _ (λ z. absurd (one_not_zero a.flag z)))
      (leb-true _ _ (keys-rules (read_answer s).card.keys p.keys).kind) (leb-true _ _ (pins-rules (read_answer s).card.pins p.pins).pintries) (omega (arith, read-slots s))
    where
      one_not_zero : {n : ℕ} → n ≡ 1 → n ≡ 0 → ⊥
      one_not_zero p q = omega arith

  pub one-rules : CountRules (one_of (read_answer s))
  one-rules = by_flag (is_taken (read_answer s)) refl
    where
      by_flag : (t : Bool) → is_taken (read_answer s) ≡ t → CountRules (one_of (read_answer s))
      by_flag false e = refused-rules (read_answer s) e
      by_flag true e = ⊎_elim
          (λ b. fresh-rules (read_answer s) e (eq-eqb _ _ b.flag))
          (λ a. after-rules e a)
          (sound-cases (read_answer s).card (read-sound s))

  pub one-sound : is_count (one_of (read_answer s)) ≡ true
  one-sound = count-sound (one_of (read_answer s)) one-rules
