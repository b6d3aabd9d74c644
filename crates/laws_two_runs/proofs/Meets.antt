-- The premise of the two runs can be met: any digits put for PIN and PUK of a sound initialised card give a sound card that agrees; a wrong
-- entry under two different PINs, the right PIN under two different PUKs, and an UNBLOCK under two PUKs that are both wrong or both right are
-- comparisons that both runs make and that come out alike. Longer lists: WrongEntries.
-- Assumes nothing.
use mathlib.Core.Path.{◌≡◌, refl, ap, ◌∙◌}
use mathlib.Core.Bool.{Bool, true, false}
use mathlib.Core.List.{List, [], ◌∷◌}
use mathlib.Core.Logic.{⊎_elim}
use mathlib.Core.Option.{Option, some}
use Prim.Native.Nat.{ℕ, ◌≤◌}
use native.Mathlib.Omega.{arith}
use borrow.Author.Tests.{leb-true}
use lib.Dec.{leb}
use lib.ListN.{length}
use Rattle.octets.specs.Bytes.{Bytes}
use Rattle.octets.proofs.Lists.{same_refl}
use Rattle.refusals.specs.Refusals.{answer_room}
use Rattle.card.specs.declared.Card.{Card}
use Rattle.card.specs.State.{with_secrets}
use Rattle.card.specs.Slots.{all_of, is_zero}
use Rattle.card.specs.Sound.{is_sound, is_digit}
use Rattle.card.proofs.Tests.{both}
use Rattle.card.proofs.Rules.{pins-rules, parts-rules, sound-cases}
use Rattle.card.proofs.SoundFacts.{secrets-sound}
use Rattle.rules.specs.Rules.{Secret, pin, puk, right_by}
use Rattle.rules.specs.Commands.{is_unblocking}
use Rattle.rules.specs.Comparison.{Comparison}
use Rattle.laws_two_runs.specs.Runs.{Call, answer, comparison_at, Agree, OutAlike, Alike, Premise}
use Rattle.laws_two_runs.proofs.Erasure.{erase-agree}
use Rattle.laws_two_runs.proofs.Sealed.{InStage2, sealed_for, verify-at, unblock-at}

-- ---- any digits may be PIN and PUK
module _ (c : Card) (p q : List ℕ) where
  pub secrets-agree : Agree c (with_secrets p q c)
  secrets-agree = erase-agree c (with_secrets p q c) refl

  pub secrets-meet : all_of is_digit p ≡ true → all_of is_digit q ≡ true → is_sound c ≡ true → c.initialised ≡ 1
      → (is_sound (with_secrets p q c) ≡ true) × Agree c (with_secrets p q c)
  secrets-meet d g e i = (secrets-sound c p q d g e i, secrets-agree)

-- ---- digits are bytes, and a sound card's PIN is digits
digits-bytes : (x : List ℕ) → all_of is_digit x ≡ true → Bytes x
unfolding all_of
digits-bytes [] e = tt
digits-bytes (b ∷ x) e =
    let h = both (is_digit b) (all_of is_digit x) e in
    let l = leb-true b 0x39 (both (leb 0x30 b) (leb b 0x39) h.0).1 in
    (omega (arith, l), digits-bytes x h.1)

pin-digits-of : (c : Card) → is_sound c ≡ true → c.initialised ≡ 1 → all_of is_digit c.pins.pin ≡ true
pin-digits-of c e i =
    ⊎_elim (λ b. absurd (omega (arith, i, b.flag))) (λ a. (pins-rules c.pins (parts-rules c a.parts).pins).pin) (sound-cases c e)

-- ---- two cards and one call: the premise holds, and both runs compare this secret with this outcome
pub record Met (c d : Card) (k : Call) (x : Comparison) : Type 0 where
  pub premise : Premise c d (k ∷ [])
  pub here : comparison_at c k ≡ some x
  pub there : comparison_at d k ≡ some x

pub outcomes : {o u : Option Comparison} (m n : Comparison) → o ≡ some m → u ≡ some n → m.right ≡ n.right → OutAlike o u
outcomes m n e f h x y i j = cc

abbrev pub by : Secret → Bool → Comparison
by s b = record { of = s; right = b }

met : (c d : Card) (k : Call) (s : Secret) (right : Bool) → InStage2 c → InStage2 d → Agree c d → (b b' : Bool)
    → comparison_at c k ≡ some (by s b) → comparison_at d k ≡ some (by s b') → b ≡ right → b' ≡ right → Met c d k (by s right)
unfolding Alike
met c d k s right h h' a b b' e f i j =
    let here : comparison_at c k ≡ some (by s right) = e ∙ ap (λ (t : Bool). some (by s t)) i in
    let there : comparison_at d k ≡ some (by s right) = f ∙ ap (λ (t : Bool). some (by s t)) j in
    record {
      premise = record {
        sound = h.sound;
        sound' = h'.sound;
        agree = a;
        alike = (outcomes (by s right) (by s right) here there refl, tt);
      };
      here = here;
      there = there;
    }

-- ---- a card in stage 2, and the same with other digits for PIN and PUK
module _ (c : Card) (in2 : InStage2 c) (p q : List ℕ) (pin-digits : all_of is_digit p ≡ true) (puk-digits : all_of is_digit q ≡ true) where
  abbrev other : Card
  other = with_secrets p q c

  pub other-in2 : InStage2 other
  other-in2 = record {
    sound = secrets-sound c p q pin-digits puk-digits in2.sound in2.initialised;
    initialised = in2.initialised;
    stage = in2.stage;
    keyed = in2.keyed;
  }

  module _ (d supply buf : List ℕ) (bytes : Bytes d) (fits : length d ≤ 223) (room : answer_room ≤ length buf) where
    -- VERIFY with tries left: an entry that is right under both PINs or wrong under both
    pub verify-meets : is_zero c.pins.pin_tries ≡ false → (right : Bool) → right_by pin c.pins d ≡ right → right_by pin other.pins d ≡ right
        → Met c other (answer (sealed_for c 0x20 d) supply buf) (by pin right)
    verify-meets z right i j =
        met c other (answer (sealed_for c 0x20 d) supply buf) pin right in2 other-in2 (secrets-agree c p q) (right_by pin c.pins d)
        (right_by pin other.pins d)
        (verify-at c in2 d bytes fits supply buf room z)
        (verify-at other other-in2 d bytes fits supply buf room z)
        i
        j

    -- UNBLOCK past its data check: twelve bytes that are right under both PUKs or wrong under both
    pub unblock-meets : is_zero c.pins.pin_tries ≡ true → is_zero c.pins.puk_tries ≡ false → is_unblocking d ≡ true
        → (right : Bool) → right_by puk c.pins d ≡ right → right_by puk other.pins d ≡ right
        → Met c other (answer (sealed_for c 0x22 d) supply buf) (by puk right)
    unblock-meets z y f right i j =
        met c other (answer (sealed_for c 0x22 d) supply buf) puk right in2 other-in2 (secrets-agree c p q) (right_by puk c.pins d)
        (right_by puk other.pins d)
        (unblock-at c in2 d bytes fits supply buf room z y f)
        (unblock-at other other-in2 d bytes fits supply buf room z y f)
        i
        j

    -- a wrong entry under different PINs
    pub wrong-meets : is_zero c.pins.pin_tries ≡ false → right_by pin c.pins d ≡ false → right_by pin other.pins d ≡ false
        → Met c other (answer (sealed_for c 0x20 d) supply buf) (by pin false)
    wrong-meets z i j = verify-meets z false i j

-- the right PIN, 6 bytes, under different PUKs
pub right-meets : (c : Card) → InStage2 c → is_zero c.pins.pin_tries ≡ false → length c.pins.pin ≡ 6
    → (q : List ℕ) → all_of is_digit q ≡ true → (supply buf : List ℕ) → answer_room ≤ length buf
    → Met c (with_secrets c.pins.pin q c) (answer (sealed_for c 0x20 c.pins.pin) supply buf) (by pin true)
right-meets c in2 z six q g supply buf room =
    verify-meets c in2 c.pins.pin q digits g c.pins.pin supply buf (digits-bytes c.pins.pin digits) (omega (arith, six)) room z true
    (same_refl c.pins.pin) (same_refl c.pins.pin)
  where
    digits : all_of is_digit c.pins.pin ≡ true
    digits = pin-digits-of c in2.sound in2.initialised
