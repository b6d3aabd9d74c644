-- At the end of a history the PIN is verified exactly if the latest comparison came out right and the channel has not left stage 2 since: call by call, by
-- the law of verification. A wrong PUK is compared with no PIN tries left alone, and no sound card has a verified PIN there.
-- Assumes nothing.
use mathlib.Core.Path.{◌≡◌, refl, sym, ap, ◌∙◌}
use mathlib.Core.Bool.{Bool, true, false, ◌&&◌, ◌||◌, not, cond}
use mathlib.Core.List.{List, [], ◌∷◌}
use mathlib.Core.Option.{Option, none, some}
use borrow.Author.Tests.{eqb-true}
use lib.Dec.{eqb}
use Rattle.card.specs.declared.Card.{Card}
use Rattle.card.specs.Slots.{all_of, some_of, is_zero}
use Rattle.card.specs.Sound.{is_sound, session_zero}
use Rattle.card.proofs.Tests.{both, the-first}
use Rattle.card.proofs.Rules.{blank-rules}
use Rattle.card.proofs.SoundFacts.{verified-tries}
use Rattle.rules.specs.Rules.{Secret, pin, puk}
use Rattle.rules.specs.Commands.{is_verified}
use Rattle.rules.specs.Comparison.{Comparison}
use Rattle.laws_commands.specs.Verified.{verified_by, verified_after}
use Rattle.laws_commands.proofs.Parts.{before-init}
use Rattle.laws_two_runs.specs.Runs.{Call, comparison_at, next_at, end_of}
use Rattle.laws_two_runs.proofs.TwoRuns.{next-sound}
use Rattle.laws_two_runs.proofs.Verification.{not-verified, verification}
use Rattle.laws_allowance.specs.Events.{Event, event_at, events_of}
use Rattle.laws_allowance.specs.History.{from_latest, History, events_in, card_after}
use Rattle.laws_allowance.specs.Tries.{compares}
use Rattle.laws_allowance.specs.Guard.{is_made, came_right, still_open, is_guarded}
use Rattle.laws_allowance.proofs.Calls.{call-leaves}
use Rattle.laws_allowance.proofs.Latest.{none-latest}

-- ---- one call
-- a sound card without PIN tries has no verified PIN
blocked-unverified : (c : Card) → is_sound c ≡ true → c.pins.pin_tries ≡ 0 → is_verified c.pins ≡ false
blocked-unverified c e z = ap not (the-first (is_zero c.pins.verified) _ (rw z) (verified-tries c e))

by-comparison : (s : Secret) (right was : Bool) → (compares puk (some (record { of = s; right = right })) ≡ true → was ≡ false)
    → verified_by s right was ≡ right
by-comparison pin right was h = refl
by-comparison puk true was h = refl
by-comparison puk false was h = h refl

after-made : (m : Option Comparison) (was : Bool) → (compares puk m ≡ true → was ≡ false)
    → verified_after m was ≡ cond (is_made m) (came_right m) was
after-made none was h = refl
after-made (some x) was h = by-comparison x.of x.right was h

-- verified after a call, by what it did
abbrev next : Event → Bool → Bool
next e was = e.in2 && cond (is_made e.compared) (came_right e.compared) was

call-verified : (c : Card) (k : Call) → is_sound c ≡ true → is_verified (next_at c k).pins ≡ next (event_at c k) (is_verified c.pins)
unfolding event_at
call-verified c k e =
    (verification c k).exactly e
    ∙ ap (λ (b : Bool). eqb (next_at c k).channel.stage 2 && b)
    (after-made (comparison_at c k) (is_verified c.pins) (λ t. blocked-unverified c e ((call-leaves c k).blocked t)))

-- ---- over a list of calls, where it is `was` before them
abbrev made : Event → Bool
made e = is_made e.compared

abbrev in2 : Event → Bool
in2 e = e.in2

abbrev verified_from : Bool → List Event → Bool
verified_from was es = cond (some_of made es) (is_guarded es) (was && all_of in2 es)

turned : (a b x : Bool) → (a && (b && x)) ≡ ((b && a) && x)
turned true true x = refl
turned true false x = refl
turned false true x = refl
turned false false x = refl

from_more : (was : Bool) (e : Event) (es : List Event) → verified_from was (e ∷ es) ≡ verified_from (next e was) es
unfolding some_of all_of from_latest
from_more was e es = go (made e) (some_of made es)
  where
    go : (now later : Bool)
        → cond (now || later)
        (still_open (cond later (from_latest made es) (cond now (e ∷ es) [])))
        (was && (e.in2 && all_of in2 es))
        ≡ cond later (is_guarded es) ((e.in2 && cond now (came_right e.compared) was) && all_of in2 es)
    go true true = refl
    go false true = refl
    go true false = turned (came_right e.compared) e.in2 (all_of in2 es)
    go false false = turned was e.in2 (all_of in2 es)

calls-verified : (calls : List Call) (c : Card) → is_sound c ≡ true
    → is_verified (end_of c calls).pins ≡ verified_from (is_verified c.pins) (events_of c calls)
unfolding end_of events_of some_of all_of
calls-verified [] c e = and-true (is_verified c.pins)
  where
    and-true : (b : Bool) → b ≡ (b && true)
    and-true true = refl
    and-true false = refl
calls-verified (k ∷ ks) c e =
    calls-verified ks (next_at c k) (next-sound c k e)
    ∙ ap (λ (b : Bool). verified_from b (events_of (next_at c k) ks)) (call-verified c k e)
    ∙ sym (from_more (is_verified c.pins) (event_at c k) (events_of (next_at c k) ks))

-- ---- a history: its card has no verified PIN
fresh-unverified : (h : History) → is_verified h.card.pins ≡ false
fresh-unverified h =
    let channel = (blank-rules h.card (before-init h.card h.sound h.fresh).blank).channel in
    let closed = eqb-true h.card.channel.stage 0 (both (is_zero h.card.channel.stage) (session_zero h.card.channel) channel).0 in
    not-verified h.card h.sound (rw closed)

-- where no call compares, there is no latest one
none_made : (es : List Event) → some_of made es ≡ false → is_guarded es ≡ false
unfolding all_of
none_made es e = ap still_open (none-latest made es e)

from-unverified : (es : List Event) → verified_from false es ≡ is_guarded es
from-unverified es = go (some_of made es) refl
  where
    go : (b : Bool) → some_of made es ≡ b → cond b (is_guarded es) false ≡ is_guarded es
    go true e = refl
    go false e = sym (none_made es e)

pub verified-guarded : (h : History) → is_verified (card_after h).pins ≡ is_guarded (events_in h)
verified-guarded h =
    calls-verified (h.first ∷ h.calls) h.card h.sound
    ∙ ap (λ (b : Bool). verified_from b (events_in h)) (fresh-unverified h)
    ∙ from-unverified (events_in h)
