-- Demand 3 (RULES 11.3): two runs of one list of calls, from sound cards that agree in all but PIN and PUK, show the same at
-- every call and end with cards that agree, if their comparisons come out alike wherever both make one: call by call, by the law for one call.
-- Assumes nothing.
use mathlib.Core.Path.{◌≡◌, refl, sym, ap₂, subst}
use mathlib.Core.Bool.{true}
use mathlib.Core.List.{List, [], ◌∷◌}
use lib.ListN.{length}
use Rattle.card.specs.declared.Card.{Card}
use Rattle.card.specs.Sound.{is_sound}
use Rattle.card.proofs.SoundFacts.{reset-sound}
use Rattle.sound.specs.declared.Answer.{Answer}
use Rattle.laws_engine.proofs.Sound.{answer-sound}
use Rattle.laws_two_runs.specs.Runs.{Call, ask, answer, reset, Seen, next_at, run_of, end_of, Alike, Premise, SameRuns}
use Rattle.laws_two_runs.proofs.Calls.{reset-is, StepSame, call_same}

-- ---- every card of a run is sound
pub next-sound : (c : Card) (k : Call) → is_sound c ≡ true → is_sound (next_at c k) ≡ true
unfolding next_at
next-sound c (ask cmd buf) e = e
next-sound c (answer cmd s buf) e = answer-sound c cmd s (length buf) e
next-sound c reset e = subst (λ (a : Answer). is_sound a.card ≡ true) (sym (reset-is c e)) (reset-sound c e)

-- ---- the claim
pub two_runs : (calls : List Call) (c d : Card) → Premise c d calls → SameRuns c d calls
unfolding run_of end_of Alike
two_runs [] c d h = record { shown = refl; ends = h.agree }
two_runs (k ∷ more) c d h =
    let t : StepSame c d k = call_same c d k h.sound h.sound' h.agree h.alike.0 in
    let r : SameRuns (next_at c k) (next_at d k) more = two_runs more (next_at c k) (next_at d k) (record {
      sound = next-sound c k h.sound;
      sound' = next-sound d k h.sound';
      agree = t.next;
      alike = h.alike.1;
    }) in
    record { shown = ap₂ (λ (x : Seen) (s : List Seen). x ∷ s) t.seen r.shown; ends = r.ends }
