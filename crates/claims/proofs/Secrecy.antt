-- Demand 3: the theorem of crate `laws_two_runs`, what it says of comparisons and of cards that agree, and cards and lists of calls that show that it
-- is not empty.
-- Assumes nothing.
use mathlib.Core.Path.{◌≡◌, refl, ap, ap₂, ◌∙◌, subst}
use mathlib.Core.Bool.{Bool, true, false}
use mathlib.Core.List.{List, [], ◌∷◌}
use mathlib.Core.Logic.{◌↔◌}
use mathlib.Core.Option.{Option, some}
use Prim.Native.Nat.{ℕ}
use native.Mathlib.Omega.{arith}
use lib.ListN.{length, get_or, replicate}
use Rattle.octets.proofs.Lists.{bytes-replicate}
use Rattle.card.specs.declared.Pins.{Pins}
use Rattle.card.specs.declared.Card.{Card}
use Rattle.card.specs.State.{zeros, no_keys, with_pins, with_secrets}
use Rattle.card.specs.Slots.{all_of, some_of}
use Rattle.card.specs.Sound.{is_sound}
use Rattle.rules.specs.Commands.{verify_reply, unblock_reply, key_with}
use Rattle.rules.specs.Rules.{Secret, pin, puk}
use Rattle.rules.specs.Comparison.{Comparison}
use Rattle.laws_two_runs.specs.Compared.{reply_by}
use Rattle.laws_two_runs.specs.Runs.{Call, Agree, next_at}
use Rattle.laws_two_runs.proofs.Erasure.{erase-agree, agree-swap}
use Rattle.laws_two_runs.proofs.Shown.{shows}
use Rattle.laws_two_runs.proofs.Comparisons.{comparisons}
use Rattle.laws_two_runs.proofs.Compared.{none_made, one-made, one-answers}
use Rattle.laws_two_runs.proofs.TwoRuns.{two_runs}
use Rattle.laws_two_runs.proofs.Sealed.{InStage2}
use Rattle.laws_two_runs.proofs.Meets.{secrets-meet, Met, by, unblock-meets}
use Rattle.laws_two_runs.proofs.WrongEntries.{verify_call, verify_calls, AllCompare}
use Rattle.laws_two_runs.proofs.Reached.{Reachable, initialised_card, initialised-sound, initialised-reached, stage1-reached, in_channel, session-keyed, stage2-reached, key_hash, kind1-reached, kind2-reached, reached-sound}
use Rattle.laws_two_runs.proofs.Examples.{digits, card000000, card111111, card_other_puk, wrong-entry, right-entry, three_times, three-wrong}
use Rattle.claims.specs.Secrecy.{secret_in, SameReply, Reaches, comparisons_of, Meets, Secrecy}

-- ---- what is reached from FRESH
reaches : (c : Card) (n k : ℕ) → Reachable c → is_sound c ≡ true → c.initialised ≡ 1 → c.channel.stage ≡ n → c.keys.kind ≡ k
    → Reaches n k
reaches c n k r e i s z = record {
  uid = zeros 16;
  key = zeros 65;
  calls = r.calls;
  sound = ap is_sound r.ends ∙ e;
  initialised = ap (λ (x : Card). x.initialised) r.ends ∙ i;
  stage' = ap (λ (x : Card). x.channel.stage) r.ends ∙ s;
  kind' = ap (λ (x : Card). x.keys.kind) r.ends ∙ z;
}

stage1-sound : is_sound (in_channel 1 (zeros 16) 0 no_keys) ≡ true
unfolding is_sound all_of some_of
stage1-sound = refl

-- ---- lists that meet the premise
-- other first digits are other secrets
other : (p q : List ℕ) → get_or p 0 0 ≡ 0x30 → get_or q 0 0 ≡ 0x31 → p ≡ q → ⊥
other p q a b e = omega (arith, ap (λ (x : List ℕ). get_or x 0 0) e)

one-call : (s : Secret) (c d : Card) (k : Call) (x : Comparison) → Met c d k x → (secret_in s c ≡ secret_in s d → ⊥) → Meets s (some x ∷ [])
unfolding comparisons_of
one-call s c d k x m n = record {
  card = c;
  card' = d;
  calls = k ∷ [];
  premise = m.premise;
  compared = ap (λ (o : Option Comparison). o ∷ []) m.here;
  differ = n;
}

all-compared : (c : Card) (calls : List Call) → AllCompare c calls → comparisons_of c calls ≡ replicate (length calls) (some (by pin false))
unfolding AllCompare comparisons_of
all-compared c [] h = refl
all-compared c (k ∷ more) h = ap₂ (λ (o : Option Comparison) (l : List (Option Comparison)). o ∷ l) h.0 (all-compared (next_at c k) more h.1)

three-calls : Meets pin (some (by pin false) ∷ some (by pin false) ∷ some (by pin false) ∷ [])
unfolding verify_calls
three-calls = record {
  card = card000000;
  card' = card111111;
  calls = verify_calls card000000 three_times;
  premise = three-wrong.0;
  compared = all-compared card000000 (verify_calls card000000 three_times) three-wrong.1;
  differ = other card000000.pins.pin card111111.pins.pin refl refl;
}

-- ---- a card with no PIN tries left, and UNBLOCK
abbrev blocked : Card
blocked = with_pins card000000
    (record { pin = digits 6 0x30; puk = digits 12 0x30; pin_tries = 0; puk_tries = 5; verified = 0 })

blocked-in2 : InStage2 blocked
unfolding is_sound all_of some_of
blocked-in2 = record {
  sound = refl;
  initialised = refl;
  stage = refl;
  keyed = session-keyed stage2-reached.iv stage2-reached.block;
}

wrong-puk : Meets puk (some (by puk false) ∷ [])
unfolding all_of
wrong-puk = one-call puk blocked (with_secrets (digits 6 0x31) (digits 12 0x31) blocked) _ (by puk false)
    (unblock-meets blocked blocked-in2 (digits 6 0x31) (digits 12 0x31) refl refl (digits 18 0x32) [] (zeros 258)
    (bytes-replicate 18 0x32 (omega arith)) (omega arith) (omega arith) refl refl refl false refl refl)
    (other blocked.pins.puk (digits 12 0x31) refl refl)

right-puk : Meets pin (some (by puk true) ∷ [])
unfolding all_of
right-puk = one-call pin blocked (with_secrets (digits 6 0x31) (digits 12 0x30) blocked) _ (by puk true)
    (unblock-meets blocked blocked-in2 (digits 6 0x31) (digits 12 0x30) refl refl (digits 18 0x30) [] (zeros 258)
    (bytes-replicate 18 0x30 (omega arith)) (omega arith) (omega arith) refl refl refl true refl refl)
    (other blocked.pins.pin (digits 6 0x31) refl refl)

-- ---- cards that agree, and the replies by how a comparison came out
agreement : (c d : Card) → Agree c d ↔ ((p : List ℕ) × ((q : List ℕ) × (with_secrets p q c ≡ d)))
agreement c d = (
  λ a. (d.pins.pin, (d.pins.puk, agree-swap c d a)),
  λ h. subst (λ (x : Card). Agree c x) h.1.1 (erase-agree c (with_secrets h.0 h.1.0 c) refl),
)

blind : (of : Secret) (right : Bool) (p q : List ℕ) (c : Card) (d : List ℕ) → SameReply (reply_by of right c d) (reply_by of right (with_secrets p q c) d)
unfolding verify_reply unblock_reply
blind pin true p q c d = record { status = refl; response = refl; card = erase-agree _ _ refl }
blind pin false p q c d = record { status = refl; response = refl; card = erase-agree _ _ refl }
blind puk true p q c d = record { status = refl; response = refl; card = erase-agree _ _ refl }
blind puk false p q c d = record { status = refl; response = refl; card = erase-agree _ _ refl }

pub secrecy : Secrecy
secrecy = record {
  runs = two_runs;
  shows = shows;
  agreement = agreement;
  comparisons = comparisons;
  nonemade = λ c d k sc sd a e. let s = none_made c d k sc sd a e in (s.seen, s.next);
  onemade = one-made;
  onetold = one-answers;
  blind = blind;
  digits = secrets-meet;
  stage0 = reaches initialised_card 0 0 initialised-reached initialised-sound refl refl refl;
  stage1 = reaches (in_channel 1 (zeros 16) 0 no_keys) 1 0 stage1-reached stage1-sound refl refl refl;
  stage2 = reaches (in_channel 2 stage2-reached.iv 0 no_keys) 2 0 stage2-reached.reached
      (reached-sound stage2-reached.iv).0 refl refl refl;
  kind1 =
      reaches (in_channel 2 kind1-reached.iv 1 (key_with 1 key_hash)) 2 1 kind1-reached.reached (reached-sound kind1-reached.iv).1
      refl refl refl;
  kind2 =
      reaches (in_channel 2 kind2-reached.iv 1 (key_with 2 key_hash)) 2 2 kind2-reached.reached (reached-sound kind2-reached.iv).2
      refl refl refl;
  wrongpin = one-call pin card000000 card111111 (verify_call card000000 (digits 6 0x32)) (by pin false) wrong-entry
      (other card000000.pins.pin card111111.pins.pin refl refl);
  wrongpins = three-calls;
  rightpin = one-call puk card000000 card_other_puk (verify_call card000000 (digits 6 0x30)) (by pin true) right-entry
      (other card000000.pins.puk card_other_puk.pins.puk refl refl);
  wrongpuk = wrong-puk;
  rightpuk = right-puk;
}
