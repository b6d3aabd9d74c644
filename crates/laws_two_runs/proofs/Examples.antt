-- Cards by name that meet the premise of the two runs. One of the two is reached from FRESH by INIT, PAIR, OPEN and MUTUAL and has the PIN
-- 000000; the other has the PIN 111111, with the wrong entry 222222 once and three times; or another PUK, with the right entry.
-- Assumes nothing.
use mathlib.Core.Path.{refl}
use mathlib.Core.Bool.{true, false}
use mathlib.Core.List.{List, [], ◌∷◌}
use Prim.Native.Nat.{ℕ}
use native.Mathlib.Omega.{arith}
use lib.ListN.{replicate}
use Rattle.octets.proofs.Lists.{bytes-replicate}
use Rattle.card.specs.declared.Card.{Card}
use Rattle.card.specs.State.{zeros, no_keys, with_secrets}
use Rattle.card.specs.Slots.{all_of, some_of}
use Rattle.card.specs.Sound.{is_sound}
use Rattle.rules.specs.Rules.{pin}
use Rattle.laws_two_runs.specs.Runs.{Agree, Premise}
use Rattle.laws_two_runs.proofs.Sealed.{InStage2}
use Rattle.laws_two_runs.proofs.Meets.{secrets-agree, Met, by, other-in2, wrong-meets, right-meets}
use Rattle.laws_two_runs.proofs.WrongEntries.{verify_call, verify_calls, Wrong, AllWrong, AllCompare, wrong-entries, wrong-entries-meet}
use Rattle.laws_two_runs.proofs.Reached.{in_channel, session-keyed, stage2-reached}

-- n times the same digit
abbrev pub digits : ℕ → ℕ → List ℕ
digits n d = replicate n d

abbrev pub card000000 : Card
card000000 = in_channel 2 stage2-reached.iv 0 no_keys

-- the same card with another PIN, and with another PUK
abbrev pub card111111 : Card
card111111 = with_secrets (digits 6 0x31) (digits 12 0x30) card000000

abbrev pub card_other_puk : Card
card_other_puk = with_secrets (digits 6 0x30) (digits 12 0x31) card000000

in-stage2 : InStage2 card000000
unfolding is_sound all_of some_of
in-stage2 = record {
  sound = refl;
  initialised = refl;
  stage = refl;
  keyed = session-keyed stage2-reached.iv stage2-reached.block;
}

in-stage2' : InStage2 card111111
unfolding all_of
in-stage2' = other-in2 card000000 in-stage2 (digits 6 0x31) (digits 12 0x30) refl refl

pub wrong-entry : Met card000000 card111111 (verify_call card000000 (digits 6 0x32)) (by pin false)
unfolding all_of
wrong-entry =
    wrong-meets card000000 in-stage2 (digits 6 0x31) (digits 12 0x30) refl refl (digits 6 0x32) [] (zeros 258)
    (bytes-replicate 6 0x32 (omega arith)) (omega arith) (omega arith) refl refl refl

pub right-entry : Met card000000 card_other_puk (verify_call card000000 (digits 6 0x30)) (by pin true)
unfolding all_of
right-entry = right-meets card000000 in-stage2 refl refl (digits 12 0x31) refl [] (zeros 258) (omega arith)

-- ---- three wrong entries in a row
abbrev pub three_times : List (List ℕ)
three_times = digits 6 0x32 ∷ digits 6 0x32 ∷ digits 6 0x32 ∷ []

wrong : Wrong (digits 6 0x30) (digits 6 0x31) (digits 6 0x32)
wrong = record { bytes = bytes-replicate 6 0x32 (omega arith); fits = omega arith; here = refl; there = refl }

all-wrong : AllWrong (digits 6 0x30) (digits 6 0x31) three_times
unfolding AllWrong
all-wrong = (wrong, (wrong, (wrong, tt)))

pub three-wrong : Premise card000000 card111111 (verify_calls card000000 three_times) × AllCompare card000000 (verify_calls card000000 three_times)
three-wrong = (
  wrong-entries-meet three_times card000000 card111111 in-stage2 in-stage2' agree all-wrong (omega arith),
  (wrong-entries three_times card000000 card111111 in-stage2 in-stage2' agree all-wrong (omega arith)).1,
)
  where
    agree : Agree card000000 card111111
    agree = secrets-agree card000000 (digits 6 0x31) (digits 12 0x30)
