-- Turns with LOAD on a card with a verified PIN that a list of calls reaches from FRESH.
-- Assumes nothing.
use mathlib.Core.Path.{◌≡◌, refl}
use mathlib.Core.Bool.{true}
use mathlib.Core.List.{List}
use Prim.Native.Nat.{ℕ, ◌≤◌, ◌<◌}
use native.Mathlib.Omega.{arith}
use lib.ListN.{length}
use Rattle.octets.specs.Bytes.{Bytes}
use Rattle.card.specs.declared.Card.{Card}
use Rattle.card.specs.State.{zeros, no_keys}
use Rattle.card.specs.Slots.{all_of, some_of}
use Rattle.card.specs.Sound.{is_sound}
use Rattle.rules.specs.declared.KeyForm.{KeyForm}
use Rattle.rules.specs.declared.KeyForm.TheVariants as key
use Rattle.laws_exchange.specs.Exchange.{Turn}
use Rattle.laws_allowance.proofs.Reached.{typed}
use Rattle.laws_two_runs.proofs.Reached.{in_channel, verified-reached}
use Rattle.claims.specs.Hashing.{p1_byte, load_header}
use Rattle.claims.specs.Faults.{Supposed}

abbrev pub verified_card : Card
verified_card = in_channel 2 verified-reached.iv 1 no_keys

verified-sound : (iv : List ℕ) → is_sound (in_channel 2 iv 1 no_keys) ≡ true
unfolding is_sound all_of some_of
verified-sound iv = refl

pub p1-small : (form : KeyForm) → p1_byte form < 256
p1-small key.Keypair = omega arith
p1-small key.Extended = omega arith
p1-small key.Seed = omega arith

module _ (form : KeyForm) (d supply : List ℕ) (bytes : Bytes d) (supply-bytes : Bytes supply) (fits : length d ≤ 223) where
  abbrev pub turn_with : Turn
  turn_with = record {
    header = load_header form;
    data' = d;
    supply = supply;
    sealroom = 261;
    answerroom = 258;
    unsealroom = 223;
    four = refl;
    most = fits;
    headerbytes = (omega arith, (omega arith, (p1-small form, (omega arith, tt))));
    databytes = bytes;
    supplybytes = supply-bytes;
    sealenough = omega arith;
    answerenough = omega arith;
    unsealenough = omega arith;
  }

  pub supposed-with : Supposed verified_card turn_with form
  supposed-with = record {
    sound = verified-sound verified-reached.iv;
    typed = typed verified-reached.iv verified-reached.block 1 0 (zeros 32) refl;
    stage = refl;
    header = refl;
  }
