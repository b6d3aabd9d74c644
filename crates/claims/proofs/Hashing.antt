-- What the card hashes, proved: a pairing, LOAD's supply, and LOAD's turn.
-- Assumes nothing.
use mathlib.Core.Path.{refl, sym, subst}
use mathlib.Core.List.{List, ◌∷◌, ◌++◌}
use Prim.Native.Nat.{ℕ}
use native.Mathlib.Omega.{arith}
use Rattle.octets.specs.Bytes.{Bytes}
use Rattle.octets.proofs.Lists.{bytes-append, bytes-replicate}
use Rattle.card.specs.declared.Card.{Card}
use Rattle.card.specs.State.{zeros}
use Rattle.rules.specs.declared.KeyForm.TheVariants as key
use Rattle.laws_exchange.specs.Exchange.{Turn}
use Rattle.laws_two_runs.proofs.Reached.{verified-reached}
use Rattle.claims.specs.Hashing.{Loaded, own_key, supplied_key, LoadExample, Hashing}
use Rattle.claims.proofs.Pairing.{pairing, pair-example}
use Rattle.claims.proofs.LoadTurns.{loaded, verified-in2, asks-load, takes-load}
use Rattle.claims.proofs.VerifiedLoads.{verified_card, turn_with, supposed-with}

-- ---- a keypair template whose public key is not the supplied one
abbrev template : List ℕ
template = 0xA1 ∷ 0x65 ∷ 0x80 ∷ 0x41 ∷ (own_key ++ (0x81 ∷ 0x20 ∷ zeros 32))

template-bytes : Bytes template
template-bytes = (
  omega arith,
  (
    omega arith,
    (
      omega arith,
      (
        omega arith,
        bytes-append own_key (0x81 ∷ 0x20 ∷ zeros 32) (bytes-replicate 65 0x22 (omega arith))
            (omega arith, (omega arith, bytes-replicate 32 0 (omega arith))),
      ),
    ),
  ),
)

abbrev load_turn : Turn
load_turn = turn_with key.Keypair template (0x01 ∷ supplied_key) template-bytes (omega arith, bytes-replicate 65 0x33 (omega arith)) (omega arith)

load-example : LoadExample
load-example = record {
  calls = verified-reached.reached.calls;
  turn = load_turn;
  header = refl;
  template = refl;
  supply = refl;
  loaded = subst (λ (c : Card). Loaded c load_turn key.Keypair supplied_key) (sym verified-reached.reached.ends)
      (loaded verified_card load_turn key.Keypair
      (supposed-with key.Keypair template (0x01 ∷ supplied_key) template-bytes (omega arith, bytes-replicate 65 0x33 (omega arith)) (omega arith)) refl refl
      1 supplied_key refl refl refl);
}

pub hashing : Hashing
hashing = record {
  pairing = pairing;
  asksload = λ c cmd room sound l x. asks-load c cmd sound x room l;
  takesload = λ c cmd s room sound l x. takes-load c cmd sound x s room l;
  loads = λ c t form public sound typed header v k supplied l.
      loaded c t form (record { sound = sound; typed = typed; stage = verified-in2 c sound v; header = header }) v k 1 public supplied l refl;
  pairs = pair-example;
  load = load-example;
}
