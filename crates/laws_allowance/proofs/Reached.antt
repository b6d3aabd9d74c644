-- Cards in stage 2 that histories lead to, by their pins and keys: one sealed command leads from one to the next.
-- Assumes nothing.
use mathlib.Core.Path.{◌≡◌, refl, ap, ◌∙◌, subst}
use mathlib.Core.Bool.{true, false}
use mathlib.Core.List.{List, [], ◌∷◌, ◌++◌}
use mathlib.Core.Option.{some}
use Prim.Native.Nat.{ℕ, ◌≤◌}
use native.Mathlib.Omega.{arith}
use borrow.Author.Tests.{leb-true}
use lib.Dec.{leb}
use lib.ListN.{length, replicate}
use Rattle.octets.specs.Bytes.{Bytes, Block}
use Rattle.octets.proofs.Lists.{bytes-replicate}
use Rattle.card.specs.declared.Pins.{Pins}
use Rattle.card.specs.declared.Keys.{Keys}
use Rattle.card.specs.declared.Card.{Card}
use Rattle.card.specs.State.{slot_count, zeros, free_slot, no_keys, with_pins}
use Rattle.card.proofs.SoundFacts.{fresh-sound}
use Rattle.card.proofs.ShapeFacts.{keys-long-replicate}
use Rattle.rules.specs.declared.Instruction.{Instruction}
use Rattle.rules.specs.declared.Command.{Command}
use Rattle.rules.specs.Words.{Hold}
use Rattle.rules.specs.Supplies.{suits}
use Rattle.rules.specs.Rows.{row_of, is_plain}
use Rattle.rules.specs.Commands.{filled_with, key_with}
use Rattle.rules.specs.Channel.{with_mac}
use Rattle.rules.specs.Steps.{is_initialised, checks_of, supply_of}
use Rattle.laws_commands.proofs.Changed.{keys-set}
use Rattle.laws_exchange.specs.Opens.{outcome}
use Rattle.laws_exchange.specs.Exchange.{Typed}
use Rattle.laws_two_runs.specs.Runs.{next_at}
use Rattle.sha_rules.proofs.Blocks.{length-sha256}
use Rattle.laws_two_runs.proofs.Reached.{fresh, Reachable, pair_hash, in_channel, session-keyed, stage2-reached, key_hash, kind2-reached, reached-sound}
use Rattle.laws_allowance.specs.History.{Historic}
use Rattle.laws_allowance.proofs.Init.{in-history}
use Rattle.laws_allowance.proofs.Turns.{Live, historic-then, call, live-next, card-next}

-- ---- PIN 000000 and PUK 000000000000, with these tries
abbrev pub pins_with : ℕ → ℕ → ℕ → Pins
pins_with a b verified = record {
  pin = replicate 6 0x30;
  puk = replicate 12 0x30;
  pin_tries = a;
  puk_tries = b;
  verified = verified;
}

abbrev pub card_of : List ℕ → Pins → Keys → Card
card_of iv p k = with_pins (in_channel 2 iv 0 k) p

pub record Reached (p : Pins) (k : Keys) : Type 0 where
  pub iv : List ℕ
  pub live : Live (card_of iv p k)
  pub historic : Historic (card_of iv p k)

-- ---- every initialised card that calls lead to from FRESH
reachable-historic : (c : Card) → is_initialised c ≡ true → Reachable c → Historic c
reachable-historic c i r = subst Historic r.ends
    (in-history r.calls fresh (fresh-sound (zeros 16) (zeros 65)) refl (ap is_initialised r.ends ∙ i))

-- the cards in stage 2 that lists of calls reach have what the types say
pub typed : (iv : List ℕ) → Block iv → (verified kind : ℕ) (uid : List ℕ) → length uid ≡ 32 → Typed (in_channel 2 iv verified (key_with kind uid))
typed iv block verified kind uid long = record {
  shaped = record {
    uid = refl;
    public_key = refl;
    pin = refl;
    puk = refl;
    secret = refl;
    slots = refl;
    keys = keys-set (replicate slot_count free_slot) 0 (filled_with pair_hash) (keys-long-replicate slot_count free_slot refl)
        (length-sha256 (zeros 32 ++ zeros 32));
    expected = refl;
    keyuid = long;
    current = refl;
    pinless = refl;
    tap = refl;
  };
  keyed = session-keyed iv block;
  path = bytes-replicate 40 0 (omega arith);
}

-- without a key and not verified; with an extended key, verified
pub opened-reached : Reached (pins_with 3 5 0) no_keys
opened-reached = record {
  iv = stage2-reached.iv;
  live = record {
    sound = (reached-sound stage2-reached.iv).0;
    typed = typed stage2-reached.iv stage2-reached.block 0 0 (zeros 32) refl;
    stage = refl;
  };
  historic = reachable-historic (in_channel 2 stage2-reached.iv 0 no_keys) refl stage2-reached.reached;
}

pub loaded-reached : Reached (pins_with 3 5 1) (key_with 2 key_hash)
loaded-reached = record {
  iv = kind2-reached.iv;
  live = record {
    sound = (reached-sound kind2-reached.iv).2;
    typed = typed kind2-reached.iv kind2-reached.block 1 2 key_hash (length-sha256 (zeros 65));
    stage = refl;
  };
  historic = reachable-historic (in_channel 2 kind2-reached.iv 1 (key_with 2 key_hash)) refl kind2-reached.reached;
}

-- ---- one sealed command: 80 b p1 00 with these data and this supply
pub header-bytes : (b p1 : ℕ) → leb b 255 ≡ true → leb p1 255 ≡ true → Bytes (0x80 ∷ b ∷ p1 ∷ 0 ∷ [])
header-bytes b p1 e f = (omega arith, (omega (arith, leb-true b 255 e), (omega (arith, leb-true p1 255 f), (omega arith, tt))))

module _ (p p' : Pins) (keys keys' : Keys) (i : Instruction) (over : is_plain i ≡ false) (p1 : ℕ) (k : Command) (listed : (row_of i).lists p1 0 ≡ some k)
    (header : Bytes (0x80 ∷ (row_of i).byte ∷ p1 ∷ 0 ∷ [])) (d u : List ℕ) (data-bytes : Bytes d) (supply-bytes : Bytes u) (fits : length d ≤ 223)
    (right : (iv : List ℕ) → Hold (checks_of k (card_of iv p keys) d) → suits (supply_of k) u ≡ true)
    (replies : (iv : List ℕ) → (outcome k (card_of iv p keys) d u).card ≡ card_of iv p' keys') where
  pub moves : Reached p keys → Reached p' keys'
  moves r =
      let c : Card = card_of r.iv p keys in
      let next = call c r.live i over p1 0 k listed d u header data-bytes supply-bytes fits in
      let is = card-next c r.live i over p1 0 k listed d u header data-bytes supply-bytes fits (right _) in
      let same : next_at c next ≡ card_of is.0 p' keys' = is.1 ∙ ap (λ (x : Card). with_mac x is.0) (replies _) in
      record {
        iv = is.0;
        live = subst Live same (live-next c r.live i over p1 0 k listed d u header data-bytes supply-bytes fits (right _));
        historic = subst Historic same (historic-then c r.historic next);
      }
