-- A sealed command on a card in stage 2, as a call of a history: the card that it leaves, and what the call did. The field opens by the law of sealed
-- messages; nothing of AES is computed.
-- Assumes nothing.
use mathlib.Core.Path.{◌≡◌, refl, sym, ap, ◌∙◌, subst}
use mathlib.Core.Bool.{true, false}
use mathlib.Core.List.{List, [], ◌∷◌, ◌++◌}
use mathlib.Core.Option.{some}
use Prim.Native.Nat.{ℕ, ◌≤◌}
use native.Mathlib.Omega.{arith}
use borrow.Author.Tests.{eq-eqb}
use lib.ListN.{length}
use Rattle.octets.specs.Bytes.{Bytes}
use Rattle.refusals.specs.Refusals.{no_refusal}
use Rattle.channel_rules.specs.Terminal.{Out, sealed_command}
use Rattle.card.specs.declared.Card.{Card}
use Rattle.card.specs.State.{zeros}
use Rattle.card.specs.Sound.{is_sound}
use Rattle.rules.specs.declared.Instruction.{Instruction}
use Rattle.rules.specs.declared.Command.{Command}
use Rattle.rules.specs.Words.{success, Hold}
use Rattle.rules.specs.Supplies.{suits}
use Rattle.rules.specs.Rows.{row_of, is_plain}
use Rattle.rules.specs.Channel.{session_of, with_mac}
use Rattle.rules.specs.Steps.{goes, Arrived, arrival, checks_of, supply_of, reply_of}
use Rattle.rules.specs.Engine.{answer_out}
use Rattle.laws_commands.proofs.Checks.{held}
use Rattle.laws_exchange.specs.Opens.{outcome, fault_of}
use Rattle.laws_exchange.specs.Exchange.{Typed, Turn, answered_by, Names, opened, InStage2}
use Rattle.laws_exchange.proofs.Seals.{gives}
use Rattle.laws_exchange.proofs.Exchanges.{names, opens2, listed2}
use Rattle.laws_two_runs.specs.Runs.{Call, answer, next_at, end_of}
use Rattle.laws_two_runs.proofs.TwoRuns.{next-sound}
use Rattle.laws_allowance.specs.Events.{given, succeeded_at}
use Rattle.laws_allowance.specs.History.{Historic}

-- ---- a card in stage 2 that turns can be had with
pub record Live (c : Card) : Type 0 where
  pub sound : is_sound c ≡ true
  pub typed : Typed c
  pub stage : c.channel.stage ≡ 2

-- ---- one call more
end-then : (c : Card) (calls : List Call) (k : Call) → end_of c (calls ++ (k ∷ [])) ≡ next_at (end_of c calls) k
unfolding end_of
end-then c [] k = refl
end-then c (j ∷ more) k = end-then (next_at c j) more k

pub historic-then : (c : Card) → Historic c → (k : Call) → Historic (next_at c k)
historic-then c h k = record {
  history = record {
    card = h.history.card;
    sound = h.history.sound;
    fresh = h.history.fresh;
    first = h.history.first;
    init = h.history.init;
    calls = h.history.calls ++ (k ∷ []);
  };
  ends = end-then h.history.card (h.history.first ∷ h.history.calls) k ∙ ap (λ (x : Card). next_at x k) h.ends;
}

-- ---- the command 80 b p1 p2 with these data and this supply
module _ (c : Card) (r : Live c) (i : Instruction) (over : is_plain i ≡ false) (p1 p2 : ℕ) (k : Command) (listed : (row_of i).lists p1 p2 ≡ some k)
    (d u : List ℕ) (header-bytes : Bytes (0x80 ∷ (row_of i).byte ∷ p1 ∷ p2 ∷ [])) (data-bytes : Bytes d) (supply-bytes : Bytes u)
    (fits : length d ≤ 223) where
  abbrev pub turn : Turn
  turn = record {
    header = 0x80 ∷ (row_of i).byte ∷ p1 ∷ p2 ∷ [];
    data' = d;
    supply = u;
    sealroom = 261;
    answerroom = 258;
    unsealroom = 223;
    four = refl;
    most = fits;
    headerbytes = header-bytes;
    databytes = data-bytes;
    supplybytes = supply-bytes;
    sealenough = omega arith;
    answerenough = omega arith;
    unsealenough = omega arith;
  }

  abbrev pub cmd : List ℕ
  cmd = sealed_command (session_of c.channel) (0x80 ∷ (row_of i).byte ∷ p1 ∷ p2 ∷ []) d

  abbrev pub call : Call
  call = answer cmd u (zeros 258)

  abbrev named : Names c (0x80 ∷ (row_of i).byte ∷ p1 ∷ p2 ∷ [])
  named = names c i p1 p2 r.sound r.stage over

  -- it comes to its checks
  abbrev pub arrived : Arrived
  arrived = (opens2 c turn named r.sound r.typed r.stage k listed).arrived

  pub arrives : arrival c cmd ≡ goes arrived
  arrives = (opens2 c turn named r.sound r.typed r.stage k listed).there

  module _ (right : Hold (checks_of k (opened c turn) d) → suits (supply_of k) u ≡ true) where
    done : InStage2 c turn (outcome k (opened c turn) d u) (fault_of k (opened c turn) d)
    done = listed2 c turn named r.sound r.typed r.stage k listed right

    same : answer_out c cmd u 258 ≡ answered_by c turn
    same = sym (ap (λ (o : Out). answer_out c o.bytes u 258) (gives (session_of c.channel) turn r.typed.keyed))

    next-is : next_at c call ≡ (answered_by c turn).card
    unfolding next_at
    next-is = ap (λ o. o.card) same

    pub live-next : Live (next_at c call)
    live-next = record {
      sound = next-sound c call r.sound;
      typed = subst (λ (n : Card). Typed n) (sym next-is) done.typed;
      stage = ap (λ (n : Card). n.channel.stage) next-is ∙ done.stays;
    }

    -- the card of the reply, with another IV
    pub card-next : (iv : List ℕ) × (next_at c call ≡ with_mac (outcome k (opened c turn) d u).card iv)
    card-next = (_, next-is ∙ done.turn.card)

    -- where its checks hold and the reply says 9000, it gives 9000
    pub gives-9000 : Hold (checks_of k arrived.card d) → (reply_of k arrived.card d u).status ≡ success → succeeded_at c call ≡ some k
    unfolding succeeded_at given
    gives-9000 h w =
        rw (
          eq-eqb (answer_out c cmd u 258).refusal no_refusal (ap (λ o. o.refusal) same ∙ done.turn.answered),
          arrives,
          held (supply_of k) (checks_of k arrived.card d) h,
          w,
        )
        refl
