-- Turns of SEAL, ANSWER and UNSEAL with GENERATE MNEMONIC in stage 2, by the law of sealed turns, and ENTROPY of what the terminal reads.
-- Assumes nothing.
use mathlib.Core.Path.{◌≡◌, refl, sym, ap, ◌∙◌, subst}
use mathlib.Core.Bool.{Bool, true, false, ◌&&◌, false≢true}
use mathlib.Core.List.{List, [], ◌∷◌, ◌++◌}
use mathlib.Core.Logic.{◌↔◌}
use mathlib.Core.Option.{none, some}
use Prim.Native.Nat.{ℕ, zero, suc, ◌*◌, ◌≤◌}
use native.Mathlib.Omega.{arith}
use borrow.Author.Tests.{eq-eqb, ne_eqb, eqb-true, eqb-false, le-ltb}
use lib.Dec.{eqb}
use lib.ListN.{length, take}
use lib.Seq.{take_all, take_at}
use Rattle.octets.proofs.Lists.{bytes-replicate}
use Rattle.phrase_rules.specs.Numbers.{numbers_of}
use Rattle.phrase_rules.specs.Reverse.{reverse_refusal, reverse_bytes}
use Rattle.phrase_rules.proofs.Numbers.{length-numbers_of}
use Rattle.phrase_rules.proofs.Reverse.{reverse-accepts, reverse-generate}
use Rattle.channel_rules.specs.Terminal.{Out}
use Rattle.card.specs.declared.Card.{Card}
use Rattle.card.specs.State.{zeros, no_keys}
use Rattle.card.specs.Slots.{all_of, some_of, is_zero}
use Rattle.card.specs.Sound.{is_sound}
use Rattle.rules.specs.declared.Phrase.{Phrase}
use Rattle.rules.specs.declared.Phrase.TheVariants as phrase
use Rattle.rules.specs.declared.Instruction.TheVariants as ins
use Rattle.rules.specs.declared.Command.TheVariants as command
use Rattle.rules.specs.Words.{wrong_data, Hold, Reply, succeeds, fails}
use Rattle.rules.specs.Supplies.{mnemonic_supply, suits}
use Rattle.rules.specs.Commands.{is_verified, has_key, mnemonic_checks, mnemonic_reply, rule_of}
use Rattle.rules.specs.Rows.{checksum_bits, row_of, is_plain}
use Rattle.rules.proofs.Phrases.{bits-least, bits_most}
use Rattle.rules.specs.Channel.{session_of, with_mac, plain_text}
use Rattle.rules.specs.Steps.{cla_of, ins_of, p1_of, p2_of, name_of, is_initialised, goes, Arrived, arrival, Decision, step6, finish, decide}
use Rattle.rules.specs.Engine.{ask_out, answer_out}
use Rattle.laws_exchange.specs.Opens.{outcome, fault_of}
use Rattle.laws_exchange.specs.Exchange.{Turn, unsealed_by, Names, listed, opened, InStage2}
use Rattle.laws_exchange.proofs.Seals.{gives}
use Rattle.laws_exchange.proofs.Exchanges.{known, staged, opens2, listed2, unlisted2}
use Rattle.laws_allowance.proofs.Reached.{typed}
use Rattle.laws_two_runs.proofs.Reached.{in_channel, stage2-reached}
use Rattle.claims.specs.TapRecord.{Fails}
use Rattle.claims.specs.Mnemonic.{mnemonic_with, Sent, Asked, command, Generated, Example, Mnemonic}
use Rattle.claims.proofs.LoadTurns.{number, refusal-by}
use Rattle.claims.proofs.Unopened.{no-channel, before-init}

-- ---- P1 and P2
mnemonic-sealed : is_plain ins.Mnemonic ≡ false
mnemonic-sealed = refl

mnemonic-listed : (x : Phrase) → (row_of ins.Mnemonic).lists (checksum_bits x) 0 ≡ some (command.Mnemonic x)
mnemonic-listed phrase.Words12 = refl
mnemonic-listed phrase.Words15 = refl
mnemonic-listed phrase.Words18 = refl
mnemonic-listed phrase.Words21 = refl
mnemonic-listed phrase.Words24 = refl

mnemonic-unlisted : (p1 p2 : ℕ) → (4 ≤ p1 → p1 ≤ 8 → p2 ≡ 0 → ⊥) → (row_of ins.Mnemonic).lists p1 p2 ≡ none
mnemonic-unlisted p1 p2 f = go (is_zero p2) refl
  where
    go : (b : Bool) → is_zero p2 ≡ b → (row_of ins.Mnemonic).lists p1 p2 ≡ none
    go true e =
        let z = eqb-true p2 0 e in
        rw (
          e,
          ne_eqb p1 4 (λ h. f (omega arith) (omega arith) z),
          ne_eqb p1 5 (λ h. f (omega arith) (omega arith) z),
          ne_eqb p1 6 (λ h. f (omega arith) (omega arith) z),
          ne_eqb p1 7 (λ h. f (omega arith) (omega arith) z),
          ne_eqb p1 8 (λ h. f (omega arith) (omega arith) z),
        )
    go false e = rw e

phrase-of : (n : ℕ) → 4 ≤ n → n ≤ 8 → (x : Phrase) × (checksum_bits x ≡ n)
phrase-of zero l m = absurd (omega arith)
phrase-of (suc zero) l m = absurd (omega arith)
phrase-of (suc (suc zero)) l m = absurd (omega arith)
phrase-of (suc (suc (suc zero))) l m = absurd (omega arith)
phrase-of (suc (suc (suc (suc zero)))) l m = (phrase.Words12, refl)
phrase-of (suc (suc (suc (suc (suc zero))))) l m = (phrase.Words15, refl)
phrase-of (suc (suc (suc (suc (suc (suc zero)))))) l m = (phrase.Words18, refl)
phrase-of (suc (suc (suc (suc (suc (suc (suc zero))))))) l m = (phrase.Words21, refl)
phrase-of (suc (suc (suc (suc (suc (suc (suc (suc zero)))))))) l m = (phrase.Words24, refl)
phrase-of (suc (suc (suc (suc (suc (suc (suc (suc (suc n))))))))) l m = absurd (omega arith)

-- ---- whatever P1 and P2
module _ (c : Card) (t : Turn) (p1 p2 : ℕ) (p : Sent c t p1 p2) where
  abbrev names : Names c t.header
  names = record {
    instruction = ins.Mnemonic;
    name = ap (λ (h : List ℕ). name_of (is_initialised c) (cla_of h) (ins_of h)) p.header
        ∙ known c ins.Mnemonic p1 p2 p.sound p.stage mnemonic-sealed;
    sealed = mnemonic-sealed;
    stage = staged c ins.Mnemonic p1 p2 p.sound p.stage mnemonic-sealed;
  }

  unlisted : (4 ≤ p1 → p1 ≤ 8 → p2 ≡ 0 → ⊥) → Fails c t (0x6A ∷ 0x86 ∷ [])
  unlisted f =
      let l = ap (λ (h : List ℕ). (row_of ins.Mnemonic).lists (p1_of h) (p2_of h)) p.header ∙ mnemonic-unlisted p1 p2 f in
      let turn = (unlisted2 c t names p.sound p.typed p.stage l).turn in
      record { answered = turn.answered; accepted = turn.accepted; reads = turn.plain; card = turn.card }

mnemonic-decides : (a : Arrived) (x : Phrase) → a.command ≡ command.Mnemonic x → a.data' ≡ []
    → ((step6 a).supply ≡ mnemonic_supply (checksum_bits x)) × ((step6 a).data' ≡ [])
unfolding step6 rule_of mnemonic_checks
mnemonic-decides a x e d = (rw (e, d), rw (e, d))

and-true : (b : Bool) → (b && true) ≡ b
and-true true = refl
and-true false = refl

-- ---- a phrase of this size
module _ (c : Card) (t : Turn) (x : Phrase) (p : Sent c t (checksum_bits x) 0) where
  abbrev named : Names c t.header
  named = names c t (checksum_bits x) 0 p

  listed-there : listed c t.header named ≡ some (command.Mnemonic x)
  listed-there = ap (λ (h : List ℕ). (row_of ins.Mnemonic).lists (p1_of h) (p2_of h)) p.header ∙ mnemonic-listed x

  abbrev right : Type 0
  right = Hold (mnemonic_checks t.data') → suits (mnemonic_supply (checksum_bits x)) t.supply ≡ true

  abbrev result : Reply
  result = outcome (command.Mnemonic x) (opened c t) t.data' t.supply

  turn : right → InStage2 c t result (fault_of (command.Mnemonic x) (opened c t) t.data')
  unfolding rule_of
  turn r = listed2 c t named p.sound p.typed p.stage (command.Mnemonic x) listed-there r

  some-data : (t.data' ≡ [] → ⊥) → Fails c t (0x6A ∷ 0x80 ∷ [])
  unfolding rule_of mnemonic_checks
  some-data n = by (is_zero (length t.data')) refl
    where
      by : (b : Bool) → is_zero (length t.data') ≡ b → Fails c t (0x6A ∷ 0x80 ∷ [])
      by true e = absurd (n (no_length t.data' (eqb-true (length t.data') 0 e)))
        where
          no_length : (d : List ℕ) → length d ≡ 0 → d ≡ []
          no_length [] z = refl
          no_length (y ∷ d) z = absurd (omega arith)
      by false e =
          let it = (turn (λ h. absurd (false≢true (sym e ∙ h.0)))).turn in
          let r : result ≡ fails (opened c t) wrong_data = rw e in
          record {
            answered = it.answered;
            accepted = it.accepted;
            reads = it.plain ∙ ap plain_text r;
            card = it.card ∙ ap (λ (y : Reply). with_mac y.card (unsealed_by c t).session.iv) r;
          }

  -- without data
  module _ (empty : t.data' ≡ []) where
    abbrev arrived : Arrived
    arrived = (opens2 c t named p.sound p.typed p.stage (command.Mnemonic x) listed-there).arrived

    arrives : arrival c (command c t) ≡ goes arrived
    arrives =
        ap (λ (o : Out). arrival c o.bytes) (gives (session_of c.channel) t p.typed.keyed)
        ∙ (opens2 c t named p.sound p.typed p.stage (command.Mnemonic x) listed-there).there

    decided : decide c (command c t) ≡ step6 arrived
    unfolding decide
    decided = ap finish arrives

    supply-is : (decide c (command c t)).supply ≡ mnemonic_supply (checksum_bits x)
    supply-is = ap (λ (d : Decision). d.supply) decided ∙ (mnemonic-decides arrived x refl empty).0

    data_is : (decide c (command c t)).data' ≡ []
    data_is = ap (λ (d : Decision). d.data') decided ∙ (mnemonic-decides arrived x refl empty).1

    asks : (room : ℕ) → 255 ≤ room → ask_out c (command c t) room ≡ record { refusal = 0; kind = 10; bytes = [] }
    unfolding ask_out
    asks room l = rw (p.sound, le-ltb room 255 l, supply-is, data_is)

    refusal_is : (s : List ℕ) (room : ℕ) → 258 ≤ room → (answer_out c (command c t) s room).refusal ≡ number (eqb (length s) (4 * checksum_bits x))
    unfolding answer_out suits
    refusal_is s room l = rw (p.sound, le-ltb room 258 l, supply-is) (refusal-by (suits (mnemonic_supply (checksum_bits x)) s) _ c refl ∙ ap number (and-true (eqb (length s) (4 * checksum_bits x))))

    takes : (s : List ℕ) (room : ℕ) → 258 ≤ room → (answer_out c (command c t) s room).refusal ≡ 3 ↔ (length s ≡ 4 * checksum_bits x → ⊥)
    takes s room l = rw (refusal_is s room l) (by (eqb (length s) (4 * checksum_bits x)) refl)
      where
        by : (b : Bool) → eqb (length s) (4 * checksum_bits x) ≡ b → number b ≡ 3 ↔ (length s ≡ 4 * checksum_bits x → ⊥)
        by true e = (λ r. absurd (omega (arith, r)), λ n. absurd (n (eqb-true (length s) (4 * checksum_bits x) e)))
        by false e = (λ r. eqb-false (length s) (4 * checksum_bits x) e, λ n. refl)

    -- with an entropy of its size
    module _ (long : length t.supply ≡ 4 * checksum_bits x) where
      suited : right
      unfolding suits
      suited h = rw (eq-eqb (length t.supply) (4 * checksum_bits x) long)

      gives-numbers : result ≡ succeeds (opened c t) (numbers_of t.supply)
      unfolding rule_of mnemonic_checks mnemonic_reply
      gives-numbers = rw (empty, take_all (4 * checksum_bits x) t.supply (omega (arith, long)))

      no-fault : fault_of (command.Mnemonic x) (opened c t) t.data' ≡ 255
      unfolding rule_of mnemonic_checks
      no-fault = rw empty

      reads-numbers : (unsealed_by c t).bytes ≡ numbers_of t.supply ++ (0x90 ∷ 0x00 ∷ [])
      reads-numbers = (turn suited).turn.plain ∙ ap plain_text gives-numbers

      before-status : take (6 * checksum_bits x) (unsealed_by c t).bytes ≡ numbers_of t.supply
      before-status =
          ap (take (6 * checksum_bits x)) reads-numbers
          ∙ take_at (numbers_of t.supply) (0x90 ∷ 0x00 ∷ []) (6 * checksum_bits x) (length-numbers_of (checksum_bits x) t.supply long (bits_most x))

      generated : Generated c t (checksum_bits x)
      generated = record {
        answered = (turn suited).turn.answered;
        accepted = (turn suited).turn.accepted;
        reads = reads-numbers;
        card = (turn suited).turn.card ∙ ap (λ (y : Reply). with_mac y.card (unsealed_by c t).session.iv) gives-numbers;
        fault_offset = (turn suited).fault_offset ∙ no-fault;
        taken = λ room l.
            ap (λ (w : List ℕ). reverse_refusal w room) before-status
            ∙ reverse-accepts (checksum_bits x) t.supply (bits-least x) (bits_most x) long t.supplybytes room l;
        back = λ room l.
            ap (λ (w : List ℕ). reverse_bytes w room) before-status
            ∙ reverse-generate (checksum_bits x) t.supply (bits-least x) (bits_most x) long t.supplybytes room l;
      }

-- ---- by P1
by-phrase : (P : ℕ → Type 0) → ((x : Phrase) → P (checksum_bits x)) → (n : ℕ) → 4 ≤ n → n ≤ 8 → P n
by-phrase P h n l m = let x = phrase-of n l m in subst P x.1 (h x.0)

-- ---- an example, on a card in stage 2 that a list of calls reaches
abbrev stage2_card : Card
stage2_card = in_channel 2 stage2-reached.iv 0 no_keys

stage2-sound : (iv : List ℕ) → is_sound (in_channel 2 iv 0 no_keys) ≡ true
unfolding is_sound all_of some_of
stage2-sound iv = refl

abbrev twelve_turn : Turn
twelve_turn = record {
  header = mnemonic_with 4 0;
  data' = [];
  supply = zeros 16;
  sealroom = 261;
  answerroom = 258;
  unsealroom = 223;
  four = refl;
  most = omega arith;
  headerbytes = (omega arith, (omega arith, (omega arith, (omega arith, tt))));
  databytes = tt;
  supplybytes = bytes-replicate 16 0 (omega arith);
  sealenough = omega arith;
  answerenough = omega arith;
  unsealenough = omega arith;
}

twelve-sent : Sent stage2_card twelve_turn 4 0
twelve-sent = record {
  sound = stage2-sound stage2-reached.iv;
  typed = typed stage2-reached.iv stage2-reached.block 0 0 (zeros 32) refl;
  stage = refl;
  header = refl;
}

pub record Twelve (c : Card) : Type 0 where
  pub asked : Asked c twelve_turn 4
  pub unverified : is_verified c.pins ≡ false
  pub keyless : has_key c.keys ≡ false
  pub ends : Generated c twelve_turn 4

twelve-there : Twelve stage2_card
twelve-there = record {
  asked = record { sent = twelve-sent; least = omega arith; most = omega arith; nodata = refl };
  unverified = refl;
  keyless = refl;
  ends = generated stage2_card twelve_turn phrase.Words12 twelve-sent refl refl;
}

twelve : Example
twelve =
    let h = subst Twelve (sym stage2-reached.reached.ends) twelve-there in
    record {
      calls = stage2-reached.reached.calls;
      turn = twelve_turn;
      asked = h.asked;
      supply = refl;
      unverified = h.unverified;
      keyless = h.keyless;
      ends = h.ends;
    }

pub mnemonic : Mnemonic
mnemonic = record {
  asks = λ c t n room a l.
      by-phrase (λ (k : ℕ). Sent c t k 0 → ask_out c (command c t) room ≡ record { refusal = 0; kind = 10; bytes = [] })
      (λ x p. asks c t x p a.nodata room l) n a.least a.most a.sent;
  takes = λ c t n s room a l.
      by-phrase (λ (k : ℕ). Sent c t k 0 → (answer_out c (command c t) s room).refusal ≡ 3 ↔ (length s ≡ 4 * k → ⊥))
      (λ x p. takes c t x p a.nodata s room l) n a.least a.most a.sent;
  generates = λ c t n a l.
      by-phrase (λ (k : ℕ). Sent c t k 0 → length t.supply ≡ 4 * k → Generated c t k)
      (λ x p e. generated c t x p a.nodata e) n a.least a.most a.sent l;
  unlisted = unlisted;
  somedata = λ c t n p l m f. by-phrase (λ (k : ℕ). Sent c t k 0 → Fails c t (0x6A ∷ 0x80 ∷ [])) (λ x q. some-data c t x q f) n l m p;
  nochannel = no-channel;
  beforeinit = before-init;
  twelve = twelve;
}
