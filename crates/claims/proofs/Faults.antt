-- The fault offset, proved: by the law of crate `laws_engine` for every ANSWER, and by LOAD's turns.
-- Assumes nothing.
use mathlib.Core.Path.{◌≡◌, refl, sym, ap, ◌∙◌, subst}
use mathlib.Core.Bool.{true}
use mathlib.Core.List.{List, [], ◌∷◌}
use mathlib.Core.Logic.{◌↔◌, ⊎_elim}
use Prim.Native.Nat.{ℕ, ◌≤◌}
use native.Mathlib.Omega.{arith}
use borrow.Author.Tests.{le-ltb}
use lib.Dec.{ltb}
use lib.ListN.{length}
use Rattle.octets.specs.Bytes.{Bytes}
use Rattle.refusals.specs.Refusals.{answer_room}
use Rattle.template_rules.proofs.HeadFacts.{by-test}
use Rattle.template_walk.specs.Walk.{field_with, fields_of, template_of, WalkOut, WALK}
use Rattle.card.specs.declared.Card.{Card}
use Rattle.card.specs.Sound.{is_sound}
use Rattle.rules.specs.declared.KeyForm.{KeyForm}
use Rattle.rules.specs.declared.KeyForm.TheVariants as key
use Rattle.rules.specs.Words.{wrong_data, fails}
use Rattle.rules.specs.Supplies.{suits}
use Rattle.rules.specs.Rules.{no_fault}
use Rattle.rules.specs.Channel.{tell}
use Rattle.rules.specs.Steps.{decide}
use Rattle.rules.specs.Engine.{AnswerOut, answered_at, answer_out}
use Rattle.laws_engine.specs.Faults.{LoadFault, offset_of}
use Rattle.laws_engine.proofs.Faults.{keypair-not-seed, extended-not-seed, fault-decides, fault-alone}
use Rattle.laws_engine.proofs.Rooms.{Few, arrival-few}
use Rattle.laws_exchange.specs.Exchange.{Turn}
use Rattle.laws_two_runs.proofs.Reached.{verified-reached}
use Rattle.laws_walk.proofs.Walking.{offset-place}
use Rattle.claims.specs.Faults.{LoadFails, Supposed, Example, Faults}
use Rattle.claims.proofs.VerifiedLoads.{verified_card, turn_with, supposed-with}
use Rattle.claims.proofs.LoadTurns.{unverified, denied, refused, accepted, seed}

-- ---- every ANSWER
module _ (c : Card) (cmd s : List ℕ) (room : ℕ) where
  none_told : (decide c cmd).fault_offset ≡ no_fault → (answer_out c cmd s room).fault_offset ≡ 255
  unfolding answer_out
  none_told e = by-test None (is_sound c)
      (λ _. by-test None (ltb room answer_room) (λ _. refl) (λ _. by-test None (suits (decide c cmd).supply s) (λ _. e) (λ _. refl)))
      (λ _. refl)
    where
      None : AnswerOut → Type 0
      None o = o.fault_offset ≡ 255

  module _ (sound : is_sound c ≡ true) (enough : 258 ≤ room) where
    told-out : (x : LoadFault c cmd)
        → answer_out c cmd s room ≡ answered_at (offset_of x) (tell x.arrived.over (fails x.arrived.lost wrong_data))
    unfolding answer_out suits
    told-out x = rw (sound, le-ltb room 258 enough, fault-decides c cmd x)

    exactly : Bytes cmd → ((answer_out c cmd s room).fault_offset ≡ 255 → ⊥) ↔ LoadFault c cmd
    exactly b = (
      λ n. ⊎_elim (λ e. absurd (n (none_told e))) (λ x. x) (fault-alone c cmd),
      λ x e. omega (
        arith,
        offset-place x.arrived.data' x.refused,
        subst Few x.there (arrival-few c cmd b),
        ap (λ (a : AnswerOut). a.fault_offset) (told-out x),
        e,
      ),
    )

-- ---- examples
module _ (form : KeyForm) (d : List ℕ) (bytes : Bytes d) (fits : length d ≤ 223) where
  abbrev turn : Turn
  turn = turn_with form d [] bytes tt fits

  supposed : Supposed verified_card turn form
  supposed = supposed-with form d [] bytes tt fits

  ends_so : (n : ℕ) → LoadFails verified_card turn (0x6A ∷ 0x80 ∷ []) n → Example form d n
  ends_so n h = record {
    calls = verified-reached.reached.calls;
    turn = turn;
    header = refl;
    given = refl;
    ends = subst (λ (x : Card). LoadFails x turn (0x6A ∷ 0x80 ∷ []) n) (sym verified-reached.reached.ends) h;
  }

abbrev past_end : List ℕ
past_end = 0xA1 ∷ 0x03 ∷ 0x80 ∷ 0x05 ∷ 0x00 ∷ []

past_bytes : Bytes past_end
past_bytes = (omega arith, (omega arith, (omega arith, (omega arith, (omega arith, tt)))))

abbrev five_deep : List ℕ
five_deep = 0xA1 ∷ 0x08 ∷ 0xA1 ∷ 0x06 ∷ 0xA1 ∷ 0x04 ∷ 0xA1 ∷ 0x02 ∷ 0xA1 ∷ 0x00 ∷ []

deep-bytes : Bytes five_deep
deep-bytes = (
  omega arith,
  (omega arith, (omega arith, (omega arith, (omega arith, (omega arith, (omega arith, (omega arith, (omega arith, (omega arith, tt))))))))),
)

abbrev no_fields : List ℕ
no_fields = 0xA1 ∷ 0x00 ∷ []

abbrev cut_behind : List ℕ
cut_behind = 0x80 ∷ 0x00 ∷ 0x81 ∷ []

-- what WALK says of them
walks : (WALK past_end ≡ record { refusal = 4; count = 0; offset = 2 })
    × (WALK five_deep ≡ record { refusal = 5; count = 0; offset = 8 })
    × (WALK no_fields ≡ record { refusal = 0; count = 0; offset = 0 })
    × (WALK cut_behind ≡ record { refusal = 4; count = 0; offset = 2 })
unfolding fields_of field_with template_of
walks = (refl, refl, refl, refl)

at-fault : (form : KeyForm) → (form ≡ key.Seed → ⊥) → (d : List ℕ) → Bytes d → length d ≤ 223 → (n k : ℕ)
    → WALK d ≡ record { refusal = n; count = 0; offset = k } → (n ≡ 0 → ⊥) → Example form d k
at-fault form template d bytes fits n k e m =
    ends_so form d bytes fits k
    (subst (λ (r : WalkOut). LoadFails verified_card (turn form d bytes fits) (0x6A ∷ 0x80 ∷ []) r.offset) e
    (refused verified_card (turn form d bytes fits) form (supposed form d bytes fits) refl template
    (λ z. m (sym (ap (λ (r : WalkOut). r.refusal) e) ∙ z))).0)

inside : Example key.Keypair past_end 2
inside = at-fault key.Keypair keypair-not-seed past_end past_bytes (omega arith) 4 2 walks.0 (λ z. omega (arith, z))

deep : Example key.Extended five_deep 8
deep = at-fault key.Extended extended-not-seed five_deep deep-bytes (omega arith) 5 8 walks.1 (λ z. omega (arith, z))

empty : Example key.Keypair no_fields 255
empty =
    let bytes : Bytes no_fields = (omega arith, (omega arith, tt)) in
    let fits : length no_fields ≤ 223 = omega arith in
    ends_so key.Keypair no_fields bytes fits 255
    (accepted verified_card (turn key.Keypair no_fields bytes fits) key.Keypair (supposed key.Keypair no_fields bytes fits) refl
    (ap (λ (r : WalkOut). r.refusal) walks.2) refl)

as-seed : Example key.Seed past_end 255
as-seed =
    let fits : length past_end ≤ 223 = omega arith in
    ends_so key.Seed past_end past_bytes fits 255
    (seed verified_card (turn key.Seed past_end past_bytes fits) (supposed key.Seed past_end past_bytes fits) refl (λ z. omega (arith, z)))

behind : Example key.Keypair cut_behind 2
behind =
    at-fault key.Keypair keypair-not-seed cut_behind (omega arith, (omega arith, (omega arith, tt))) (omega arith) 4 2 walks.3 (λ z. omega (arith, z))

pub faults : Faults
faults = record {
  exactly = exactly;
  told = λ c cmd s room sound enough x.
      let e = told-out c cmd s room sound enough x in (
        record {
          taken = ap (λ (a : AnswerOut). a.refusal) e;
          bytes = ap (λ (a : AnswerOut). a.bytes) e;
          card = ap (λ (a : AnswerOut). a.card) e;
          fault_offset = ap (λ (a : AnswerOut). a.fault_offset) e;
        },
        offset-place x.arrived.data' x.refused,
      );
  refused = λ c t form p n v r. refused c t form p v n r;
  accepted = λ c t form p v e k. accepted c t form p v e k;
  seed = seed;
  denied = λ c t form rest p v k e l. denied c t form p v k 0 rest e l refl;
  unverified = unverified;
  inside = inside;
  deep = deep;
  empty = empty;
  asseed = as-seed;
  behind = behind;
}
