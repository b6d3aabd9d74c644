-- GENERATE MNEMONIC that does not come to its channel: outside stage 2, and on a card before INIT, where every instruction of class 80 but INIT is
-- unknown.
-- Assumes nothing.
use Rattle.std.specs.Prelude.{Err, Ok}
use mathlib.Core.Path.{◌≡◌, refl, ap, ◌∙◌}
use mathlib.Core.Bool.{Bool, true, false}
use mathlib.Core.List.{List, [], ◌∷◌}
use mathlib.Core.Logic.{◌⊎◌, inl, inr, ⊎_elim}
use mathlib.Core.Option.{some}
use Prim.Native.Nat.{ℕ, ◌≤◌, ◌<◌}
use native.Mathlib.Omega.{arith}
use borrow.Author.Tests.{eqb-true, lt-leb}
use lib.Dec.{eqb}
use Rattle.template_rules.proofs.HeadFacts.{by-test}
use Rattle.card.specs.declared.Card.{Card}
use Rattle.card.specs.Sound.{is_sound}
use Rattle.rules.specs.declared.Instruction.{Instruction}
use Rattle.rules.specs.declared.Instruction.TheVariants as ins
use Rattle.rules.specs.Results.{Named}
use Rattle.rules.specs.declared.Unnamed.TheVariants as unnamed
use Rattle.rules.specs.Words.{conditions_not_met, unknown_instruction, word, fails}
use Rattle.rules.specs.Rows.{row_of, class80, offered}
use Rattle.rules.specs.Channel.{plainly}
use Rattle.rules.specs.Steps.{stops, step1, data_of, with_byte, on_card, name_of, is_initialised, step4, past_step1, arrival}
use Rattle.rules.specs.Engine.{AnswerOut}
use Rattle.laws_engine.proofs.Sound.{step1-keeps}
use Rattle.laws_exchange.proofs.Unlisted.{answer-stops}
use Rattle.claims.specs.Slots.{Supposed}
use Rattle.claims.specs.Mnemonic.{Stops}

-- ---- a command that a step stops with a plain status word
stopped : (c : Card) (cmd s : List ℕ) (room w : ℕ) → is_sound c ≡ true → 258 ≤ room → arrival c cmd ≡ stops (plainly (fails (step1 cmd c) w))
    → Stops c cmd s room (word w)
stopped c cmd s room w sound l e =
    let a = answer-stops c cmd s room _ sound l e in
    record {
      says = record { taken = ap (λ (x : AnswerOut). x.refusal) a; reads = ap (λ (x : AnswerOut). x.bytes) a };
      card = ap (λ (x : AnswerOut). x.card) a;
    }

-- ---- step 4, in another stage
mnemonic-named : name_of true 0x80 0xD2 ≡ Ok ins.Mnemonic
unfolding name_of
mnemonic-named = refl

pub no-channel : (c : Card) (rest d s : List ℕ) (room : ℕ) → Supposed c (0x80 ∷ 0xD2 ∷ rest) d room → c.channel.stage < 2
    → Stops c (0x80 ∷ 0xD2 ∷ rest) s room (0x69 ∷ 0x85 ∷ [])
unfolding arrival past_step1 step4
no-channel c rest d s room p l = stopped c cmd s room conditions_not_met p.sound p.enough there
  where
    cmd : List ℕ
    cmd = 0x80 ∷ 0xD2 ∷ rest

    name : name_of (is_initialised (step1 cmd c)) 0x80 0xD2 ≡ Ok ins.Mnemonic
    name = step1-keeps (λ (y : Card). name_of (is_initialised y) 0x80 0xD2 ≡ Ok ins.Mnemonic) (λ _ h. h) (λ _ h. h) cmd c
        (ap (λ (b : Bool). name_of b 0x80 0xD2) p.initialised ∙ mnemonic-named)

    low : (step1 cmd c).channel.stage < 2
    low = step1-keeps (λ (y : Card). y.channel.stage < 2) (λ _ _. omega arith) (λ _ h. h) cmd c l

    there : arrival c cmd ≡ stops (plainly (fails (step1 cmd c) conditions_not_met))
    there = rw (p.form, name, lt-leb 2 (step1 cmd c).channel.stage low)

-- ---- step 3, before INIT: each instruction of the list is INIT by its byte, or is not offered
abbrev Hidden : List Instruction → Type 0
Hidden [] = Unit {0}
Hidden (i ∷ more) = (((row_of i).byte ≡ 0xFE) ⊎ (offered (row_of i).offer false ≡ false)) × Hidden more

all-hidden : Hidden class80
all-hidden = (
  inl refl,
  (
    inr refl,
    (
      inr refl,
      (
        inr refl,
        (inr refl, (inr refl, (inr refl, (inr refl, (inr refl, (inr refl, (inr refl, (inr refl, (inr refl, (inr refl, (inr refl, (inr refl, (inr refl, tt))))))))))))),
      ),
    ),
  ),
)

unknown : (b : ℕ) (l : List Instruction) → Hidden l → (b ≡ 0xFE → ⊥) → on_card false (with_byte b l) ≡ (Err unnamed.Unknown)
unknown b [] h n = refl
unknown b (i ∷ more) h n =
    by-test (λ (x : Named). on_card false x ≡ (Err unnamed.Unknown)) (eqb b (row_of i).byte)
    (λ e. ⊎_elim (λ f. absurd (n (eqb-true b (row_of i).byte e ∙ f))) (λ o. rw o) h.0)
    (λ e. unknown b more h.1 n)

unknown-name : (b : ℕ) → (b ≡ 0xFE → ⊥) → name_of false 0x80 b ≡ (Err unnamed.Unknown)
unfolding name_of
unknown-name b n = unknown b class80 all-hidden n

pub before-init : (c : Card) (b : ℕ) (rest d s : List ℕ) (room : ℕ) → is_sound c ≡ true → is_initialised c ≡ false → (b ≡ 0xFE → ⊥)
    → data_of (0x80 ∷ b ∷ rest) ≡ some d → 258 ≤ room → Stops c (0x80 ∷ b ∷ rest) s room (0x6D ∷ 0x00 ∷ [])
unfolding arrival past_step1
before-init c b rest d s room sound i n form l = stopped c cmd s room unknown_instruction sound l there
  where
    cmd : List ℕ
    cmd = 0x80 ∷ b ∷ rest

    name : name_of (is_initialised (step1 cmd c)) 0x80 b ≡ (Err unnamed.Unknown)
    name = step1-keeps (λ (y : Card). name_of (is_initialised y) 0x80 b ≡ (Err unnamed.Unknown)) (λ _ h. h) (λ _ h. h) cmd c
        (ap (λ (x : Bool). name_of x 0x80 b) i ∙ unknown-name b n)

    there : arrival c cmd ≡ stops (plainly (fails (step1 cmd c) unknown_instruction))
    there = rw (form, name)
