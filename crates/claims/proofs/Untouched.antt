-- What a refusal leaves: the definition gives back the card or the session and no bytes, and the contract then has the buffer as it was.
-- Assumes nothing.
use mathlib.Core.Path.{◌≡◌, refl, ap, ◌∙◌}
use mathlib.Core.Bool.{Bool, true, false, cond}
use mathlib.Core.List.{List, []}
use mathlib.Core.Option.{Option, none, some}
use Prim.Native.Nat.{ℕ, ◌-◌}
use lib.Dec.{ltb}
use lib.ListN.{length, drop}
use Rattle.refusals.specs.Refusals.{no_refusal, unsound, no_room, seal_room, unseal_room, data_most}
use Rattle.octets.specs.Bytes.{written, same_bytes}
use Rattle.channel_rules.specs.declared.Session.{Session}
use Rattle.channel_rules.specs.Message.{response_head, open_field}
use Rattle.channel_rules.specs.Terminal.{Out, seal_out, plain_success, sealed_field, unsealed, unseal_out}
use Rattle.channel_terminal.specs.declared.Outcome.{Outcome}
use Rattle.channel_terminal.specs.Did.{Did}
use Rattle.template_rules.proofs.HeadFacts.{by-test}
use Rattle.card.specs.declared.Card.{Card}
use Rattle.card.specs.Sound.{is_sound}
use Rattle.record_rules.specs.Fields.{record_of}
use Rattle.record_rules.specs.Lengths.{write_room}
use Rattle.record_rules.specs.Answers.{write_refusal, write_bytes}
use Rattle.record_write.specs.declared.Written.{Written}
use Rattle.record_write.specs.Wrote.{WroteRecord}
use Rattle.rules.specs.declared.Asked.{Asked}
use Rattle.rules.specs.declared.Answered.{Answered}
use Rattle.rules.specs.Engine.{ask_out, answer_out}
use Rattle.rules.specs.Reports.{AskDid, AnswerDid}
use Rattle.laws_engine.proofs.Refusals.{ask-refused, answer-refused}

-- no bytes written
pub as_it_was : {bytes before after : List ℕ} → bytes ≡ [] → after ≡ written bytes before → after ≡ before
as_it_was {before = before} e left = left ∙ ap (λ (x : List ℕ). written x before) e

-- ---- ASK
pub ask-nothing : (c : Card) (cmd before after : List ℕ) (r : Asked) → AskDid (ask_out c cmd (length before)) r before after
    → (r.refusal ≡ 0 → ⊥) → (r.kind ≡ 0) × (r.count ≡ 0) × (after ≡ before)
ask-nothing c cmd before after r d n =
    let h = ask-refused c cmd (length before) (λ z. n (ap (λ (x : Asked). x.refusal) d.told ∙ z)) in
    (ap (λ (x : Asked). x.kind) d.told ∙ h.0, ap (λ (x : Asked). x.count) d.told ∙ ap length h.1, as_it_was h.1 d.left)

-- ---- ANSWER
pub answer-nothing : (c : Card) (cmd supply before after : List ℕ) (r : Answered)
    → AnswerDid (answer_out c cmd supply (length before)) r before after → (r.refusal ≡ 0 → ⊥)
    → (r.card ≡ c) × (r.count ≡ 0) × (r.fault_offset ≡ 255) × (after ≡ before)
answer-nothing c cmd supply before after r d n =
    let h = answer-refused c cmd supply (length before) (λ z. n (ap (λ (x : Answered). x.refusal) d.told ∙ z)) in (
      ap (λ (x : Answered). x.card) d.told ∙ h.0,
      ap (λ (x : Answered). x.count) d.told ∙ ap length h.1,
      ap (λ (x : Answered). x.fault_offset) d.told ∙ h.2,
      as_it_was h.1 d.left,
    )

-- ---- WRITE
write-empty : (c : Card) (room : ℕ) → (write_refusal c room ≡ 0 → ⊥) → write_bytes c room ≡ []
unfolding write_refusal write_bytes
write-empty c room = go (is_sound c) (ltb room write_room)
  where
    go : (a b : Bool) → (cond a (cond b no_room no_refusal) unsound ≡ 0 → ⊥) → cond a (cond b [] (record_of c)) [] ≡ []
    go true true n = refl
    go true false n = absurd (n refl)
    go false b n = refl

pub write-nothing : (c : Card) (before after : List ℕ) (r : Written) → WroteRecord c r before after → (r.refusal ≡ 0 → ⊥)
    → (r.count ≡ 0) × (after ≡ before)
write-nothing c before after r d n =
    let e = write-empty c (length before) (λ z. n (ap (λ (x : Written). x.refusal) d.told ∙ z)) in
    (ap (λ (x : Written). x.count) d.told ∙ ap length e, as_it_was e d.left)

-- ---- SEAL and UNSEAL
abbrev GivesBack : Session → Out → Type 0
GivesBack s o = (o.refusal ≡ 0 → ⊥) → (o.session ≡ s) × (o.bytes ≡ [])

did_nothing : (s : Session) (o : Out) (before after : List ℕ) (r : Outcome) → GivesBack s o → Did o r before after → (r.refusal ≡ 0 → ⊥)
    → (r.session ≡ s) × (r.count ≡ 0) × (after ≡ before)
did_nothing s o before after r back d n =
    let h = back (λ z. n (d.refusal ∙ z)) in
    (d.session ∙ h.0, d.count ∙ ap length h.1, as_it_was h.1 d.left)

seal-back : (s : Session) (header plain : List ℕ) (room : ℕ) → GivesBack s (seal_out s header plain room)
unfolding seal_out
seal-back s header plain room = by-test (GivesBack s) (ltb room seal_room) (λ _ _. (refl, refl))
    (λ _. by-test (GivesBack s) (ltb data_most (length plain)) (λ _ _. (refl, refl)) (λ _ n. absurd (n refl)))

pub seal-nothing : (s : Session) (header plain before after : List ℕ) (r : Outcome) → Did (seal_out s header plain (length before)) r before after
    → (r.refusal ≡ 0 → ⊥) → (r.session ≡ s) × (r.count ≡ 0) × (after ≡ before)
seal-nothing s header plain before after r =
    did_nothing s (seal_out s header plain (length before)) before after r (seal-back s header plain (length before))

opened-back : (s : Session) (field : List ℕ) (o : Option (List ℕ)) → GivesBack s (unsealed s field o)
opened-back s field none = λ _. (refl, refl)
opened-back s field (some p) = by-test (GivesBack s) (ltb (length p) 2) (λ _ _. (refl, refl)) (λ _ n. absurd (n refl))

unseal-back : (s : Session) (response : List ℕ) (room : ℕ) → GivesBack s (unseal_out s response room)
unfolding unseal_out
unseal-back s response room = by-test (GivesBack s) (ltb room unseal_room) (λ _ _. (refl, refl))
    (λ _. by-test (GivesBack s) (same_bytes (drop (length response - 2) response) plain_success)
    (λ _. opened-back s (sealed_field response) (open_field s response_head (sealed_field response))) (λ _ _. (refl, refl)))

pub unseal-nothing : (s : Session) (response before after : List ℕ) (r : Outcome) → Did (unseal_out s response (length before)) r before after
    → (r.refusal ≡ 0 → ⊥) → (r.session ≡ s) × (r.count ≡ 0) × (after ≡ before)
unseal-nothing s response before after r =
    did_nothing s (unseal_out s response (length before)) before after r (unseal-back s response (length before))
