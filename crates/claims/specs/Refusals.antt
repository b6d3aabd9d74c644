-- Demand 1 (RULES 11.1): which refusal each operation gives and exactly when (of WALK: which; when is in WalkReads); and what a refusal
-- leaves (RULES 3.2), `nothing`: for every report, and every buffer before and after, that the contract of the code allows, the card or the session
-- after is the one before, of READ FRESH of zeros, the buffer after is the buffer before, the count and the kind are 0, and no fault is told. What an operation
-- gives beside refusals is its definition. Every length and room is in bytes.
use Rattle.std.specs.Prelude.{ℕ, ◌≤◌, ◌<◌, ◌≡◌, true, false, List, ◌↔◌, ◌⊎◌, length}
use Rattle.octets.specs.Bytes.{Bytes}
use Rattle.channel_rules.specs.declared.Session.{Session}
use Rattle.channel_rules.specs.Message.{Keyed}
use Rattle.channel_rules.specs.Terminal.{seal_out, sealed_response, unseal_out}
use Rattle.channel_terminal.specs.declared.Outcome.{Outcome}
use Rattle.channel_terminal.specs.Did.{Did}
use Rattle.template_walk.specs.Walk.{WALK}
use Rattle.phrase_rules.specs.Reverse.{reverse_refusal}
use Rattle.phrase_reverse.specs.declared.Entropy.{Entropy}
use Rattle.phrase_reverse.specs.Reversed.{Reversed}
use Rattle.card.specs.declared.Card.{Card}
use Rattle.card.specs.State.{zeros, fresh_of}
use Rattle.card.specs.Sound.{is_sound}
use Rattle.card.specs.Shape.{Shaped}
use Rattle.sound.specs.Reset.{reset_answer}
use Rattle.record_rules.specs.Lengths.{write_room}
use Rattle.record_rules.specs.Forms.{forms, InForm}
use Rattle.record_rules.specs.Answers.{write_refusal, read_answer}
use Rattle.record_write.specs.declared.Written.{Written}
use Rattle.record_write.specs.Wrote.{WroteRecord}
use Rattle.rules.specs.declared.Asked.{Asked}
use Rattle.rules.specs.declared.Answered.{Answered}
use Rattle.rules.specs.Supplies.{suits}
use Rattle.rules.specs.Steps.{decide}
use Rattle.rules.specs.Engine.{ask_out, answer_out}
use Rattle.rules.specs.Reports.{AskDid, AnswerDid}
use Rattle.claims.specs.Phrases.{IsCount, TooLarge, IsPhrase}

-- ---- ASK: 1, 2
pub record AskRefuses (c : Card) (cmd : List ℕ) (room : ℕ) : Type 0 where
  pub unsound : (ask_out c cmd room).refusal ≡ 1 ↔ is_sound c ≡ false
  pub small : (ask_out c cmd room).refusal ≡ 2 ↔ (is_sound c ≡ true) × (room < 255)
  pub others : (ask_out c cmd room).refusal ≤ 2
  pub nothing : (before after : List ℕ) (r : Asked) → AskDid (ask_out c cmd (length before)) r before after → (r.refusal ≡ 0 → ⊥)
      → (r.kind ≡ 0) × (r.count ≡ 0) × (after ≡ before)

-- ---- ANSWER: 1, 2, 3
pub record AnswerRefuses (c : Card) (cmd supply : List ℕ) (room : ℕ) : Type 0 where
  pub unsound : (answer_out c cmd supply room).refusal ≡ 1 ↔ is_sound c ≡ false
  pub small : (answer_out c cmd supply room).refusal ≡ 2 ↔ (is_sound c ≡ true) × (room < 258)
  pub supplied : (answer_out c cmd supply room).refusal ≡ 3
      ↔ (is_sound c ≡ true) × (258 ≤ room) × (suits (decide c cmd).supply supply ≡ false)
  pub others : (answer_out c cmd supply room).refusal ≤ 3
  pub nothing : (before after : List ℕ) (r : Answered) → AnswerDid (answer_out c cmd supply (length before)) r before after
      → (r.refusal ≡ 0 → ⊥) → (r.card ≡ c) × (r.count ≡ 0) × (r.fault_offset ≡ 255) × (after ≡ before)

-- ---- RESET: 1
pub record ResetRefuses (c : Card) : Type 0 where
  pub unsound : (reset_answer c).refusal ≡ 1 ↔ is_sound c ≡ false
  pub taken : (reset_answer c).refusal ≡ 0 ↔ is_sound c ≡ true
  pub others : (reset_answer c).refusal ≤ 1
  pub nothing : ((reset_answer c).refusal ≡ 0 → ⊥) → (reset_answer c).card ≡ c

-- ---- WRITE: 1, 2
pub record WriteRefuses (c : Card) (room : ℕ) : Type 0 where
  pub unsound : write_refusal c room ≡ 1 ↔ is_sound c ≡ false
  pub small : write_refusal c room ≡ 2 ↔ (is_sound c ≡ true) × (room < write_room)
  pub others : write_refusal c room ≤ 2
  pub nothing : (before after : List ℕ) (r : Written) → WroteRecord c r before after → (r.refusal ≡ 0 → ⊥)
      → (r.count ≡ 0) × (after ≡ before)

-- ---- READ: 8. What is taken is the record of a sound card in one of the forms that READ takes, what is refused is that of none
abbrev pub IsRecord : List ℕ → Type 0
IsRecord s = (c : Card) × Shaped c × (is_sound c ≡ true) × InForm s c forms

pub record ReadRefuses (s : List ℕ) : Type 0 where
  pub taken : (read_answer s).refusal ≡ 0 ↔ IsRecord s
  pub refused : (read_answer s).refusal ≡ 8 ↔ (IsRecord s → ⊥)
  pub others : ((read_answer s).refusal ≡ 0) ⊎ ((read_answer s).refusal ≡ 8)
  pub nothing : ((read_answer s).refusal ≡ 0 → ⊥) → (read_answer s).card ≡ fresh_of (zeros 16) (zeros 65)

-- ---- SEAL: 2, 6
pub record SealRefuses (s : Session) (header d : List ℕ) (room : ℕ) : Type 0 where
  pub small : (seal_out s header d room).refusal ≡ 2 ↔ room < 261
  pub long : (seal_out s header d room).refusal ≡ 6 ↔ (261 ≤ room) × (223 < length d)
  pub taken : (seal_out s header d room).refusal ≡ 0 ↔ (261 ≤ room) × (length d ≤ 223)
  pub nothing : (before after : List ℕ) (r : Outcome) → Did (seal_out s header d (length before)) r before after → (r.refusal ≡ 0 → ⊥)
      → (r.session ≡ s) × (r.count ≡ 0) × (after ≡ before)

-- ---- UNSEAL: 2, 7. Genuine is what sealing some 2 to 223 bytes, data and status word, under this session gives
abbrev pub Genuine : Session → List ℕ → Type 0
Genuine s response = (p : List ℕ) × Bytes p × (2 ≤ length p) × (length p ≤ 223) × (response ≡ sealed_response s p)

pub record UnsealRefuses (s : Session) (response : List ℕ) (room : ℕ) : Type 0 where
  pub small : (unseal_out s response room).refusal ≡ 2 ↔ room < 223
  pub taken : Keyed s → Bytes response → (unseal_out s response room).refusal ≡ 0 ↔ (223 ≤ room) × Genuine s response
  pub forged : Keyed s → Bytes response → (unseal_out s response room).refusal ≡ 7 ↔ (223 ≤ room) × (Genuine s response → ⊥)
  pub others : ((unseal_out s response room).refusal ≡ 0)
      ⊎ (((unseal_out s response room).refusal ≡ 2) ⊎ ((unseal_out s response room).refusal ≡ 7))
  pub nothing : (before after : List ℕ) (r : Outcome) → Did (unseal_out s response (length before)) r before after → (r.refusal ≡ 0 → ⊥)
      → (r.session ≡ s) × (r.count ≡ 0) × (after ≡ before)

-- ---- WALK: 4, 5; exactly when each, WalkReads says
pub record WalkRefuses (s : List ℕ) : Type 0 where
  pub numbers : ((WALK s).refusal ≡ 0) ⊎ (((WALK s).refusal ≡ 4) ⊎ ((WALK s).refusal ≡ 5))
  pub nothing : ((WALK s).refusal ≡ 0 → ⊥) → (WALK s).count ≡ 0

-- ---- ENTROPY: 2, 9, 10, 11. What is taken are the numbers of an entropy
pub record EntropyRefuses (words : List ℕ) (room : ℕ) : Type 0 where
  pub small : reverse_refusal words room ≡ 2 ↔ room < 32
  pub count : reverse_refusal words room ≡ 9 ↔ (32 ≤ room) × (IsCount words → ⊥)
  pub large : reverse_refusal words room ≡ 10 ↔ (32 ≤ room) × (IsCount words × TooLarge words)
  pub checksum : Bytes words
      → reverse_refusal words room ≡ 11 ↔ (32 ≤ room) × (IsCount words × ((TooLarge words → ⊥) × (IsPhrase words → ⊥)))
  pub taken : Bytes words → reverse_refusal words room ≡ 0 ↔ (32 ≤ room) × IsPhrase words
  pub others : (reverse_refusal words room ≡ 0)
      ⊎ ((reverse_refusal words room ≡ 2)
      ⊎ ((reverse_refusal words room ≡ 9) ⊎ ((reverse_refusal words room ≡ 10) ⊎ (reverse_refusal words room ≡ 11))))
  pub nothing : (before after : List ℕ) (r : Entropy) → Reversed words r before after → (r.refusal ≡ 0 → ⊥)
      → (r.count ≡ 0) × (after ≡ before)

pub record Refusals : Type 0 where
  pub ask : (c : Card) (cmd : List ℕ) (room : ℕ) → AskRefuses c cmd room
  pub answer : (c : Card) (cmd supply : List ℕ) (room : ℕ) → AnswerRefuses c cmd supply room
  pub reset : (c : Card) → ResetRefuses c
  pub write : (c : Card) (room : ℕ) → WriteRefuses c room
  pub read : (s : List ℕ) → ReadRefuses s
  pub seal : (s : Session) (header d : List ℕ) (room : ℕ) → SealRefuses s header d room
  pub unseal : (s : Session) (response : List ℕ) (room : ℕ) → UnsealRefuses s response room
  pub walk : (s : List ℕ) → WalkRefuses s
  pub entropy : (words : List ℕ) (room : ℕ) → EntropyRefuses words room
