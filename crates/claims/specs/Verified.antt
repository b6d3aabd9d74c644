-- Verification ends with the channel (RULES 2.3, 6.2): a new client does not find the PIN verified. Every length is in bytes.
use Rattle.std.specs.Prelude.{ℕ, ◌≡◌, true, false, List, [], ◌∷◌, Ok}
use Rattle.std.proofs.Math.Option.{none, some}
use Rattle.card.specs.declared.Card.{Card}
use Rattle.card.specs.State.{zeros, fresh_of}
use Rattle.card.specs.Sound.{is_sound}
use Rattle.sound.specs.Reset.{reset_answer}
use Rattle.record_rules.specs.Answers.{read_answer}
use Rattle.rules.specs.declared.Instruction.{Instruction}
use Rattle.rules.specs.Commands.{application_id}
use Rattle.rules.specs.Rows.{is_plain}
use Rattle.rules.specs.Steps.{data_of, cla_of, ins_of, p1_of, p2_of, name_of, is_initialised, opened_by}
use Rattle.rules.specs.Engine.{answer_out}
use Rattle.laws_two_runs.specs.Runs.{Call, answer, reset, next_at, end_of}
use Rattle.laws_two_runs.specs.Verification.{Lost, Verification}

-- the channel closed and the PIN not verified
abbrev pub Shut : Card → Type 0
Shut c = (c.channel.stage ≡ 0) × (c.pins.verified ≡ 0)

-- ---- an example: a list of calls from FRESH leads to a card in stage 2 with the PIN verified; after one call more the card is in this stage and
-- the PIN is not verified
pub record Ends (stage : ℕ) (call : Call) : Type 0 where
  pub calls : List Call
  pub open2 : (end_of (fresh_of (zeros 16) (zeros 65)) calls).channel.stage ≡ 2
  pub verified : (end_of (fresh_of (zeros 16) (zeros 65)) calls).pins.verified ≡ 1
  pub leaves : (next_at (end_of (fresh_of (zeros 16) (zeros 65)) calls) call).channel.stage ≡ stage
  pub ended : (next_at (end_of (fresh_of (zeros 16) (zeros 65)) calls) call).pins.verified ≡ 0

-- OPEN for slot 0 with a point and a supply with flag 01; the same with flag 00; OPEN for slot 7, the last, which is free: 6A86
abbrev pub open_with : ℕ → ℕ → Call
open_with slot flag = answer (0x80 ∷ 0x10 ∷ slot ∷ 0 ∷ 65 ∷ 0x04 ∷ zeros 64) (flag ∷ zeros 112) (zeros 258)

-- SELECT with the application's name, 15 bytes
abbrev pub selects : Call
selects = answer (0x00 ∷ 0xA4 ∷ 0x04 ∷ 0x00 ∷ 15 ∷ application_id) [] (zeros 258)

-- GET STATUS without a field: it does not open
abbrev pub bare_status : Call
bare_status = answer (0x80 ∷ 0xF2 ∷ 0x00 ∷ 0x00 ∷ []) [] (zeros 258)

pub record Verified : Type 0 where
  -- a sound card has a verified PIN only in stage 2, and only with 3 tries
  pub sound : (c : Card) → is_sound c ≡ true → (c.pins.verified ≡ 0 → ⊥) → (c.channel.stage ≡ 2) × (c.pins.pin_tries ≡ 3)
  -- the cards that FRESH, RESET and READ give are closed, and not verified
  pub fresh : (uid key : List ℕ) → Shut (fresh_of uid key)
  pub powerup : (c : Card) → is_sound c ≡ true → Shut (reset_answer c).card
  pub read : (s : List ℕ) → Shut (read_answer s).card
  -- every call of ASK, ANSWER and RESET: exactly when the PIN is verified after it, what ends that, and what begins it
  pub calls : (c : Card) (k : Call) → Verification c k
  -- each way to lose the channel does lose it, where ANSWER is not refused: OPEN once its form is right, whatever P1, P2, data and status word;
  -- SELECT with the application's name; and, in stage 2, a command over the channel that does not open
  pub everyopen : (c : Card) (cmd s : List ℕ) (room : ℕ) (field : List ℕ) → data_of cmd ≡ some field → (answer_out c cmd s room).refusal ≡ 0
      → is_initialised c ≡ true → cla_of cmd ≡ 0x80 → ins_of cmd ≡ 0x10 → Lost (answer_out c cmd s room).card
  pub everyselect : (c : Card) (cmd s : List ℕ) (room : ℕ) (field : List ℕ) → data_of cmd ≡ some field → (answer_out c cmd s room).refusal ≡ 0
      → cla_of cmd ≡ 0x00 → ins_of cmd ≡ 0xA4 → p1_of cmd ≡ 0x04 → p2_of cmd ≡ 0x00 → field ≡ application_id → Lost (answer_out c cmd s room).card
  pub everyfailure : (c : Card) (cmd s : List ℕ) (room : ℕ) (field : List ℕ) → data_of cmd ≡ some field → (answer_out c cmd s room).refusal ≡ 0
      → (i : Instruction) → name_of (is_initialised c) (cla_of cmd) (ins_of cmd) ≡ Ok i → is_plain i ≡ false → c.channel.stage ≡ 2
      → opened_by c cmd field ≡ none → Lost (answer_out c cmd s room).card
  -- and it can be lost so: OPEN with success, with flag 00 and for a free slot; SELECT; RESET; a command that does not open
  pub opens : Ends 1 (open_with 0 1)
  pub opensnot : Ends 0 (open_with 0 0)
  pub freeslot : Ends 0 (open_with 7 1)
  pub selecting : Ends 0 selects
  pub resetting : Ends 0 reset
  pub unopened : Ends 0 bare_status
