-- The two runs of demand 3 (RULES 11.3): lists of calls, what a run shows at each call and the card that it ends with; when
-- two cards agree in all but PIN and PUK; and when the comparisons of two runs come out alike. Every length and count is in bytes.
use Rattle.std.specs.Prelude.{ℕ, ◌≡◌, true, cond, List, [], ◌∷◌, eqb, length}
use Rattle.std.proofs.Math.Option.{Option, none, some}
use Rattle.refusals.specs.Refusals.{no_refusal}
use Rattle.card.specs.declared.Card.{Card}
use Rattle.card.specs.Sound.{is_sound}
use Rattle.sound.specs.declared.Answer.{Answer}
use Rattle.sound.specs.Reset.{reset_answer}
use Rattle.rules.specs.declared.Asked.{Asked}
use Rattle.rules.specs.declared.Answered.{Answered}
use Rattle.rules.specs.Rules.{Secret}
use Rattle.rules.specs.Engine.{ask_out, answer_out}
use Rattle.rules.specs.Reports.{ask_report, ask_leaves, answer_report, answer_leaves}
use Rattle.rules.specs.Comparison.{Comparison, comparison}
use Rattle.laws_commands.specs.Lawful.{erase}

-- ---- a call (RULES 11.3): ASK brings its command and its buffer, ANSWER its command, its supply and its buffer, RESET nothing
pub data Call : Type 0 where
  ask : List ℕ → List ℕ → Call
  answer : List ℕ → List ℕ → List ℕ → Call
  reset : Call

-- the comparison that a call makes, if any (RULES 6.3): only ANSWER makes them, and a numbered refusal makes none
unfoldable pub comparison_at : Card → Call → Option Comparison
comparison_at c (ask cmd buf) = none
comparison_at c (answer cmd s buf) = cond (eqb (answer_out c cmd s (length buf)).refusal no_refusal) (comparison c cmd) none
comparison_at c reset = none

-- which of PIN and PUK is compared, if any
abbrev pub secret_of : Option Comparison → Option Secret
secret_of none = none
secret_of (some x) = some x.of

abbrev pub compared_at : Card → Call → Option Secret
compared_at c k = secret_of (comparison_at c k)

-- ---- what a call reports: what the code of its operation returns, by the definitions that its contract cites
pub data Report : Type 0 where
  of_ask : Asked → Report
  of_answer : Answered → Report
  of_reset : Answer → Report

unfoldable pub report_at : Card → Call → Report
report_at c (ask cmd buf) = of_ask (ask_report (ask_out c cmd (length buf)))
report_at c (answer cmd s buf) = of_answer (answer_report (answer_out c cmd s (length buf)))
report_at c reset = of_reset (reset_answer c)

-- and the whole buffer after it; RESET has none
unfoldable pub buffer_at : Card → Call → List ℕ
buffer_at c (ask cmd buf) = ask_leaves (ask_out c cmd (length buf)) buf
buffer_at c (answer cmd s buf) = answer_leaves (answer_out c cmd s (length buf)) buf
buffer_at c reset = []

-- ---- a report as it is shown: all of it, but PIN and PUK of its card are put away. A number that the code's struct gains has to be written here
-- too, and what is shown is then what is reported (Shown.antt, `alike`)
abbrev pub answered_with : Card → Answered → Answered
answered_with c r = record { refusal = r.refusal; count = r.count; fault_offset = r.fault_offset; card = c }

abbrev pub reset_with : Card → Answer → Answer
reset_with c r = record { refusal = r.refusal; card = c }

abbrev pub shown : Report → Report
shown (of_ask r) = of_ask r
shown (of_answer r) = of_answer (answered_with (erase r.card) r)
shown (of_reset r) = of_reset (reset_with (erase r.card) r)

-- ---- what a call shows (RULES 11.3): its report, the whole buffer, and what it compared
pub record Seen : Type 0 where
  pub report : Report
  pub buffer : List ℕ
  pub compared : Option Secret

unfoldable pub seen_at : Card → Call → Seen
seen_at c k = record { report = shown (report_at c k); buffer = buffer_at c k; compared = compared_at c k }

-- ---- the card that a call passes on (RULES 11.3): ASK the one it was given, ANSWER and RESET their next card, which is the one given where
-- they refuse
unfoldable pub next_at : Card → Call → Card
next_at c (ask cmd buf) = c
next_at c (answer cmd s buf) = (answer_out c cmd s (length buf)).card
next_at c reset = (reset_answer c).card

-- ---- a run: what it shows, call by call, and the card at its end
unfoldable pub run_of : Card → List Call → List Seen
run_of c [] = []
run_of c (k ∷ more) = seen_at c k ∷ run_of (next_at c k) more

unfoldable pub end_of : Card → List Call → Card
end_of c [] = c
end_of c (k ∷ more) = end_of (next_at c k) more

-- ---- two cards agree in all but PIN and PUK (RULES 11.3)
pub record Agree (c d : Card) : Type 0 where
  pub initialised : c.initialised ≡ d.initialised
  pub identity : c.identity ≡ d.identity
  pub pintries : c.pins.pin_tries ≡ d.pins.pin_tries
  pub puktries : c.pins.puk_tries ≡ d.pins.puk_tries
  pub verified : c.pins.verified ≡ d.pins.verified
  pub pairing : c.pairing ≡ d.pairing
  pub keys : c.keys ≡ d.keys
  pub channel : c.channel ≡ d.channel
  pub tap : c.tap ≡ d.tap

-- ---- wherever both runs make a comparison at the same call, it comes out right in both or wrong in both
abbrev pub OutAlike : Option Comparison → Option Comparison → Type 0
OutAlike m n = (x y : Comparison) → m ≡ some x → n ≡ some y → x.right ≡ y.right

unfoldable pub Alike : Card → Card → List Call → Type 0
Alike c d [] = Unit {0}
Alike c d (k ∷ more) = OutAlike (comparison_at c k) (comparison_at d k) × Alike (next_at c k) (next_at d k) more

-- ---- what the claim asks of two cards and a list (RULES 11.3): both cards are sound and agree, and the comparisons come out alike
pub record Premise (c d : Card) (calls : List Call) : Type 0 where
  pub sound : is_sound c ≡ true
  pub sound' : is_sound d ≡ true
  pub agree : Agree c d
  pub alike : Alike c d calls

-- ---- the claim: the two runs show the same at every call, and end with cards that agree
pub record SameRuns (c d : Card) (calls : List Call) : Type 0 where
  pub shown : run_of c calls ≡ run_of d calls
  pub ends : Agree (end_of c calls) (end_of d calls)
