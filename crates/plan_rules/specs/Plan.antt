-- Job sheets (RULES 6.21): what a plan of opened commands does on a card, which plans the check accepts, and when the planner refuses. Each
-- command of a plan is judged and answered by its own rule (crate `rules`). Every length is in bytes.
use Rattle.std.specs.Prelude.{ℕ, zero, suc, ◌+◌, ◌-◌, ◌≤◌, ◌≡◌, Bool, true, false, ◌&&◌, ◌||◌, not, cond, List, [], ◌∷◌, leb, eqb, length, take, drop, Err, Ok}
use Rattle.std.proofs.Math.Option.{Option, none, some}
use Rattle.octets.specs.Bytes.{same_bytes}
use Rattle.refusals.specs.Refusals.{no_refusal, unsound, no_plan}
use Rattle.card.specs.declared.Card.{Card}
use Rattle.card.specs.Sizes.{pin_bytes, path_most_bytes}
use Rattle.card.specs.State.{zeros, path_bytes}
use Rattle.card.specs.Slots.{is_zero}
use Rattle.card.specs.Sound.{is_sound}
use Rattle.rules.specs.declared.Instruction.TheVariants as ins
use Rattle.rules.specs.Results.{Named}
use Rattle.rules.specs.declared.Unnamed.TheVariants as unnamed
use Rattle.rules.specs.declared.Command.{Command}
use Rattle.rules.specs.Results.{Verdict}
use Rattle.rules.specs.Words.{success, verdict, Reply}
use Rattle.rules.specs.Supplies.{part}
use Rattle.rules.specs.Commands.{are_digits, is_path, rule_of}
use Rattle.rules.specs.Rows.{row_of}
use Rattle.rules.specs.Steps.{cla_of, ins_of, p1_of, p2_of, lc_of, name_of, is_initialised, in_stage, checks_of, supply_of}
use Rattle.plan_rules.specs.declared.Checked.{Checked}
use Rattle.plan_rules.specs.declared.Planned.{Planned}

-- ---- a plan's bytes: opened commands, one after the other, each 80 INS P1 P2, the number of its data bytes, and the data
-- the most commands, and the bytes of a command before its data
abbrev pub most_commands : ℕ
most_commands = 3

abbrev pub head_bytes : ℕ
head_bytes = 5

-- how many bytes the first command has, and its data
abbrev pub first_bytes : List ℕ → ℕ
first_bytes s = head_bytes + lc_of s

abbrev pub first_data : List ℕ → List ℕ
first_data s = part head_bytes (lc_of s) s

-- ---- which command it is
-- the three kinds, by their instruction byte
abbrev pub is_planned : ℕ → Bool
is_planned b = eqb b (row_of ins.Verify).byte || eqb b (row_of ins.SetPinless).byte || eqb b (row_of ins.Derive).byte

-- the channel is open: its stage is taken as 2
abbrev pub open_stage : ℕ
open_stage = 2

-- what a named instruction lists at P1 and P2
abbrev pub listed_at : ℕ → ℕ → Named → Option Command
listed_at p1 p2 (Ok i) = cond (in_stage i open_stage) ((row_of i).lists p1 p2) none
listed_at p1 p2 (Err unnamed.WrongClass) = none
listed_at p1 p2 (Err unnamed.Unknown) = none

-- the command of a class, an instruction byte, P1 and P2, where it is of the three kinds
unfoldable pub command_at : Bool → ℕ → ℕ → ℕ → ℕ → Option Command
command_at initialised cla b p1 p2 = cond (is_planned b) (listed_at p1 p2 (name_of initialised cla b)) none

abbrev pub first_command : Card → List ℕ → Option Command
first_command c s = command_at (is_initialised c) (cla_of s) (ins_of s) (p1_of s) (p2_of s)

-- ---- what a command does: the next card where it gives 9000
-- whether all checks hold
abbrev pub reads : Verdict → Bool
reads (Ok s) = true
reads (Err w) = false

-- the supply that says yes
abbrev pub yes : List ℕ
yes = 1 ∷ []

-- VERIFY with six digits is taken as right, any other as wrong: a sound card's PIN is six digits
abbrev pub taken_as_right : List ℕ → Bool
taken_as_right d = are_digits pin_bytes d

abbrev pub next_of : Reply → Option Card
next_of r = cond (eqb r.status success) (some r.card) none

unfoldable pub after : Command → Card → List ℕ → Option Card
after k c d = cond (reads (verdict (supply_of k) (checks_of k c d))) (next_of ((rule_of k).reply (taken_as_right d) c d yes)) none

-- ---- what a plan does: the card at its end, where it has at most n commands, each whole, of the three kinds, and each gives 9000
abbrev pub after_that : Card → List ℕ → Option Command → Option Card
after_that c d none = none
after_that c d (some k) = after k c d

unfoldable pub after_first : Card → List ℕ → Option Card
after_first c s = cond (leb (first_bytes s) (length s)) (after_that c (first_data s) (first_command c s)) none

abbrev pub onward : Option Card → (Card → Option Card) → Option Card
onward none next = none
onward (some c) next = next c

unfoldable pub run_plan : ℕ → Card → List ℕ → Option Card
run_plan zero c s = cond (is_zero (length s)) (some c) none
run_plan (suc n) c s =
    cond (is_zero (length s)) (some c) (onward (after_first c s) (λ next. run_plan n next (drop (first_bytes s) s)))

-- ---- the check: both paths end as asked
abbrev pub ends_as : List ℕ → List ℕ → Option Card → Bool
ends_as current pinless none = false
ends_as current pinless (some c) = same_bytes (path_bytes c.keys.current) current && same_bytes (path_bytes c.keys.pinless) pinless

unfoldable pub accepts : Card → List ℕ → List ℕ → List ℕ → Bool
accepts c plan current pinless = ends_as current pinless (run_plan most_commands c plan)

abbrev pub checked : ℕ → Bool → Checked
checked refusal accepted = record { refusal = refusal; accepted = accepted }

unfoldable pub check_answer : Card → List ℕ → List ℕ → List ℕ → Checked
check_answer c plan current pinless = cond (is_sound c) (checked no_refusal (accepts c plan current pinless)) (checked unsound false)

-- ---- the planner's refusal, from the card, the PIN given and both asked paths
abbrev pub can_plan : Card → List ℕ → List ℕ → List ℕ → Bool
can_plan c pin current pinless =
    is_initialised c
    && not (is_zero c.pins.pin_tries)
    && eqb c.keys.kind 2
    && are_digits pin_bytes pin
    && is_path current
    && is_path pinless

unfoldable pub plan_refusal : Card → List ℕ → List ℕ → List ℕ → ℕ
plan_refusal c pin current pinless = cond (is_sound c) (cond (can_plan c pin current pinless) no_refusal no_plan) unsound

-- ---- what is promised of the planner's answer
-- the longest plan: VERIFY with a PIN, and two commands with a path each
abbrev pub plan_most_bytes : ℕ
plan_most_bytes = (head_bytes + pin_bytes) + ((head_bytes + path_most_bytes) + (head_bytes + path_most_bytes))

-- the refusal; with it the empty plan, without it a plan that the check accepts; and zeros after the plan
pub record Plans (c : Card) (pin current pinless : List ℕ) (r : Planned) : Type 0 where
  pub refusal : r.refusal ≡ plan_refusal c pin current pinless
  pub refused : (r.refusal ≡ no_refusal → ⊥) → r.count ≡ 0
  pub accepted : r.refusal ≡ no_refusal → accepts c (take r.count r.bytes) current pinless ≡ true
  pub most : r.count ≤ plan_most_bytes
  pub after : drop r.count r.bytes ≡ zeros (plan_most_bytes - r.count)
