-- What a way through the order of checks means: a decision of the rulebook (RULES 5). Every length is in bytes.
use Rattle.std.specs.Prelude.{ℕ, ◌≡◌, Bool, List, length, take, Result, Ok, Err, IfOk}
use Rattle.card.specs.declared.Card.{Card}
use Rattle.rules.specs.declared.Instruction.{Instruction}
use Rattle.rules.specs.Words.{Hold, fails}
use Rattle.rules.specs.Rules.{no_fault}
use Rattle.rules.specs.Channel.{tell}
use Rattle.rules.specs.Steps.{then, Opened, Decision, ends_at, finish, by_opening, opened_by, step3, step4, step5, past_step1, checks_of, supply_of, reply_of}
use Rattle.command_table.specs.Fits.{PathsFit}
use Rattle.order_ends.specs.declared.Going.{Going}
use Rattle.order_ends.specs.declared.Ended.{Ended}

-- ---- what is decided from a step on
abbrev pub from_step5 : Instruction → List ℕ → Card → List ℕ → Decision
from_step5 i cmd c d = finish (step5 i cmd (record { card = c; data' = d }))

abbrev pub from_opening : Instruction → List ℕ → Card → List ℕ → Decision
from_opening i cmd c field = finish (then (by_opening c field (opened_by c cmd field)) (step5 i cmd))

abbrev pub from_step4 : Instruction → List ℕ → Card → List ℕ → Decision
from_step4 i cmd c field = finish (then (step4 i cmd c field) (step5 i cmd))

abbrev pub from_step3 : List ℕ → Card → List ℕ → Decision
from_step3 cmd c field = finish (then (step3 cmd c) (λ i. then (step4 i cmd c field) (step5 i cmd)))

abbrev pub from_step2 : List ℕ → Card → Decision
from_step2 cmd c = finish (past_step1 cmd c)

-- ---- where the order of checks leads: a command goes on, or a step ends it
abbrev pub Way : Type 0
Way = Result Going Ended

-- an end without a fault offset
abbrev pub ends_with : Bool → Card → ℕ → Ended
ends_with over c w = record { over = over; status = w; fault_offset = no_fault; card = c }

-- the decision that a way and the command's data mean; a command that goes on has no fault
abbrev pub decision_of : Way → List ℕ → Decision
decision_of (Ok g) d = record { supply = g.supply; data' = d; answer = λ s. tell g.over (reply_of g.command g.card d s); fault_offset = no_fault }
decision_of (Err e) d = ends_at e.fault_offset (tell e.over (fails e.card e.status))

-- what a command that goes on rests on: its checks hold, its supply and the length of the data are the ones reported, and the paths fit
pub record GoesOn (g : Going) (d : List ℕ) : Type 0 where
  pub hold : Hold (checks_of g.command g.card d)
  pub reads : g.supply ≡ supply_of g.command
  pub long : length d ≡ g.count
  pub paths : PathsFit g.card.keys

-- the way means this decision, the command's data being d
pub record Routes (want : Decision) (r : Way) (d : List ℕ) : Type 0 where
  pub decides : want ≡ decision_of r d
  pub ready : IfOk r (λ g. GoesOn g d)

-- how many bytes of data the way has
abbrev pub count_of : Way → ℕ
count_of (Ok g) = g.count
count_of (Err e) = 0

-- the same, where the data are at the start of `plain`
abbrev pub RoutesIn : Decision → Way → List ℕ → Type 0
RoutesIn want r plain = Routes want r (take (count_of r) plain)
