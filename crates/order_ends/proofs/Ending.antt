-- What steps 5 and 6 make of a command: it ends, or it goes on with the command's supply. Lengths are in bytes.
-- Assumes nothing.
use Rattle.std.specs.Prelude.{Err, None, Ok, Some}
use mathlib.Core.Path.{◌≡◌, refl, sym, ap, subst, ◌∙◌}
use mathlib.Core.Bool.{Bool, true, false, not, false≢true}
use mathlib.Core.List.{List, [], ◌∷◌}
use mathlib.Core.Option.{Option, none, some}
use Prim.Native.Nat.{ℕ}
use native.Mathlib.Omega.{arith}
use lib.ListN.{length, take}
use Rattle.card.specs.declared.Card.{Card}
use Rattle.rules.specs.declared.Instruction.{Instruction}
use Rattle.rules.specs.declared.Loss.{Loss}
use Rattle.rules.specs.declared.Loss.TheVariants as loss
use Rattle.rules.specs.declared.Command.{Command}
use Rattle.rules.specs.declared.Supply.{Supply}
use Rattle.rules.specs.Words.{success, wrong_parameters, Check, verdict, Hold, fails}
use Rattle.rules.specs.Rules.{no_fault}
use Rattle.rules.specs.Channel.{tell}
use Rattle.rules.specs.Rows.{row_of, is_plain}
use Rattle.rules.specs.Code.{choice_of}
use Rattle.rules.specs.Steps as steps
use Rattle.command_table.specs.Fits.{PathsFit}
use Rattle.order_ends.specs.Routes.{Way, from_step5, ends_with, Routes, RoutesIn}

-- ---- a way that ends, and the same way for another name of the decision
module _ (over : Bool) (c : Card) (w : ℕ) where
  pub ends-at-route : (n : ℕ) (want : steps.Decision) (d : List ℕ) → want ≡ steps.ends_at n (tell over (fails c w))
      → Routes want (Err (record { over = over; status = w; fault_offset = n; card = c })) d
  ends-at-route n want d e = record { decides = e; ready = tt }

  pub ends-route : (want : steps.Decision) (d : List ℕ) → want ≡ steps.ends (tell over (fails c w)) → Routes want (Err (ends_with over c w)) d
  ends-route = ends-at-route no_fault

pub routes-as : (want want' : steps.Decision) (r : Way) (d : List ℕ) → want' ≡ want → Routes want r d → Routes want' r d
routes-as want want' r d e h = record { decides = e ∙ h.decides; ready = h.ready }

-- ---- the data at the start of the scratch
pub stored : (want : steps.Decision) (r : Way) (d plain : List ℕ) → Routes want r d → take (length d) plain ≡ d → RoutesIn want r plain
stored want (Ok g) d plain h e = subst (Routes want (Ok g)) (sym (ap (λ (n : ℕ). take n plain) (sym h.ready.long) ∙ e)) h
stored want (Err x) d plain h e = record { decides = h.decides; ready = tt }

-- ---- the keys are the card's own, through what is begun
pub paths-by : (c d : Card) → c.keys ≡ d.keys → PathsFit d.keys → PathsFit c.keys
paths-by c d e h = subst PathsFit (sym e) h

pub begun-keys : (l : Loss) (c : Card) → (steps.begun l c).keys ≡ c.keys
begun-keys loss.Channel c = refl
begun-keys loss.HalfOpen c = refl
begun-keys loss.Pending c = refl
begun-keys loss.Nothing c = refl

-- ---- step 6
-- where the verdict is that a supply is read, it is the command's, and each check holds
first_holds : (s k : Supply) (x : Check) (more : List Check) (b : Bool) → x.holds ≡ b → Ok k ≡ verdict s (x ∷ more)
    → (Ok k ≡ verdict s more → (k ≡ s) × Hold more) → (k ≡ s) × Hold (x ∷ more)
first_holds s k x more true f e rest = let r = rest (rw f at e) in (r.0, (f, r.1))
first_holds s k x more false f e rest =
    let g : Ok k ≡ Err x.otherwise = rw f at e in let z : ◌≡◌ {A = ℕ} 0 1 = cc in absurd (omega arith)

all_hold : (s k : Supply) (l : List Check) → Ok k ≡ verdict s l → (k ≡ s) × Hold l
all_hold s k [] e = ((cc), tt)
all_hold s k (x ∷ more) e = first_holds s k x more x.holds refl e (all_hold s k more)

module _ (over : Bool) (c lost : Card) (d : List ℕ) (k : Command) where
  abbrev pub arrived : steps.Arrived
  arrived = record { command = k; data' = d; card = c; lost = lost; over = over }

  pub step6-goes : (s : Supply) → Ok s ≡ verdict (steps.supply_of k) (steps.checks_of k c d) → PathsFit c.keys
      → Routes (steps.step6 arrived) (Ok (record { over = over; count = length d; command = k; supply = s; card = c })) d
  unfolding steps.step6
  step6-goes s e h =
      let r = all_hold (steps.supply_of k) s (steps.checks_of k c d) e in
      record {
        decides = ap (steps.by_verdict arrived) (sym e);
        ready = record { hold = r.1; reads = r.0; long = refl; paths = h };
      }

  -- n is the fault offset that the code found
  pub step6-ends : (w n : ℕ) → Err w ≡ verdict (steps.supply_of k) (steps.checks_of k c d) → n ≡ steps.fault_at k d w
      → steps.step6 arrived ≡ steps.ends_at n (tell over (fails lost w))
  unfolding steps.step6
  step6-ends w n e en = ap (steps.by_verdict arrived) (sym e) ∙ ap (λ (x : ℕ). steps.ends_at x (tell over (fails lost w))) (sym en)

-- ---- step 5
chosen : (o : Option Command) (k : Command) → Some k ≡ choice_of o → o ≡ some k
chosen none k e = let z : ◌≡◌ {A = ℕ} 0 1 = cc in absurd (omega arith)
chosen (some x) k e = cc

unlisted : (o : Option Command) → None ≡ choice_of o → o ≡ none
unlisted none e = refl
unlisted (some x) e = let z : ◌≡◌ {A = ℕ} 0 1 = cc in absurd (omega arith)

-- l, b and x are what the code found: the loss, the card at step 5, and the card that an error leaves
module _ (i : Instruction) (cmd : List ℕ) (c : Card) (d : List ℕ) (over : Bool) (e : over ≡ not (is_plain i)) (l : Loss) (el : l ≡ (row_of i).loss) (b : Card) (eb : b ≡ steps.begun l c) (x : Card) (ex : x ≡ steps.failed l (steps.p1_of cmd) b) where
  by-choice : from_step5 i cmd c d ≡ steps.finish (steps.by_choice over d b x ((row_of i).lists (steps.p1_of cmd) (steps.p2_of cmd)))
  unfolding steps.step5
  by-choice = rw (ex, eb, el, e)

  pub step5-listed : (k : Command) → Some k ≡ choice_of ((row_of i).lists (steps.p1_of cmd) (steps.p2_of cmd))
      → from_step5 i cmd c d ≡ steps.step6 (arrived over b x d k)
  step5-listed k f = by-choice ∙ ap (λ (o : Option Command). steps.finish (steps.by_choice over d b x o)) (chosen ((row_of i).lists (steps.p1_of cmd) (steps.p2_of cmd)) k f)

  pub step5-unlisted : None ≡ choice_of ((row_of i).lists (steps.p1_of cmd) (steps.p2_of cmd))
      → from_step5 i cmd c d ≡ steps.ends (tell over (fails x wrong_parameters))
  step5-unlisted f = by-choice ∙ ap (λ (o : Option Command). steps.finish (steps.by_choice over d b x o)) (unlisted ((row_of i).lists (steps.p1_of cmd) (steps.p2_of cmd)) f)

  pub begun-paths : PathsFit c.keys → PathsFit b.keys
  begun-paths h = paths-by b c (ap (λ (y : Card). y.keys) eb ∙ begun-keys l c) h
