-- What each step to 4 makes of a route: it ends, or it is the next step's. Lengths are in bytes.
-- Assumes nothing.
use Rattle.std.specs.Prelude.{Err}
use mathlib.Core.Path.{◌≡◌, refl, sym, ap, subst, ◌∙◌}
use mathlib.Core.Bool.{Bool, true, false, ◌&&◌, not, cond}
use mathlib.Core.List.{List}
use mathlib.Core.Option.{Option, none, some}
use Prim.Native.Nat.{ℕ, ◌≤◌, ◌<◌}
use native.Mathlib.Omega.{arith}
use borrow.Author.Tests.{eq-eqb, ne_eqb, le-leb, lt-leb}
use lib.Dec.{eqb}
use lib.ListN.{length, take, length-take}
use Rattle.octets.specs.Bytes.{overwrite}
use Rattle.octets.proofs.Lists.{overwritten}
use Rattle.card.specs.declared.Card.{Card}
use Rattle.card.specs.declared.Keys.{Keys}
use Rattle.card.specs.State.{closed, forgotten}
use Rattle.rules.specs.declared.Instruction.{Instruction}
use Rattle.rules.specs.declared.Unnamed.{Unnamed}
use Rattle.rules.specs.Results.{Named}
use Rattle.rules.specs.Words.{wrong_length, conditions_not_met, fails}
use Rattle.rules.specs.Channel.{plainly, tell}
use Rattle.rules.specs.Rows.{row_of, is_plain}
use Rattle.rules.specs.Steps as steps
use Rattle.command_table.specs.Fits.{PathsFit}
use Rattle.order_ends.specs.Routes.{from_step2, from_step3, from_step4, from_opening, from_step5}
use Rattle.order_ends.proofs.Ending.{paths-by}

pub plain-ends : (c : Card) (w : ℕ) → steps.ends (plainly (fails c w)) ≡ steps.ends (tell false (fails c w))
unfolding tell
plain-ends c w = refl

-- ---- the data at the start of the scratch
pub at-start : (plain d : List ℕ) → length d ≤ length plain → take (length d) (overwrite plain 0 d) ≡ d
at-start plain d h = overwritten plain 0 d (omega (arith, h))

-- ---- the keys are the card's own, through step 1
if-keys : (b : Bool) (x y : Card) (k : Keys) → x.keys ≡ k → y.keys ≡ k → (cond b x y).keys ≡ k
if-keys true x y k e f = e
if-keys false x y k e f = f

dropping-keys : (cmd : List ℕ) (c : Card) → (steps.dropping cmd c).keys ≡ c.keys
dropping-keys cmd c = if-keys (eqb c.channel.stage 1 && not (steps.begins 0x11 cmd)) (closed c) c c.keys refl refl

pub step1-keys : (cmd : List ℕ) (c : Card) → (steps.step1 cmd c).keys ≡ c.keys
unfolding steps.step1
step1-keys cmd c =
    let d = steps.dropping cmd c in
    if-keys (steps.begins 0x12 cmd) d (forgotten d) c.keys (dropping-keys cmd c) (dropping-keys cmd c)

-- ---- step 4, n being the stage that the code found for the instruction
module _ (i : Instruction) (n : ℕ) (e : n ≡ (row_of i).stage) where
  pub is-plain : n ≡ 0 → is_plain i ≡ true
  is-plain f = eq-eqb (row_of i).stage 0 (sym e ∙ f)

  pub not_plain : (n ≡ 0 → ⊥) → is_plain i ≡ false
  not_plain f = ne_eqb (row_of i).stage 0 (λ z. f (e ∙ z))

  module _ (cmd : List ℕ) (c : Card) (field : List ℕ) where
    pub step4-plain : n ≡ 0 → from_step4 i cmd c field ≡ from_step5 i cmd c field
    unfolding steps.step4
    step4-plain f = rw (is-plain f)

    pub step4-stage : (n ≡ 0 → ⊥) → c.channel.stage < n → from_step4 i cmd c field ≡ steps.ends (tell false (fails c conditions_not_met))
    unfolding steps.step4 tell
    step4-stage f h = rw (not_plain f, ← e, lt-leb n c.channel.stage h)

    pub step4-opens : (n ≡ 0 → ⊥) → n ≤ c.channel.stage → from_step4 i cmd c field ≡ from_opening i cmd c field
    unfolding steps.step4
    step4-opens f h = rw (not_plain f, ← e, le-leb n c.channel.stage h)

-- ---- step 3
pub step3-as : (cmd : List ℕ) (c : Card) (field : List ℕ) (n : Named) → n ≡ steps.name_of (steps.is_initialised c) (steps.cla_of cmd) (steps.ins_of cmd)
    → from_step3 cmd c field ≡ steps.finish (steps.then (steps.by_name c n) (λ (i : Instruction). steps.then (steps.step4 i cmd c field) (steps.step5 i cmd)))
step3-as cmd c field n e =
    ap (λ (x : Named). steps.finish (steps.then (steps.by_name c x) (λ (i : Instruction). steps.then (steps.step4 i cmd c field) (steps.step5 i cmd)))) (sym e)

-- why there is no instruction, under its name
pub refusal-as : {r : Named} {x : Unnamed} (y : Unnamed) → r ≡ Err x → x ≡ y → Err y ≡ r
refusal-as {r} y e f = sym (subst (λ (z : Unnamed). r ≡ Err z) f e)

-- ---- step 2
module _ (cmd : List ℕ) (c : Card) where
  by-form : (o : Option (List ℕ)) → steps.data_of cmd ≡ o
      → from_step2 cmd c ≡ steps.finish (steps.then (steps.by_form c o) (λ (field : List ℕ). steps.then (steps.step3 cmd c) (λ (i : Instruction). steps.then (steps.step4 i cmd c field) (steps.step5 i cmd))))
  unfolding steps.past_step1
  by-form o e = rw (e)

  pub step2-data : (field : List ℕ) → steps.data_of cmd ≡ some field → from_step2 cmd c ≡ from_step3 cmd c field
  step2-data field e = by-form (some field) e

  pub step2-wrong : steps.data_of cmd ≡ none → from_step2 cmd c ≡ steps.ends (tell false (fails c wrong_length))
  unfolding tell
  step2-wrong e = by-form none e

-- ---- step 1
module _ (cmd : List ℕ) (c next : Card) (e : next ≡ steps.step1 cmd c) where
  pub past-step1 : steps.decide c cmd ≡ from_step2 cmd next
  unfolding steps.decide steps.arrival
  past-step1 = rw (e)

  pub step1-paths : PathsFit c.keys → PathsFit next.keys
  step1-paths h = paths-by next c (ap (λ (y : Card). y.keys) e ∙ step1-keys cmd c) h
