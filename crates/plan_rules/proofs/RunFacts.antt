-- A plan's run, step by step: it ends, it stops, or it goes on past its first command. Lengths are in bytes.
-- Assumes nothing.
use mathlib.Core.Path.{◌≡◌, refl, ap}
use mathlib.Core.Bool.{Bool, true, false, ◌&&◌, cond}
use mathlib.Core.List.{List, []}
use mathlib.Core.Option.{Option, none, some}
use Prim.Native.Nat.{ℕ, zero, suc, ◌-◌, ◌≤◌, ◌<◌}
use native.Mathlib.Omega.{arith}
use lib.Dec.{leb}
use lib.ListN.{length, drop}
use borrow.Author.Tests.{leb-true, le-leb, lt-leb, eq-eqb, ne_eqb}
use Rattle.octets.specs.Bytes.{same_bytes}
use Rattle.card.specs.declared.Card.{Card}
use Rattle.card.specs.State.{path_bytes, fresh_of}
use Rattle.rules.specs.Steps.{cla_of, ins_of, p1_of, p2_of, is_initialised}
use Rattle.plan_rules.specs.Plan.{first_bytes, first_data, after_that, after_first, onward, run_plan, accepts}
use Rattle.plan_rules.specs.Known.{is_head}
use Rattle.plan_rules.proofs.CommandFacts.{command_of, command-at}

suc-minus : (n : ℕ) → suc n - 1 ≡ n
suc-minus n = omega arith

-- ---- run_plan
module _ (c : Card) (s : List ℕ) where
  pub run-ended : (n : ℕ) → length s ≡ 0 → run_plan n c s ≡ some c
  unfolding run_plan
  run-ended zero e = rw (eq-eqb (length s) 0 e)
  run-ended (suc n) e = rw (eq-eqb (length s) 0 e)

  pub run-spent : (length s ≡ 0 → ⊥) → run_plan 0 c s ≡ none
  unfolding run_plan
  run-spent e = rw (ne_eqb (length s) 0 e)

  pub run-next : (n : ℕ) → (n ≡ 0 → ⊥) → (length s ≡ 0 → ⊥)
      → run_plan n c s ≡ onward (after_first c s) (λ next. run_plan (n - 1) next (drop (first_bytes s) s))
  unfolding run_plan
  run-next zero z e = absurd (z refl)
  run-next (suc n) z e = rw (ne_eqb (length s) 0 e, suc-minus n)

  -- ---- after_first: by whether the first command is whole, and by its head
  pub first_short : length s < first_bytes s → after_first c s ≡ none
  unfolding after_first
  first_short h = rw (lt-leb (first_bytes s) (length s) h)

  pub first-by-head : first_bytes s ≤ length s
      → after_first c s ≡ after_that c (first_data s) (cond (is_head (is_initialised c) (cla_of s) (p1_of s) (p2_of s)) (command_of (ins_of s)) none)
  unfolding after_first
  first-by-head h =
      rw (le-leb (first_bytes s) (length s) h)
      (ap (after_that c (first_data s)) (command-at (is_initialised c) (cla_of s) (p1_of s) (p2_of s) (ins_of s)))

  -- where it gives a card, the first command is whole
  pub first-whole : (x : Card) → after_first c s ≡ some x → first_bytes s ≤ length s
  unfolding after_first
  first-whole x e = leb-true (first_bytes s) (length s) (by-test (leb (first_bytes s) (length s)) _ e)
    where
      by-test : (w : Bool) (o : Option Card) → cond w o none ≡ some x → w ≡ true
      by-test true o e = refl
      by-test false o e = let z : ◌≡◌ {A = ℕ} 0 1 = cc in absurd (omega arith)

-- ---- accepts: the empty plan, where both paths are as asked already; on a card before INIT, where both asked paths are empty
pub empty-plan : (c : Card) (current pinless : List ℕ)
    → accepts c [] current pinless ≡ (same_bytes (path_bytes c.keys.current) current && same_bytes (path_bytes c.keys.pinless) pinless)
unfolding accepts run_plan
empty-plan c current pinless = refl

pub fresh-empty : (uid key : List ℕ) → accepts (fresh_of uid key) [] [] [] ≡ true
fresh-empty uid key = empty-plan (fresh_of uid key) [] []
