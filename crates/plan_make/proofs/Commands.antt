-- A plan that is put together of commands runs them one after the other, and a plan of fewer commands than there may be is run as well.
-- Lengths are in bytes. Assumes nothing.
use mathlib.Core.Path.{◌≡◌, refl, sym, ap, ap₂, ◌∙◌}
use mathlib.Core.Bool.{Bool, true, false, cond}
use mathlib.Core.List.{List, ◌++◌}
use mathlib.Core.Option.{Option, none, some}
use Prim.Native.Nat.{ℕ, zero, suc, ◌+◌, ◌-◌, ◌≤◌}
use native.Mathlib.Omega.{arith}
use lib.ListN.{length, drop, length-append}
use lib.Seq.{take_at, drop_at, drop-drop}
use Rattle.card.specs.declared.Card.{Card}
use Rattle.card.specs.Slots.{is_zero}
use Rattle.rules.specs.Steps.{is_initialised}
use Rattle.plan_rules.specs.Plan.{first_bytes, after_that, after_first, onward, run_plan}
use Rattle.plan_rules.specs.Known.{is_head}
use Rattle.plan_rules.proofs.CommandFacts.{command_of}
use Rattle.plan_rules.proofs.RunFacts.{run-next, first-by-head}
use Rattle.plan_make.specs.Make.{command_bytes, wanted}

-- ---- run_plan: past one command that is whole
module _ (c : Card) (b : ℕ) (d rest : List ℕ) where
  abbrev s : List ℕ
  s = command_bytes b d ++ rest

  whole : first_bytes s ≤ length s
  whole = omega (arith, length-append d rest)

  first-is : is_initialised c ≡ true → after_first c s ≡ after_that c d (command_of b)
  first-is i =
      first-by-head c s whole
      ∙ ap₂ (λ (x : List ℕ) (h : Bool). after_that c x (cond h (command_of b) none)) (take_at d rest (length d) refl)
      (ap (λ (h : Bool). is_head h 0x80 0 0) i)

  rest-is : drop (first_bytes s) s ≡ rest
  rest-is = sym (drop-drop (length d) 5 s) ∙ drop_at d rest (length d) refl

  run-command : (n : ℕ) → is_initialised c ≡ true
      → run_plan (suc n) c s ≡ onward (after_that c d (command_of b)) (λ next. run_plan n next rest)
  run-command n i =
      run-next c s (suc n) (λ z. omega arith) (λ z. omega arith)
      ∙ ap (λ (o : Option Card). onward o (λ next. run_plan (suc n - 1) next (drop (first_bytes s) s))) (first-is i)
      ∙ ap₂ (λ (m : ℕ) (t : List ℕ). onward (after_that c d (command_of b)) (λ next. run_plan m next t)) less rest-is
    where
      less : suc n - 1 ≡ n
      less = omega arith

-- ---- run_plan: one command more may be there
pub run_more : (n : ℕ) (c : Card) (s : List ℕ) (x : Card) → run_plan n c s ≡ some x → run_plan (suc n) c s ≡ some x
unfolding run_plan
run_more zero c s x e = by_end (is_zero (length s)) _ e
  where
    by_end : (w : Bool) (o : Option Card) → cond w (some c) none ≡ some x → cond w (some c) o ≡ some x
    by_end true o e = e
    by_end false o e = let z : ◌≡◌ {A = ℕ} 0 1 = cc in absurd (omega arith)
run_more (suc n) c s x e = by_end (is_zero (length s)) (after_first c s) (λ y. run_more n y (drop (first_bytes s) s) x) e
  where
    onwards : (o : Option Card) (f g : Card → Option Card) → ((y : Card) → f y ≡ some x → g y ≡ some x) → onward o f ≡ some x → onward o g ≡ some x
    onwards none f g h e = e
    onwards (some y) f g h e = h y e

    by_end : (w : Bool) (o : Option Card)
        → ((y : Card) → run_plan n y (drop (first_bytes s) s) ≡ some x → run_plan (suc n) y (drop (first_bytes s) s) ≡ some x)
        → cond w (some c) (onward o (λ next. run_plan n next (drop (first_bytes s) s))) ≡ some x
        → cond w (some c) (onward o (λ next. run_plan (suc n) next (drop (first_bytes s) s))) ≡ some x
    by_end true o h e = e
    by_end false o h e = onwards o _ _ h e

-- ---- a command that is wanted or not
pub run-wanted : (w : Bool) (n : ℕ) (c c₁ x : Card) (b : ℕ) (d rest : List ℕ) → is_initialised c ≡ true
    → (w ≡ true → after_that c d (command_of b) ≡ some c₁) → run_plan n (cond w c₁ c) rest ≡ some x
    → run_plan (suc n) c (wanted w b d ++ rest) ≡ some x
run-wanted true n c c₁ x b d rest i h e =
    run-command c b d rest n i ∙ ap (λ (o : Option Card). onward o (λ next. run_plan n next rest)) (h refl) ∙ e
run-wanted false n c c₁ x b d rest i h e = run_more n c rest x e
