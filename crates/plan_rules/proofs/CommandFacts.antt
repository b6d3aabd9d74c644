-- The commands of a plan are VERIFY, SET PIN-LESS PATH and DERIVE, of class 80, on an initialised card, with P1 and P2 00.
-- Assumes nothing.
use Rattle.std.specs.Prelude.{Err, Ok}
use mathlib.Core.Path.{◌≡◌, refl, sym, ap, subst, ◌∙◌}
use mathlib.Core.Bool.{Bool, true, false, ◌&&◌, cond, false≢true}
use mathlib.Core.Option.{Option, none, some}
use Prim.Native.Nat.{ℕ}
use lib.Dec.{eqb}
use borrow.Author.Tests.{eqb-true}
use Rattle.card.specs.Slots.{is_zero}
use Rattle.rules.specs.declared.Instruction.{Instruction}
use Rattle.rules.specs.declared.Instruction.TheVariants as ins
use Rattle.rules.specs.Results.{Named}
use Rattle.rules.specs.declared.Unnamed.TheVariants as unnamed
use Rattle.rules.specs.declared.Command.{Command}
use Rattle.rules.specs.declared.Command.TheVariants as command
use Rattle.rules.specs.Steps.{name_of, on_card}
use Rattle.plan_rules.specs.Plan.{is_planned, listed_at, command_at}
use Rattle.plan_rules.specs.Known.{is_head}

-- ---- is_planned: which byte it is
pub data Kind : ℕ → Type 0 where
  verify : Kind 0x20
  set_pinless : Kind 0xC1
  derive : Kind 0xD1
  other : {b : ℕ} → is_planned b ≡ false → Kind b

pub kind : (b : ℕ) → Kind b
kind b = by_tests (eqb b 0x20) (eqb b 0xC1) (eqb b 0xD1) refl refl refl
  where
    by_tests : (p q r : Bool) → eqb b 0x20 ≡ p → eqb b 0xC1 ≡ q → eqb b 0xD1 ≡ r → Kind b
    by_tests true q r e f g = subst Kind (sym (eqb-true b 0x20 e)) verify
    by_tests false true r e f g = subst Kind (sym (eqb-true b 0xC1 f)) set_pinless
    by_tests false false true e f g = subst Kind (sym (eqb-true b 0xD1 g)) derive
    by_tests false false false e f g = other {b = b} (rw (e, f, g))

-- ---- command_at
-- the command of a byte whose head is right
abbrev pub command_of : ℕ → Option Command
command_of b = command_at true 0x80 b 0 0

module _ (v : Instruction) (k : Command) (M : Bool → Named → Option Command) (p q : Bool)
    (known : (i : Bool) → M i (Ok v) ≡ cond i (cond q (cond p (some k) none) none) none)
    (wrong : (i : Bool) → M i (Err unnamed.WrongClass) ≡ none) where
  all_three : (i p q : Bool) → cond i (cond q (cond p (some k) none) none) none ≡ cond (i && (p && q)) (some k) none
  all_three true true true = refl
  all_three true true false = refl
  all_three true false true = refl
  all_three true false false = refl
  all_three false p q = refl

  none-at : (i : Bool) → none ≡ cond (i && false) (some k) none
  none-at true = refl
  none-at false = refl

  by-head : (i e z : Bool) → M i (cond e (Ok v) (cond (z && false) (Ok ins.Select) (Err unnamed.WrongClass)))
      ≡ cond (i && (e && (p && q))) (some k) none
  by-head i true z = known i ∙ all_three i p q
  by-head i false true = wrong i ∙ none-at i
  by-head i false false = wrong i ∙ none-at i

module _ (i : Bool) (cla p1 p2 : ℕ) where
  abbrev at : Bool → Named → Option Command
  at i x = listed_at p1 p2 (on_card i x)

  unknown : (i : Bool) → at i (Err unnamed.WrongClass) ≡ none
  unknown i = refl

  verify-known : (j : Bool) → at j (Ok ins.Verify) ≡ cond j (cond (is_zero p2) (cond (is_zero p1) (some command.Verify) none) none) none
  verify-known true = refl
  verify-known false = refl

  set_pinless-known : (j : Bool) → at j (Ok ins.SetPinless) ≡ cond j (cond (is_zero p2) (cond (is_zero p1) (some command.SetPinless) none) none) none
  set_pinless-known true = refl
  set_pinless-known false = refl

  derive-known : (j : Bool) → at j (Ok ins.Derive) ≡ cond j (cond (is_zero p2) (cond (is_zero p1) (some command.Derive) none) none) none
  derive-known true = refl
  derive-known false = refl

  unplanned : (a h : Bool) (x y : Option Command) → a ≡ false → cond a x none ≡ cond h (cond a y none) none
  unplanned true h x y e = absurd (false≢true (sym e))
  unplanned false true x y e = refl
  unplanned false false x y e = refl

  pub command-at : (b : ℕ) → command_at i cla b p1 p2 ≡ cond (is_head i cla p1 p2) (command_of b) none
  unfolding command_at name_of
  command-at b = by_kind (kind b)
    where
      by_kind : {b : ℕ} → Kind b → command_at i cla b p1 p2 ≡ cond (is_head i cla p1 p2) (command_of b) none
      by_kind verify = by-head ins.Verify command.Verify at (is_zero p1) (is_zero p2) verify-known unknown i (eqb cla 0x80) (eqb cla 0)
      by_kind set_pinless = by-head ins.SetPinless command.SetPinless at (is_zero p1) (is_zero p2) set_pinless-known unknown i (eqb cla 0x80) (eqb cla 0)
      by_kind derive = by-head ins.Derive command.Derive at (is_zero p1) (is_zero p2) derive-known unknown i (eqb cla 0x80) (eqb cla 0)
      by_kind {b} (other e) = unplanned (is_planned b) (is_head i cla p1 p2) _ _ e

-- ---- command_of: one of three commands, or none
module _ {b : ℕ} where
  pub at-verify : b ≡ 0x20 → command_of b ≡ some command.Verify
  unfolding command_at name_of
  at-verify e = ap command_of e

  pub at-pinless : b ≡ 0xC1 → command_of b ≡ some command.SetPinless
  unfolding command_at name_of
  at-pinless e = ap command_of e

  pub at-derive : b ≡ 0xD1 → command_of b ≡ some command.Derive
  unfolding command_at name_of
  at-derive e = ap command_of e

pub at_other : (b : ℕ) → is_planned b ≡ false → command_of b ≡ none
unfolding command_at
at_other b e = rw e

pub by-command : (P : Option Command → Type 0) → P none → P (some command.Verify) → P (some command.SetPinless) → P (some command.Derive)
    → (b : ℕ) → P (command_of b)
by-command P n v s d b = by_kind (kind b)
  where
    by_kind : {b : ℕ} → Kind b → P (command_of b)
    by_kind verify = rw (at-verify refl) v
    by_kind set_pinless = rw (at-pinless refl) s
    by_kind derive = rw (at-derive refl) d
    by_kind {b} (other e) = rw (at_other b e) n
