-- What follows where a command's checks hold and its supply has the form: each check, and the lengths of the supply's parts.
-- Assumes nothing.
use Rattle.std.specs.Prelude.{Err, Ok}
use mathlib.Core.Path.{◌≡◌, refl, sym}
use mathlib.Core.Bool.{Bool, true, false, ◌&&◌, ◌||◌, false≢true}
use mathlib.Core.List.{List, [], ◌∷◌}
use mathlib.Core.Option.{none, some}
use Prim.Native.Nat.{ℕ, ◌+◌, ◌≤◌, ◌<◌}
use native.Mathlib.Omega.{arith}
use lib.Dec.{eqb}
use lib.ListN.{length, length-take, length-drop}
use borrow.Author.Tests.{eqb-true}
use Rattle.template_rules.proofs.HeadFacts.{by-test}
use Rattle.card.proofs.Tests.{both}
use Rattle.rules.specs.declared.Supply.{Supply}
use Rattle.rules.specs.Results.{Verdict}
use Rattle.rules.specs.Words.{Check, verdict, Hold}
use Rattle.rules.specs.Supplies.{suits, part}
use Rattle.laws_commands.specs.Lawful.{Below}

-- ---- a verdict by cases: each check holds and the supply is read, or a status word of one of them
module _ (P : Verdict → Type 0) (s : Supply) where
  pub by-verdict : (l : List Check) → (Hold l → P (Ok s)) → ((w : ℕ) → P (Err w)) → P (verdict s l)
  by-verdict [] h f = h tt
  by-verdict (k ∷ more) h f = by-test P k.holds (λ e. by-verdict more (λ t. h (e, t)) f) (λ e. f k.otherwise)

  -- the same, where every status word is below a number
  pub by-verdict-below : (n : ℕ) (l : List Check) → Below n l → (Hold l → P (Ok s)) → ((w : ℕ) → w < n → P (Err w)) → P (verdict s l)
  by-verdict-below n [] b h f = h tt
  by-verdict-below n (k ∷ more) b h f =
      by-test P k.holds (λ e. by-verdict-below n more b.1 (λ t. h (e, t)) f) (λ e. f k.otherwise b.0)

-- where each check holds, the supply is read
pub held : (s : Supply) (l : List Check) → Hold l → verdict s l ≡ Ok s
held s [] h = refl
held s (k ∷ more) h = rw h.0 (held s more h.1)

-- ---- comparisons: a rule without one, and a channel that is in stage 2
pub never : {A B : Type 0} (x : A) → none ≡ some x → B
never x e = absurd (let z : ◌≡◌ {A = ℕ} 0 1 = cc in omega arith)

pub open-two : (n : ℕ) → n ≡ 2 → n ≡ 0 → ⊥
open-two n e z = omega arith

-- ---- supplies: the length where one is read
pub suited : (k : Supply) (s : List ℕ) → eqb k.kind 0 ≡ false → suits k s ≡ true → length s ≡ k.bytes
unfolding suits
suited k s n e = by_kind (eqb k.kind 0) _ n e
  where
    by_kind : (b f : Bool) → b ≡ false → (b || (eqb (length s) k.bytes && f)) ≡ true → length s ≡ k.bytes
    by_kind true f z h = absurd (false≢true (sym z))
    by_kind false f z h = eqb-true (length s) k.bytes (both _ f h).0

-- ---- parts: their length, and the most that it can be
pub part_length : (at n : ℕ) (s : List ℕ) → at + n ≤ length s → length (part at n s) ≡ n
part_length at n s h = simp (length-take, length-drop) (omega arith)

pub part-most : (at n : ℕ) (s : List ℕ) → length (part at n s) ≤ n
part-most at n s = simp length-take (omega arith)
