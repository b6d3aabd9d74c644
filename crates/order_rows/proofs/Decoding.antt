-- An instruction byte that no row has.
-- Assumes nothing.
use Rattle.std.specs.Prelude.{Err}
use mathlib.Core.Path.{◌≡◌, refl}
use mathlib.Core.List.{List, [], ◌∷◌}
use Prim.Native.Nat.{ℕ}
use borrow.Author.Tests.{ne_eqb}
use Rattle.rules.specs.declared.Instruction.{Instruction}
use Rattle.rules.specs.declared.Unnamed.TheVariants as unnamed
use Rattle.rules.specs.Rows.{row_of}
use Rattle.rules.specs.Steps.{with_byte}

-- what the last arm of a match knows: the byte is none of these, beside what was known before
abbrev pub NoneOf : ℕ → List Instruction → Type 0 → Type 0
NoneOf b [] known = known
NoneOf b (i ∷ more) known = NoneOf b more (known × (b ≡ (row_of i).byte → ⊥))

pub unknown : (b : ℕ) (l : List Instruction) (known : Type 0) → NoneOf b l known → known × (with_byte b l ≡ (Err unnamed.Unknown))
unknown b [] known n = (n, refl)
unknown b (i ∷ more) known n =
    let r = unknown b more (known × (b ≡ (row_of i).byte → ⊥)) n in
    (r.0.0, rw (ne_eqb b (row_of i).byte r.0.1) r.1)
