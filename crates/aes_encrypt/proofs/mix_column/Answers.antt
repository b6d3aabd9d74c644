-- Each byte of a column, from the column's sum and one doubling, is the product of MixColumns' row.
-- Assumes nothing.
use mathlib.Core.Path.{refl, ap, ◌∙◌}
use Prim.Native.Nat.{ℕ}
use Rattle.aes_field.specs.Field.{◌⊕◌}
use Rattle.octets.proofs.Lists.{◌&◌}
use Rattle.aes_rules.proofs.Columns.{mix-row-by-sum, turn-sum}
use Rattle.aes_encrypt.proofs.mix_column.Goals as goal

pub returns : goal.returns
returns c = let g = c.args in
    let sum : ℕ = g.a ⊕ g.b ⊕ g.c ⊕ g.d in
    let e1 = turn-sum g.a g.b g.c g.d in
    let e2 = e1 ∙ turn-sum g.b g.c g.d g.a in
    let e3 = e2 ∙ turn-sum g.c g.d g.a g.b in
    (ap (λ (x : ℕ). g.a ⊕ sum ⊕ x) c.x_times.ensures ∙ mix-row-by-sum g.a g.b g.c g.d sum refl)
    & (ap (λ (x : ℕ). g.b ⊕ sum ⊕ x) c.x_times-2.ensures ∙ mix-row-by-sum g.b g.c g.d g.a sum e1)
    & (ap (λ (x : ℕ). g.c ⊕ sum ⊕ x) c.x_times-3.ensures ∙ mix-row-by-sum g.c g.d g.a g.b sum e2)
    & (ap (λ (x : ℕ). g.d ⊕ sum ⊕ x) c.x_times-4.ensures ∙ mix-row-by-sum g.d g.a g.b g.c sum e3)
    & refl
