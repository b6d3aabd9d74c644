-- `same` compares: the slices are the same exactly if they are of one length and each byte agrees.
-- Assumes nothing.
use Rattle.std.proofs.Common.{rules, tests}
use Rattle.std.proofs.lemmas.Iterator.{YieldsList-from_slice, YieldsList-from_zip}
use Rattle.std.proofs.lemmas.Iterator.Consumers.{fold_from_yields_List}
use mathlib.Core.Path.{sym, ◌∙◌}
use mathlib.Core.Bool.{true, ◌&&◌}
use mathlib.Core.List.{List}
use Prim.Native.Nat.{ℕ}
use lib.Dec.{eqb}
use Rattle.octets.proofs.Lists.{same-lengths, same-fold}
use Rattle.octets.proofs.same.Goals as goal

pub returns-then-a-b : goal.returns-then-a-b
returns-then-a-b c = sym (same-lengths c.args.a.now c.args.b.now c.if-a-b.true)

pub returns : goal.returns
returns c = let a : List ℕ = c.args.a.now in
    let b : List ℕ = c.args.b.now in
    fold_from_yields_List _ (λ r p. r && eqb p.0 p.1) true c.fold.result c.fold.ensures.ran
    (YieldsList-from_zip (YieldsList-from_slice a cc) (YieldsList-from_slice b cc))
    (λ r x t q k. search (rules, tests))
    ∙ same-fold a b true (search rules)
