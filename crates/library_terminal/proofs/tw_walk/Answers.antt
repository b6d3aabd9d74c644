-- WALK for callers in C: the report's three numbers, one by one.
-- Assumes nothing.
use mathlib.Core.Path.{◌≡◌, ◌∙◌}
use Prim.Native.Nat.{ℕ}
use Rattle.template_walk.specs.Walk.{WalkOut}
use Rattle.library_terminal.proofs.tw_walk.Goals as goal

abbrev out : ℕ → ℕ → ℕ → WalkOut
out n m k = record { refusal = n; count = m; offset = k }

by_number : {n n' m m' k k' : ℕ} → n ≡ n' → m ≡ m' → k ≡ k' → out n m k ≡ out n' m' k'
by_number p q r = rw (p, q, r)

pub returns : goal.returns
returns c = by_number c.refusal-refusal.ensures c.count-count.ensures c.fault_offset-fault_offset.ensures ∙ c.walk-w.ensures.1
