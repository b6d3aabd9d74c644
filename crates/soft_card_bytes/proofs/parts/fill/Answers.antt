-- The bytes are filled one by one. Invariant: those passed are the first of `fit`.
-- Assumes nothing.
use mathlib.Core.Path.{◌≡◌, refl, sym, ap, ◌∙◌}
use mathlib.Core.List.{List, [], ◌∷◌, ◌++◌}
use Prim.Native.Nat.{ℕ, zero, suc, ◌+◌, ◌<◌}
use native.Mathlib.Numerals.{add-one}
use native.Mathlib.Omega.{arith}
use lib.ListN.{length, take, get_or, set}
use lib.Seq.{take-suc-set}
use Rattle.octets.specs.Bytes.{tabulate}
use Rattle.record_rules.specs.Parse.{fit}
use Rattle.soft_card_bytes.proofs.parts.fill.Goals as goal

-- ---- fit: one byte more
tabulate-suc : (n : ℕ) (f : ℕ → ℕ) → tabulate (suc n) f ≡ tabulate n f ++ (f n ∷ [])
tabulate-suc zero f = refl
tabulate-suc (suc n) f = ap {B = List ℕ} (λ r. f 0 ∷ r) (tabulate-suc n (λ k. f (suc k)))

fit-suc : (x dst : List ℕ) (i : ℕ) → i < length dst → take i dst ≡ fit i x
    → take (i + 1) (set dst i (get_or x i 0)) ≡ fit (i + 1) x
fit-suc x dst i h e =
    rw (add-one i)
    (take-suc-set dst i (get_or x i 0) h
    ∙ ap (λ (l : List ℕ). l ++ (get_or x i 0 ∷ [])) e
    ∙ sym (tabulate-suc i (λ k. get_or x k 0)))

pub loop-i-preserved : goal.loop-i-preserved
loop-i-preserved c = rw c.byte_at.ensures (fit-suc c.behind-source.result.now c.loop-i.dst c.loop-i.i (omega arith) c.loop-i.invariant)
