-- A loop that fills a list of n elements from the front: after turn i the first i elements are those of the list that is wanted, and at
-- the end all are.
-- Assumes nothing.
use mathlib.Core.Path.{◌≡◌, refl, sym, ap, ap₂, ◌∙◌, subst}
use mathlib.Core.List.{List, [], ◌∷◌, ◌++◌}
use Prim.Native.Nat.{ℕ, ◌+◌, ◌≤◌, ◌<◌}
use native.Mathlib.Numerals.{add-one}
use native.Mathlib.Omega.{arith}
use lib.ListN.{length, take, drop, get_or, set, length-set}
use lib.Seq.{take-add, take-suc, take-suc-set, take_all}
use Rattle.octets.specs.Bytes.{overwrite}
use Rattle.octets.proofs.Lists.{length-overwrite, take-overwrite}

-- the loop's invariant: r holds the first i of the n elements of want
pub record Filled (n : ℕ) (want r : List ℕ) (i : ℕ) : Type 0 where
  pub front : take i r ≡ take i want
  pub long : length r ≡ n
  pub wanted : length want ≡ n
  pub within : i ≤ n

-- one more element, in a list that may go on after what is wanted
pub front-more : (r want : List ℕ) (i v : ℕ) → i < length r → i < length want → take i r ≡ take i want → v ≡ get_or want i 0
    → take (i + 1) (set r i v) ≡ take (i + 1) want
front-more r want i v hr hw e ev =
    ap (λ (k : ℕ). take k (set r i v)) (add-one i)
    ∙ take-suc-set r i v hr
    ∙ ap₂ (λ (p : List ℕ) (x : ℕ). p ++ (x ∷ [])) e ev
    ∙ sym (take-suc want i 0 hw)
    ∙ ap (λ (k : ℕ). take k want) (sym (add-one i))

module _ {n : ℕ} {want : List ℕ} where
  pub filled_none : {r : List ℕ} → length r ≡ n → length want ≡ n → Filled n want r 0
  filled_none h g = record { front = refl; long = h; wanted = g; within = omega arith }

  pub filled-one : {r : List ℕ} {i : ℕ} (v : ℕ) → Filled n want r i → i < n → v ≡ get_or want i 0 → Filled n want (set r i v) (i + 1)
  filled-one {r} {i} v f h e =
      record {
        front = front-more r want i v (omega (arith, f.long)) (omega (arith, f.wanted)) f.front e;
        long = length-set r i v ∙ f.long;
        wanted = f.wanted;
        within = omega arith;
      }

  -- four elements in one turn
  pub filled-four : {r : List ℕ} {i : ℕ} (v₀ v₁ v₂ v₃ : ℕ) → Filled n want r i → i + 4 ≤ n
      → v₀ ≡ get_or want i 0 → v₁ ≡ get_or want (i + 1) 0 → v₂ ≡ get_or want (i + 2) 0 → v₃ ≡ get_or want (i + 3) 0
      → Filled n want (set (set (set (set r i v₀) (i + 1) v₁) (i + 2) v₂) (i + 3) v₃) (i + 4)
  filled-four {r} {i} v₀ v₁ v₂ v₃ f h e₀ e₁ e₂ e₃ =
      next (i + 3) (i + 4) v₃ (omega arith) (omega arith) e₃
      (next (i + 2) (i + 3) v₂ (omega arith) (omega arith) e₂
      (next (i + 1) (i + 2) v₁ (omega arith) (omega arith) e₁
      (filled-one v₀ f (omega arith) e₀)))
    where
      next : {x : List ℕ} (k m v : ℕ) → m ≡ k + 1 → k < n → v ≡ get_or want k 0 → Filled n want x k → Filled n want (set x k v) m
      next {x} k m v em hk ev fx = subst (λ (j : ℕ). Filled n want (set x k v) j) (sym em) (filled-one v fx hk ev)

  -- a part of the wanted list in one turn
  pub filled-part : {r : List ℕ} {i : ℕ} (t : List ℕ) (j : ℕ) → Filled n want r i → j ≡ i + length t → j ≤ n → t ≡ take (length t) (drop i want)
      → Filled n want (overwrite r i t) j
  filled-part {r} {i} t j f e h et =
      record {
        front =
            ap (λ (k : ℕ). take k (overwrite r i t)) e
            ∙ take-overwrite r i t (omega (arith, e, f.long))
            ∙ ap₂ (λ (p q : List ℕ). p ++ q) f.front et
            ∙ sym (take-add i (length t) want)
            ∙ ap (λ (k : ℕ). take k want) (sym e);
        long = length-overwrite r i t (omega (arith, e, f.long)) ∙ f.long;
        wanted = f.wanted;
        within = h;
      }

  pub filled-all : {r : List ℕ} {i : ℕ} → Filled n want r i → n ≤ i → r ≡ want
  filled-all {r} {i} f h = sym (take_all i r (omega (arith, f.long))) ∙ f.front ∙ take_all i want (omega (arith, f.wanted))
