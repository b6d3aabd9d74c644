-- An array that is made by calls at its indices, or by a call at each element of another: what each call gives is what the array has.
-- The calls change nothing that they read.
-- Assumes nothing.
use Rattle.std.specs.Array.{IsFromFnResult, IsFromFnResultFrom, IsMapOf, MapsFrom}
use denote.Param.Members.{Mut, Called}
use mathlib.Core.Path.{◌≡◌, sym, ap, ◌∙◌, subst}
use mathlib.Core.List.{List, map}
use Prim.Native.Nat.{ℕ, zero, suc, ◌+◌, ◌<◌}
use native.Mathlib.Nat.{not-suc-le-zero}
use native.Mathlib.Omega.{arith}
use lib.ListN.{length, get_or, length-map, get_or-map}
use Rattle.std.proofs.lemmas.List.{ext_get_or}
use Rattle.octets.specs.Bytes.{tabulate}
use Rattle.octets.proofs.Lists.{tabulated, tabulate-ext}

module _ {F : Type 0} (g : Mut F (ℕ × Unit {0}) ℕ) (h : ℕ → ℕ) (f : F) (ys : List ℕ) where
  -- each call from i on gives what h does of its index, and leaves the closure as it was
  from : (i n j k : ℕ) → j ≡ i + k → k < n → ((m r : ℕ) (q : F) → m < i + n → Called g f (m, tt) r q → (q ≡ f) × (r ≡ h m)) → IsFromFnResultFrom g f ys i n
      → get_or ys j 0 ≡ h j
  from i zero j k e l each made = absurd (not-suc-le-zero l)
  from i (suc n) j zero e l each made =
      let here : j ≡ i = omega (arith, e) in
      subst (λ (m : ℕ). get_or ys m 0 ≡ h m) (sym here) (made.2.1 0 ∙ (each i made.1 made.0 (omega arith) made.3).1)
  from i (suc n) j (suc k) e l each made =
      from (i + 1) n j k (omega (arith, e)) (omega arith) (λ m r q less. each m r q (omega arith))
      (subst (λ (q : F). IsFromFnResultFrom g q ys (i + 1) n) (each i made.1 made.0 (omega arith) made.3).0 made.4)

  pub made_by : (n : ℕ) → IsFromFnResult g f ys n → ((m r : ℕ) (q : F) → m < n → Called g f (m, tt) r q → (q ≡ f) × (r ≡ h m)) → ys ≡ tabulate n h
  made_by n made each =
      tabulated n ys made.long
      ∙ tabulate-ext n (λ k. get_or ys k 0) h
      (λ k l. from 0 n k k (omega arith) l (λ m r q less. each m r q (omega arith)) made.each)

module _ {F A B : Type 0} (g : Mut F (A × Unit {0}) B) (h : A → B) (f : F) (xs : List A) (ys : List B) where
  -- the same of calls at the elements
  over : (d : A) (e : B) (i n j k : ℕ) → j ≡ i + k → k < n → ((x : A) (r : B) (q : F) → Called g f (x, tt) r q → (q ≡ f) × (r ≡ h x)) → MapsFrom g f xs ys i n
      → get_or ys j e ≡ h (get_or xs j d)
  over d e i zero j k p l each made = absurd (not-suc-le-zero l)
  over d e i (suc n) j zero p l each made =
      let here : j ≡ i = omega (arith, p) in
      subst (λ (m : ℕ). get_or ys m e ≡ h (get_or xs m d)) (sym here)
      (made.4.1 e ∙ (each made.1 made.2 made.0 made.5).1 ∙ ap h (sym (made.3.1 d)))
  over d e i (suc n) j (suc k) p l each made =
      over d e (i + 1) n j k (omega (arith, p)) (omega arith) each
      (subst (λ (q : F). MapsFrom g q xs ys (i + 1) n) (each made.1 made.2 made.0 made.5).0 made.6)

  pub mapped_by : (d : A) (n : ℕ) → length xs ≡ n → IsMapOf g f xs ys n → ((x : A) (r : B) (q : F) → Called g f (x, tt) r q → (q ≡ f) × (r ≡ h x)) → ys ≡ map h xs
  mapped_by d n long made each =
      let l : length ys ≡ n = made.long in
      let m : length (map h xs) ≡ length xs = length-map xs h in
      ext_get_or (h d) ys (map h xs) (omega (arith, l, m, long))
      (λ k less. over d (h d) 0 n k k (omega arith) (omega (arith, l)) each made.each ∙ sym (get_or-map h xs k d))
