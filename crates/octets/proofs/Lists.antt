-- Facts about the definitions of specs/Bytes.antt, under the name of the definition that each speaks of.
-- Assumes nothing.
use mathlib.Core.Path.{◌≡◌, refl, sym, ap, ap₂, ◌∙◌, subst}
use mathlib.Core.Bool.{Bool, true, false, ◌&&◌}
use mathlib.Core.List.{List, [], ◌∷◌, ◌++◌, append_assoc, append-nil, map}
use Prim.Native.Nat.{ℕ, zero, suc, ◌+◌, ◌-◌, ◌≤◌, ◌<◌}
use native.Mathlib.Nat.{zero-add, not-suc-le-zero, le_of_suc-le-suc}
use native.Mathlib.Omega.{arith}
use lib.Bits.{bit_xor, xor_lt, xor_zero_r}
use lib.Dec.{T, eqb, eqb→eq}
use lib.ListN.{length, take, drop, get_or, replicate, length-append, length-drop, drop_of_length-le}
use lib.Seq.{take_at, drop_at, drop-drop, length-take-le}
use borrow.Author.Tests.{eq-eqb}
use Rattle.std.specs.List.{fold, zip}
use Rattle.octets.specs.Bytes.{Bytes, Block, tabulate, xor_bytes, overwrite, written, same_bytes}
use Rattle.octets.proofs.Xor.{xor-cancel, xor-undo}
use Rattle.octets.proofs.Table.{and_left, and_right}

-- two lists are the same where their heads and their tails are
infixr 5 ◌&◌
pub ◌&◌ : {x y : ℕ} {s t : List ℕ} → x ≡ y → s ≡ t → ◌≡◌ {A = List ℕ} (x ∷ s) (y ∷ t)
p & q = ap₂ {C = List ℕ} (λ a r. a ∷ r) p q

-- ---- tabulate
pub length-tabulate : (n : ℕ) (f : ℕ → ℕ) → length (tabulate n f) ≡ n
length-tabulate zero f = refl
length-tabulate (suc n) f = ap suc (length-tabulate n (λ k. f (suc k)))

pub get_d_tabulate : (n : ℕ) (f : ℕ → ℕ) (k : ℕ) → k < n → get_or (tabulate n f) k 0 ≡ f k
get_d_tabulate zero f k h = absurd (not-suc-le-zero h)
get_d_tabulate (suc n) f zero h = refl
get_d_tabulate (suc n) f (suc k) h = get_d_tabulate n (λ k. f (suc k)) k (le_of_suc-le-suc h)

pub tabulate-ext : (n : ℕ) (f g : ℕ → ℕ) → ((k : ℕ) → k < n → f k ≡ g k) → tabulate n f ≡ tabulate n g
tabulate-ext zero f g e = refl
tabulate-ext (suc n) f g e = e zero (omega arith) & tabulate-ext n (λ k. f (suc k)) (λ k. g (suc k)) (λ k h. e (suc k) (omega arith))

own-elements : (s : List ℕ) → s ≡ tabulate (length s) (λ k. get_or s k 0)
own-elements [] = refl
own-elements (x ∷ s) = ap {B = List ℕ} (λ r. x ∷ r) (own-elements s)

-- a list of n elements is those elements, written out
pub tabulated : (n : ℕ) (s : List ℕ) → length s ≡ n → s ≡ tabulate n (λ k. get_or s k 0)
tabulated n s h = subst (λ (m : ℕ). s ≡ tabulate m (λ k. get_or s k 0)) h (own-elements s)

-- ---- Bytes
pub bytes-at : (s : List ℕ) → Bytes s → (i : ℕ) → get_or s i 0 < 256
bytes-at [] h i = omega arith
bytes-at (x ∷ s) h zero = h.0
bytes-at (x ∷ s) h (suc i) = bytes-at s h.1 i

pub bytes_of : (s : List ℕ) → ((i : ℕ) → i < length s → get_or s i 0 < 256) → Bytes s
bytes_of [] h = tt
bytes_of (x ∷ s) h = (h zero (omega arith), bytes_of s (λ i l. h (suc i) (omega arith)))

pub bytes-tabulate : (n : ℕ) (f : ℕ → ℕ) → ((k : ℕ) → f k < 256) → Bytes (tabulate n f)
bytes-tabulate zero f h = tt
bytes-tabulate (suc n) f h = (h zero, bytes-tabulate n (λ k. f (suc k)) (λ k. h (suc k)))

pub bytes-map : (f : ℕ → ℕ) → ((x : ℕ) → x < 256 → f x < 256) → (s : List ℕ) → Bytes s → Bytes (map f s)
bytes-map f g [] h = tt
bytes-map f g (x ∷ s) h = (g x h.0, bytes-map f g s h.1)

pub bytes_take : (n : ℕ) (s : List ℕ) → Bytes s → Bytes (take n s)
bytes_take zero s h = tt
bytes_take (suc n) [] h = h
bytes_take (suc n) (x ∷ s) h = (h.0, bytes_take n s h.1)

pub bytes_drop : (n : ℕ) (s : List ℕ) → Bytes s → Bytes (drop n s)
bytes_drop zero s h = h
bytes_drop (suc n) [] h = h
bytes_drop (suc n) (x ∷ s) h = bytes_drop n s h.1

pub bytes-append : (s t : List ℕ) → Bytes s → Bytes t → Bytes (s ++ t)
bytes-append [] t h g = g
bytes-append (x ∷ s) t h g = (h.0, bytes-append s t h.1 g)

pub bytes-replicate : (n x : ℕ) → x < 256 → Bytes (replicate n x)
bytes-replicate zero x h = tt
bytes-replicate (suc n) x h = (h, bytes-replicate n x h)

-- ---- map
pub get_d_map : (f : ℕ → ℕ) (s : List ℕ) (i : ℕ) → i < length s → get_or (map f s) i 0 ≡ f (get_or s i 0)
get_d_map f [] i h = absurd (not-suc-le-zero h)
get_d_map f (x ∷ s) zero h = refl
get_d_map f (x ∷ s) (suc i) h = get_d_map f s i (le_of_suc-le-suc h)

-- ---- xor_bytes
pub xor-bytes-undo : (s t : List ℕ) → xor_bytes (xor_bytes s t) t ≡ s
xor-bytes-undo [] t = refl
xor-bytes-undo (x ∷ s) [] = refl
xor-bytes-undo (x ∷ s) (y ∷ t) = xor-undo x y & xor-bytes-undo s t

pub xor-bytes-cancel : (s t : List ℕ) → length s ≡ length t → xor_bytes s (xor_bytes s t) ≡ t
xor-bytes-cancel [] [] l = refl
xor-bytes-cancel [] (y ∷ t) l = absurd (omega (arith, l))
xor-bytes-cancel (x ∷ s) [] l = absurd (omega (arith, l))
xor-bytes-cancel (x ∷ s) (y ∷ t) l = xor-cancel x y & xor-bytes-cancel s t (omega (arith, l))

pub xor-zeros : (s : List ℕ) (n : ℕ) → xor_bytes s (replicate n 0) ≡ s
xor-zeros [] n = refl
xor-zeros (x ∷ s) zero = refl
xor-zeros (x ∷ s) (suc n) = xor_zero_r x & xor-zeros s n

pub length-xor-bytes : (s t : List ℕ) → length (xor_bytes s t) ≡ length s
length-xor-bytes [] t = refl
length-xor-bytes (x ∷ s) [] = refl
length-xor-bytes (x ∷ s) (y ∷ t) = ap suc (length-xor-bytes s t)

pub bytes-xor-bytes : (s t : List ℕ) → Bytes s → Bytes t → Bytes (xor_bytes s t)
bytes-xor-bytes [] t h g = h
bytes-xor-bytes (x ∷ s) [] h g = h
bytes-xor-bytes (x ∷ s) (y ∷ t) h g = (xor_lt 8 x y h.0 g.0, bytes-xor-bytes s t h.1 g.1)

pub get_d-xor-bytes : (s t : List ℕ) (i : ℕ) → i < length s → i < length t → get_or (xor_bytes s t) i 0 ≡ bit_xor (get_or s i 0) (get_or t i 0)
get_d-xor-bytes [] t i h g = absurd (not-suc-le-zero h)
get_d-xor-bytes (x ∷ s) [] i h g = absurd (not-suc-le-zero g)
get_d-xor-bytes (x ∷ s) (y ∷ t) zero h g = refl
get_d-xor-bytes (x ∷ s) (y ∷ t) (suc i) h g = get_d-xor-bytes s t i (le_of_suc-le-suc h) (le_of_suc-le-suc g)

-- the exclusive-or of two lists of one length, place by place
pub xored : (s t : List ℕ) (n : ℕ) → length s ≡ n → length t ≡ n → xor_bytes s t ≡ tabulate n (λ i. bit_xor (get_or s i 0) (get_or t i 0))
xored s t n ls lt =
    tabulated n (xor_bytes s t) (length-xor-bytes s t ∙ ls)
    ∙ tabulate-ext n (λ k. get_or (xor_bytes s t) k 0) (λ k. bit_xor (get_or s k 0) (get_or t k 0))
    (λ k h. get_d-xor-bytes s t k (omega (arith, ls)) (omega (arith, lt)))

pub xor_block : (s t : List ℕ) → Block s → Bytes t → Block (xor_bytes s t)
xor_block s t h g = record { long = length-xor-bytes s t ∙ h.long; bytes = bytes-xor-bytes s t h.bytes g }

-- ---- overwrite
module _ (s : List ℕ) (at : ℕ) (t : List ℕ) (fits : at + length t ≤ length s) where
  head-long : length (take at s ++ t) ≡ at + length t
  head-long = omega (arith, length-append (take at s) t, length-take-le at s (omega arith))

  pub length-overwrite : length (overwrite s at t) ≡ length s
  length-overwrite =
      omega (arith, length-append (take at s ++ t) (drop (at + length t) s), head-long, length-drop (at + length t) s)

  pub take-overwrite : take (at + length t) (overwrite s at t) ≡ take at s ++ t
  take-overwrite =
      take_at (take at s ++ t) (drop (at + length t) s) (at + length t) head-long

  pub drop-overwrite : drop (at + length t) (overwrite s at t) ≡ drop (at + length t) s
  drop-overwrite =
      drop_at (take at s ++ t) (drop (at + length t) s) (at + length t) head-long

-- bytes written directly after others are written as one
pub overwrite-next : (s : List ℕ) (at n : ℕ) (t u : List ℕ) → n ≡ at + length t → n + length u ≤ length s
    → overwrite (overwrite s at t) n u ≡ overwrite s at (t ++ u)
overwrite-next s at n t u e h =
    ap (λ (m : ℕ). overwrite (overwrite s at t) m u) e
    ∙ ap₂ (λ (p q : List ℕ). p ++ u ++ q) (take-overwrite s at t fits) rest
    ∙ ap (λ (p : List ℕ). p ++ drop (at + length (t ++ u)) s) (append_assoc (take at s) t u)
  where
    fits : at + length t ≤ length s
    fits = omega arith

    more : (at + length t) + length u ≡ at + length (t ++ u)
    more = omega (arith, length-append t u)

    rest : drop ((at + length t) + length u) (overwrite s at t) ≡ drop (at + length (t ++ u)) s
    rest =
        sym (drop-drop (length u) (at + length t) (overwrite s at t))
        ∙ ap (drop (length u)) (drop-overwrite s at t fits)
        ∙ drop-drop (length u) (at + length t) s
        ∙ ap (λ (m : ℕ). drop m s) more

-- after what was written
pub drop-overwrite-behind : (s : List ℕ) (at : ℕ) (t : List ℕ) (m : ℕ) → at + length t ≤ m → m ≤ length s → drop m (overwrite s at t) ≡ drop m s
drop-overwrite-behind s at t m h l =
    ap (λ (k : ℕ). drop k (overwrite s at t)) more
    ∙ sym (drop-drop (m - (at + length t)) (at + length t) (overwrite s at t))
    ∙ ap (drop (m - (at + length t))) (drop-overwrite s at t (omega arith))
    ∙ drop-drop (m - (at + length t)) (at + length t) s
    ∙ ap (λ (k : ℕ). drop k s) (sym more)
  where
    more : m ≡ (at + length t) + (m - (at + length t))
    more = omega arith

-- what was written
pub overwritten : (s : List ℕ) (at : ℕ) (t : List ℕ) → at + length t ≤ length s → take (length t) (drop at (overwrite s at t)) ≡ t
overwritten s at t h =
    ap (λ (r : List ℕ). take (length t) (drop at r)) (append_assoc (take at s) t (drop (at + length t) s))
    ∙ ap (take (length t)) (drop_at (take at s) (t ++ drop (at + length t) s) at (length-take-le at s (omega arith)))
    ∙ take_at t (drop (at + length t) s) (length t) refl

-- a list written directly after another
pub overwrite-behind : (x r t : List ℕ) (n : ℕ) → length x ≡ n → overwrite (x ++ r) n t ≡ (x ++ t) ++ drop (length t) r
overwrite-behind x r t n h =
    ap₂ (λ (p q : List ℕ). p ++ t ++ q) (take_at x r n h)
    (sym (drop-drop (length t) n (x ++ r)) ∙ ap (drop (length t)) (drop_at x r n h))

-- a list written from the start
pub overwrite-start : (s t : List ℕ) → overwrite s 0 t ≡ written t s
overwrite-start s t = ap (λ (k : ℕ). t ++ drop k s) (zero-add (length t))

-- a list written over all of another
pub overwrite-whole : (s t : List ℕ) → length t ≡ length s → overwrite s 0 t ≡ t
overwrite-whole s t h = ap (λ (r : List ℕ). t ++ r) (drop_of_length-le s {i = 0 + length t} (omega arith)) ∙ append-nil t

-- ---- same_bytes
pub same_refl : (s : List ℕ) → same_bytes s s ≡ true
same_refl [] = refl
same_refl (x ∷ s) = ap₂ ◌&&◌ (eq-eqb x x refl) (same_refl s)

pub same-eq : (s t : List ℕ) → same_bytes s t ≡ true → s ≡ t
same-eq s t e = from-test s t (subst T (sym e) tt)
  where
    from-test : (s t : List ℕ) → T (same_bytes s t) → s ≡ t
    from-test [] [] h = refl
    from-test [] (y ∷ t) h = absurd h
    from-test (x ∷ s) [] h = absurd h
    from-test (x ∷ s) (y ∷ t) h =
        eqb→eq x y (and_left (eqb x y) (same_bytes s t) h) & from-test s t (and_right (eqb x y) (same_bytes s t) h)

pub same-lengths : (s t : List ℕ) → (length s ≡ length t → ⊥) → same_bytes s t ≡ false
same-lengths [] [] h = absurd (h refl)
same-lengths [] (y ∷ t) h = refl
same-lengths (x ∷ s) [] h = refl
same-lengths (x ∷ s) (y ∷ t) h = rw (same-lengths s t (λ e. h (ap suc e))) (and-false (eqb x y))
  where
    and-false : (a : Bool) → (a && false) ≡ false
    and-false true = refl
    and-false false = refl

-- the answer over the bytes in pairs, each pair after those before it
pub same-fold : (s t : List ℕ) (b : Bool) → length s ≡ length t → fold (λ r p. r && eqb p.0 p.1) b (zip s t) ≡ (b && same_bytes s t)
same-fold [] [] true l = refl
same-fold [] [] false l = refl
same-fold [] (y ∷ t) b l = absurd (omega (arith, l))
same-fold (x ∷ s) [] b l = absurd (omega (arith, l))
same-fold (x ∷ s) (y ∷ t) b l = same-fold s t (b && eqb x y) (omega (arith, l)) ∙ and-and b (eqb x y) (same_bytes s t)
  where
    and-and : (p q r : Bool) → ((p && q) && r) ≡ (p && (q && r))
    and-and true q r = refl
    and-and false q r = refl
