-- Facts about the definitions of specs/Walk.antt: a field and the place of a fault lie within their sequence, a sequence has no more fields than
-- bytes, and the bound on the number of fields does not matter.
-- Assumes nothing.
use mathlib.Core.Path.{◌≡◌, refl, sym, ap, ◌∙◌}
use mathlib.Core.Bool.{cond}
use mathlib.Core.List.{List, []}
use Prim.Native.Nat.{ℕ, zero, suc, ◌+◌, ◌-◌, ◌≤◌}
use native.Mathlib.Nat.{zero-add, add_assoc}
use native.Mathlib.Omega.{arith}
use lib.Dec.{ltb, eqb}
use lib.ListN.{length, take, drop, length-take, length-drop}
use borrow.Author.Tests.{ltb-false, eq-eqb, ne_eqb}
use Rattle.template_rules.specs.declared.Head.{Head}
use Rattle.std.specs.Prelude.{Option, Some, None}
use Rattle.template_rules.specs.Template.{read_head, tag_of, is_template}
use Rattle.template_rules.proofs.HeadFacts.{by-test, Within, head-within}
use Rattle.std.specs.Prelude.{Ok, Err}
use Rattle.template_walk.specs.Walk.{Walked, Field, refused, as_field, field_with, read_field, plus, and_then, fields_of, template_of, sequence_of, walk_of}

-- ---- plus
pub plus_none : (w : Walked) → plus 0 0 w ≡ w
plus_none (Ok n) = ap Ok (zero-add n)
plus_none (Err r) = ap (refused r.fault) (zero-add r.place)

pub plus-plus : (a i b j : ℕ) (w : Walked) → plus a i (plus b j w) ≡ plus (a + b) (i + j) w
plus-plus a i b j (Ok n) = ap Ok (sym (add_assoc a b n))
plus-plus a i b j (Err r) = ap (refused r.fault) (sym (add_assoc i j r.place))

-- ---- what n bytes can come to: no more fields than bytes, or a fault at a place among them
abbrev pub Fits : ℕ → Walked → Type 0
Fits n (Ok c) = c ≤ n
Fits n (Err r) = r.place ≤ n

-- ---- read_field: a field takes at least 2 bytes of s, counts no more fields than it has bytes, and its fault has a place in s
abbrev pub Inside : List ℕ → Field → Type 0
Inside s (Ok w) = (2 ≤ w.bytes) × (w.bytes ≤ length s) × (w.fields ≤ w.bytes)
Inside s (Err r) = r.place ≤ length s

-- a template with a head of h bytes and the value v: its length, and where its fault may be
abbrev pub IsTemplate : ℕ → List ℕ → Field → Type 0
IsTemplate h v (Ok w) = (w.bytes ≡ h + length v) × (w.fields ≤ w.bytes)
IsTemplate h v (Err r) = r.place ≤ h + length v

template-inside : (s : List ℕ) (h : ℕ) (v : List ℕ) (f : Field) → 2 ≤ h → h + length v ≤ length s → IsTemplate h v f → Inside s f
template-inside s h v (Ok w) p q i = (omega (arith, i.0), omega (arith, i.0), i.1)
template-inside s h v (Err r) p q i = omega (arith, i)

as-template : (h : ℕ) (v : List ℕ) (w : Walked) → Fits (length v) w → IsTemplate h v (as_field h v w)
as-template h v (Ok n) g = (refl, omega (arith, g))
as-template h v (Err r) g = omega (arith, g)

module _ (inside : ℕ → List ℕ → Field) (few : (h : ℕ) (v : List ℕ) → IsTemplate h v (inside h v)) where
  with-inside : (s : List ℕ) (h : Option Head) → Within s h → Inside s (field_with inside s h)
  unfolding field_with
  with-inside s None w = omega arith
  with-inside s (Some r) w =
      let h = r.head_bytes in
      let n = r.value_bytes in
      by-test (Inside s) (ltb (length s) (h + n)) (λ _. omega arith) (λ e.
      let ends : h + n ≤ length s = ltb-false (length s) (h + n) e in
      let short : length (take n (drop h s)) ≤ n = simp length-take (omega arith) in
      by-test (Inside s) (is_template (tag_of s))
      (λ _. template-inside s h (take n (drop h s)) (inside h (take n (drop h s))) (omega arith) (omega (arith, short, ends)) (few h (take n (drop h s))))
      (λ _. (omega arith, ends, omega arith)))

  pub field-inside : (s : List ℕ) → Inside s (read_field inside s)
  field-inside s = with-inside s (read_head s) (head-within s)

  -- ---- and_then
  then-few : (s : List ℕ) (f : Field) (rest : ℕ → Walked) → Inside s f → ((b : ℕ) → Fits (length (drop b s)) (rest b))
      → Fits (length s) (and_then f rest)
  then-few s (Ok f) rest i h = plus-few (rest f.bytes) (rw length-drop at (h f.bytes))
    where
      plus-few : (w : Walked) → Fits (length s - f.bytes) w → Fits (length s) (plus f.fields f.bytes w)
      plus-few (Ok n) g = omega (arith, g, i)
      plus-few (Err r) g = omega (arith, g, i)
  then-few s (Err r) rest i h = i

  then_same : (s : List ℕ) (f : Field) (r r' : ℕ → Walked) → Inside s f → ((b : ℕ) → 2 ≤ b → b ≤ length s → r b ≡ r' b)
      → and_then f r ≡ and_then f r'
  then_same s (Ok f) r r' i h = ap (plus f.fields f.bytes) (h f.bytes i.0 i.1)
  then_same s (Err e) r r' i h = refl

  -- ---- fields_of
  pub fields-few : (n : ℕ) (s : List ℕ) → Fits (length s) (fields_of inside n s)
  unfolding fields_of
  fields-few zero s = omega arith
  fields-few (suc n) s =
      by-test (λ (w : Walked). Fits (length s) w) (eqb (length s) 0) (λ _. omega arith)
      (λ _. then-few s (read_field inside s) (λ (b : ℕ). fields_of inside n (drop b s)) (field-inside s) (λ b. fields-few n (drop b s)))

  -- as many fields as there are bytes are enough
  pub fields-enough : (m n : ℕ) (s : List ℕ) → length s ≤ m → length s ≤ n → fields_of inside m s ≡ fields_of inside n s
  unfolding fields_of
  fields-enough zero zero s p q = refl
  fields-enough zero (suc n) s p q = rw (eq-eqb (length s) 0 (omega arith))
  fields-enough (suc m) zero s p q = rw (eq-eqb (length s) 0 (omega arith))
  fields-enough (suc m) (suc n) s p q =
      ap (cond (eqb (length s) 0) (Ok 0))
      (then_same s (read_field inside s) (λ (b : ℕ). fields_of inside m (drop b s)) (λ (b : ℕ). fields_of inside n (drop b s))
      (field-inside s)
      (λ b l g. fields-enough m n (drop b s) (simp length-drop (omega arith)) (simp length-drop (omega arith))))

  pub fields-step : (n : ℕ) (s : List ℕ) → length s ≡ n → (n ≡ 0 → ⊥)
      → fields_of inside n s ≡ and_then (read_field inside s) (λ (b : ℕ). fields_of inside (length (drop b s)) (drop b s))
  unfolding fields_of
  fields-step zero s e h = absurd (h refl)
  fields-step (suc n) s e h =
      rw (ne_eqb (length s) 0 (λ z. h (sym e ∙ z)))
      (then_same s (read_field inside s) (λ (b : ℕ). fields_of inside n (drop b s))
      (λ (b : ℕ). fields_of inside (length (drop b s)) (drop b s)) (field-inside s)
      (λ b l g. fields-enough n (length (drop b s)) (drop b s) (simp length-drop (omega arith)) (omega arith)))

-- ---- template_of, sequence_of
pub template-few : (levels h : ℕ) (v : List ℕ) → IsTemplate h v (template_of levels h v)
unfolding template_of
template-few zero h v = omega arith
template-few (suc d) h v = as-template h v (sequence_of d v) (fields-few (template_of d) (template-few d) (length v) v)

pub sequence-few : (levels : ℕ) (s : List ℕ) → Fits (length s) (sequence_of levels s)
sequence-few d s = fields-few (template_of d) (template-few d) (length s) s

pub sequence-empty : (levels : ℕ) (s : List ℕ) → length s ≡ 0 → sequence_of levels s ≡ Ok 0
unfolding fields_of
sequence-empty d s e = rw e

pub sequence-step : (levels : ℕ) (s : List ℕ) → (length s ≡ 0 → ⊥)
    → sequence_of levels s ≡ and_then (read_field (template_of levels) s) (λ (b : ℕ). sequence_of levels (drop b s))
sequence-step d s h = fields-step (template_of d) (template-few d) (length s) s refl h

-- empty input counts 0
pub walk-empty : walk_of [] ≡ Ok 0
walk-empty = sequence-empty 4 [] refl
