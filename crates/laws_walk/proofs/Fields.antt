-- What the reader of Finding gives for a list that begins with a field, by the field: whole, in its value, too deep, too long, or none at all.
-- Assumes nothing.
use mathlib.Core.Path.{◌≡◌, refl, sym, ap, ap₂, ◌∙◌}
use mathlib.Core.Bool.{true, false, cond}
use mathlib.Core.List.{List, [], ◌∷◌, ◌++◌, append_assoc}
use Prim.Native.Nat.{ℕ, zero, suc, ◌+◌, ◌≤◌, ◌<◌}
use native.Mathlib.Omega.{arith}
use lib.Dec.{ltb}
use lib.ListN.{length, take, drop, length-append}
use lib.Seq.{take-append-le, take-length, drop-append_seam}
use borrow.Author.Tests.{lt-ltb, le-ltb}
use Rattle.template_rules.specs.declared.Head.{Head}
use Rattle.std.specs.Prelude.{Option, Some, None}
use Rattle.template_rules.specs.Template.{head_of, read_head, tag_of, is_template, field_head, field, HeadSays}
use Rattle.template_rules.proofs.HeadFacts.{read_length, length-read}
use Rattle.template_walk.specs.declared.Fault.{Fault}
use Rattle.template_walk.specs.declared.Fault.TheVariants.{Malformed, TooDeep}
use Rattle.std.specs.Prelude.{Ok}
use Rattle.template_walk.specs.Walk.{Walked, refused, plus}
use Rattle.laws_walk.proofs.Finding.{into, within, step, found}

-- the reader gives w for s, whatever the number of steps that it may take, if that is enough
abbrev pub Finds : ℕ → List ℕ → Walked → Type 0
Finds levels s w = (fuel : ℕ) → length s ≤ fuel → found fuel levels s ≡ w

pub finds-none : (levels : ℕ) → Finds levels [] (Ok 0)
unfolding found
finds-none levels zero p = refl
finds-none levels (suc fuel) p = refl

-- ---- no head
no-head : (s : List ℕ) (r : Option Head) → read_head s ≡ r → HeadSays s None → read_head s ≡ None
no-head s None e h = e
no-head s (Some r) e h = absurd (let l = length-read s r.head_bytes r.value_bytes e in h (tag_of s) r.value_bytes (drop r.head_bytes s) l.0 l.2)

pub finds-head : (levels : ℕ) (s : List ℕ) → 1 ≤ length s → HeadSays s None → Finds levels s (refused Malformed 0)
unfolding found
finds-head levels s l h zero p = absurd (omega arith)
finds-head levels [] l h (suc fuel) p = absurd (omega arith)
finds-head levels (x ∷ s) l h (suc fuel) p = rw (no-head (x ∷ s) (read_head (x ∷ s)) refl h)

-- ---- an end behind that of the list
pub finds-over : (levels tag n : ℕ) (rest : List ℕ) → n < 256 → length rest < n → Finds levels (field_head tag n ++ rest) (refused Malformed 0)
unfolding found
finds-over levels tag n rest b l zero p = absurd (omega arith)
finds-over levels tag n rest b l (suc fuel) p =
    rw (
      read_length tag n rest b,
      lt-ltb (length (field_head tag n ++ rest)) (length (field_head tag n) + n) (omega (arith, length-append (field_head tag n) rest)),
    )

-- ---- a field that is there
module _ (tag : ℕ) (v rest : List ℕ) (brief : length v < 256) where
  h : ℕ
  h = length (field_head tag (length v))

  s : List ℕ
  s = field tag v ++ rest

  long : length (field tag v) ≡ h + length v
  unfolding h
  long = length-append (field_head tag (length v)) v

  together : length s ≡ h + length v + length rest
  unfolding s
  together = length-append (field tag v) rest ∙ ap (λ (n : ℕ). n + length rest) long

  shorter : suc (length v + length rest) ≤ length s
  unfolding h
  shorter = omega (arith, together)

  grouped : s ≡ field_head tag (length v) ++ (v ++ rest)
  unfolding s
  grouped = append_assoc (field_head tag (length v)) v rest

  head-is : read_head s ≡ head_of h (length v)
  unfolding h
  head-is = ap read_head grouped ∙ read_length tag (length v) (v ++ rest) brief

  ends : ltb (length s) (h + length v) ≡ false
  ends = le-ltb (length s) (h + length v) (omega (arith, together))

  value : take (length v) (drop h s) ≡ v
  unfolding h
  value =
      ap (λ (t : List ℕ). take (length v) (drop h t)) grouped
      ∙ rw (drop-append_seam (field_head tag (length v)) (v ++ rest), take-append-le (length v) v rest (omega arith)) (take-length v)

  behind : drop (h + length v) s ≡ rest
  unfolding s
  behind = ap (λ (n : ℕ). drop n s) (sym long) ∙ drop-append_seam (field tag v) rest

  opened : (again : ℕ → List ℕ → Walked) (levels : ℕ) → step again levels s (read_head s)
      ≡ cond (is_template (tag_of s)) (into (within again levels h v) (h + length v) (again levels rest)) (plus 1 (h + length v) (again levels rest))
  opened again levels = rw (head-is, ends, value, behind)

  -- no template, and then what follows
  pub finds-leaf : (levels : ℕ) (w : Walked) → is_template tag ≡ false → Finds levels rest w
      → Finds levels (field tag v ++ rest) (plus 1 (length (field tag v)) w)
  unfolding found s
  finds-leaf levels w t r zero p = absurd (omega arith)
  finds-leaf levels w t r (suc fuel) p =
      opened (found fuel) levels ∙ rw (t, r fuel (omega (arith, shorter)), long)

  -- a template whose value is read, and then what follows
  pub finds-template : (levels c : ℕ) (w : Walked) → is_template tag ≡ true → Finds levels v (Ok c) → Finds (suc levels) rest w
      → Finds (suc levels) (field tag v ++ rest) (plus c (length (field tag v)) w)
  unfolding found s
  finds-template levels c w t i r zero p = absurd (omega arith)
  finds-template levels c w t i r (suc fuel) p =
      opened (found fuel) (suc levels)
      ∙ rw (t, i fuel (omega (arith, shorter)), r fuel (omega (arith, shorter)), long)

  -- a template whose value has a fault
  pub finds-inside : (levels : ℕ) (f : Fault) (k : ℕ) → is_template tag ≡ true → Finds levels v (refused f k)
      → Finds (suc levels) (field tag v ++ rest) (refused f (length (field_head tag (length v)) + k))
  unfolding found s h
  finds-inside levels f k t i zero p = absurd (omega arith)
  finds-inside levels f k t i (suc fuel) p = opened (found fuel) (suc levels) ∙ rw (t, i fuel (omega (arith, shorter)))

  -- a template where none may stand
  pub finds-deep : is_template tag ≡ true → Finds 0 (field tag v ++ rest) (refused TooDeep 0)
  unfolding found s
  finds-deep t zero p = absurd (omega arith)
  finds-deep t (suc fuel) p = opened (found fuel) 0 ∙ rw t

-- ---- a field is written in one way: equal bytes that begin with a field have the same tag, value and rest
module _ (tag : ℕ) (v rest : List ℕ) (tag' : ℕ) (v' rest' : List ℕ) (b : length v < 256) (b' : length v' < 256)
    (e : field tag v ++ rest ≡ field tag' v' ++ rest') where
  same_head : head_of (length (field_head tag (length v))) (length v) ≡ head_of (length (field_head tag' (length v'))) (length v')
  unfolding h s
  same_head = sym (head-is tag v rest b) ∙ ap read_head e ∙ head-is tag' v' rest' b'

  same_parts : ◌≡◌ {A = Head} (record { head_bytes = length (field_head tag (length v)); value_bytes = length v })
      (record { head_bytes = length (field_head tag' (length v')); value_bytes = length v' })
  same_parts = cc same_head

  same_length : length v ≡ length v'
  same_length = ap (λ (x : Head). x.value_bytes) same_parts

  same_start : length (field_head tag (length v)) ≡ length (field_head tag' (length v'))
  same_start = ap (λ (x : Head). x.head_bytes) same_parts

  pub same_tag : tag ≡ tag'
  same_tag = ap tag_of e

  pub same-value : v ≡ v'
  unfolding h s
  same-value =
      sym (value tag v rest b)
      ∙ ap (λ (t : List ℕ). take (length v) (drop (length (field_head tag (length v))) t)) e
      ∙ ap₂ (λ (m n : ℕ). take m (drop n (field tag' v' ++ rest'))) same_length same_start
      ∙ value tag' v' rest' b'

  pub same_rest : rest ≡ rest'
  unfolding h s
  same_rest =
      sym (behind tag v rest b)
      ∙ ap (drop (length (field_head tag (length v)) + length v)) e
      ∙ ap₂ (λ (m n : ℕ). drop (m + n) (field tag' v' ++ rest')) same_start same_length
      ∙ behind tag' v' rest' b'
