-- A reader that gives what WALK gives, a field at a time and with what follows the field: the form that the laws on trees and faults go by.
-- Assumes nothing.
use mathlib.Core.Path.{◌≡◌, refl, sym, ap, ap₂, ◌∙◌}
use mathlib.Core.Bool.{Bool, true, false, cond}
use mathlib.Core.List.{List, [], ◌∷◌}
use Prim.Native.Nat.{ℕ, zero, suc, ◌+◌, ◌≤◌}
use native.Mathlib.Omega.{arith}
use lib.Dec.{ltb}
use lib.ListN.{length, take, drop, length-drop}
use lib.Seq.{length-take-le}
use borrow.Author.Tests.{ltb-false}
use Rattle.template_rules.specs.declared.Head.{Head}
use Rattle.std.specs.Prelude.{Option, Some, None}
use Rattle.template_rules.specs.Template.{head_of, read_head, tag_of, is_template}
use Rattle.template_rules.proofs.HeadFacts.{Within, head-within}
use Rattle.template_walk.specs.declared.Fault.TheVariants.{Malformed, TooDeep}
use Rattle.std.specs.Prelude.{Ok, Err}
use Rattle.template_walk.specs.Walk.{Walked, refused, as_field, field_with, plus, and_then, template_of, sequence_of}
use Rattle.template_walk.proofs.WalkFacts.{sequence-empty, sequence-step}
use Rattle.template_walk.proofs.Joining.{in_field}

-- a template of b bytes whose value came to this, and then what follows it
abbrev pub into : Walked → ℕ → Walked → Walked
into (Ok c) b r = plus c b r
into (Err e) b r = Err e

-- the value of a template whose head takes h bytes, where this many more levels may be entered
abbrev pub within : (ℕ → List ℕ → Walked) → ℕ → ℕ → List ℕ → Walked
within again zero h v = refused TooDeep 0
within again (suc levels) h v = in_field h (again levels v)

-- the field that begins s, and what follows it
abbrev pub step : (ℕ → List ℕ → Walked) → ℕ → List ℕ → Option Head → Walked
step again levels s None = refused Malformed 0
step again levels s (Some h) =
    cond (ltb (length s) (h.head_bytes + h.value_bytes)) (refused Malformed 0)
    (cond (is_template (tag_of s))
    (into (within again levels h.head_bytes (take h.value_bytes (drop h.head_bytes s))) (h.head_bytes + h.value_bytes) (again levels (drop (h.head_bytes + h.value_bytes) s)))
    (plus 1 (h.head_bytes + h.value_bytes) (again levels (drop (h.head_bytes + h.value_bytes) s))))

-- the fields of s, in which templates may nest this many levels; as many steps as s has bytes are enough
unfoldable pub found : ℕ → ℕ → List ℕ → Walked
found zero levels s = Ok 0
found (suc fuel) levels [] = Ok 0
found (suc fuel) levels (x ∷ s) = step (found fuel) levels (x ∷ s) (read_head (x ∷ s))

-- ---- it is WALK
-- a template, where what its value came to is that of WALK
into-field : (h : ℕ) (v : List ℕ) (w : Walked) (b : ℕ) (r : Walked) (rest : ℕ → Walked) → h + length v ≡ b → r ≡ rest b
    → into (in_field h w) b r ≡ and_then (as_field h v w) rest
into-field h v (Ok c) b r rest l e = ap₂ (plus c) (sym l) (e ∙ ap rest (sym l))
into-field h v (Err x) b r rest l e = refl

module _ (again : ℕ → List ℕ → Walked) (levels : ℕ) (s : List ℕ)
    (same : (l : ℕ) (t : List ℕ) → suc (length t) ≤ length s → again l t ≡ sequence_of l t) where
  after : ℕ → Walked
  after b = sequence_of levels (drop b s)

  into-template : (l h n : ℕ) → suc n ≤ length s → h + n ≤ length s → again levels (drop (h + n) s) ≡ after (h + n)
      → into (within again l h (take n (drop h s))) (h + n) (again levels (drop (h + n) s)) ≡ and_then (template_of l h (take n (drop h s))) after
  unfolding template_of
  into-template zero h n p q e = refl
  into-template (suc l) h n p q e =
      let long : length (take n (drop h s)) ≡ n = length-take-le n (drop h s) (simp length-drop (omega arith)) in
      ap (λ (w : Walked). into (in_field h w) (h + n) (again levels (drop (h + n) s))) (same l (take n (drop h s)) (omega (arith, long)))
      ∙ into-field h (take n (drop h s)) (sequence_of l (take n (drop h s))) (h + n) (again levels (drop (h + n) s)) after (omega (arith, long)) e

  head-walks : (h n : ℕ) → Within s (head_of h n) → step again levels s (head_of h n) ≡ and_then (field_with (template_of levels) s (head_of h n)) after
  unfolding field_with after
  head-walks h n w = by_end (ltb (length s) (h + n)) refl
    where
      by-tag : (b : Bool) → is_template (tag_of s) ≡ b → ltb (length s) (h + n) ≡ false
          → step again levels s (head_of h n) ≡ and_then (field_with (template_of levels) s (head_of h n)) after
      by-tag true t e =
          let ends : h + n ≤ length s = ltb-false (length s) (h + n) e in
          rw (e, t) (into-template levels h n (omega (arith, w)) ends (same levels (drop (h + n) s) (simp length-drop (omega arith))))
      by-tag false t e =
          let ends : h + n ≤ length s = ltb-false (length s) (h + n) e in
          rw (e, t) (ap (plus 1 (h + n)) (same levels (drop (h + n) s) (simp length-drop (omega arith))))

      by_end : (b : Bool) → ltb (length s) (h + n) ≡ b
          → step again levels s (head_of h n) ≡ and_then (field_with (template_of levels) s (head_of h n)) after
      by_end true e = rw e
      by_end false e = by-tag (is_template (tag_of s)) refl e

  step-walks : (hd : Option Head) → Within s hd → step again levels s hd ≡ and_then (field_with (template_of levels) s hd) after
  unfolding field_with after
  step-walks None w = refl
  step-walks (Some hd) w = head-walks hd.head_bytes hd.value_bytes w

pub found-walks : (fuel levels : ℕ) (s : List ℕ) → length s ≤ fuel → found fuel levels s ≡ sequence_of levels s
unfolding found after
found-walks zero levels s p = sym (sequence-empty levels s (omega arith))
found-walks (suc fuel) levels [] p = sym (sequence-empty levels [] refl)
found-walks (suc fuel) levels (x ∷ s) p =
    step-walks (found fuel) levels (x ∷ s) (λ l t q. found-walks fuel l t (omega arith)) (read_head (x ∷ s)) (head-within (x ∷ s))
    ∙ sym (sequence-step levels (x ∷ s) (λ z. omega arith))
