-- WALK of sequences that are joined, and of fields that are written: what an accepted part counts does not depend on what follows it.
-- Assumes nothing.
use mathlib.Core.Path.{◌≡◌, refl, sym, ap, ap₂, ◌∙◌}
use mathlib.Core.Bool.{Bool, true, false, ◌&&◌}
use mathlib.Core.List.{List, [], ◌∷◌, ◌++◌}
use Prim.Native.Nat.{ℕ, zero, suc, ◌+◌, ◌≤◌, ◌<◌}
use native.Mathlib.Nat.{add-zero}
use native.Mathlib.Decide.{dec_lt}
use native.Mathlib.Omega.{arith}
use lib.Dec.{ltb, leb, eqb}
use lib.ListN.{length, take, drop, length-append, length-drop, get_or-append}
use lib.Seq.{take-append-le, drop-append-le, take-length, drop-append_seam}
use borrow.Author.Tests.{le-ltb, ltb-false}
use Rattle.template_rules.specs.declared.Head.{Head}
use Rattle.std.specs.Prelude.{Option, Some, None}
use Rattle.template_rules.specs.Template.{head_of, read_second, read_head, is_template, field_head, field}
use Rattle.template_rules.proofs.HeadFacts.{by-test, Within, head-within, read_length}
use Rattle.template_walk.specs.declared.Fault.TheVariants.{Malformed}
use Rattle.std.specs.Prelude.{Ok, Err}
use Rattle.template_walk.specs.Walk.{Walked, Field, whole, refused, faulty, as_field, field_with, read_field, plus, and_then, template_of, sequence_of, walk_of}
use Rattle.template_walk.proofs.WalkFacts.{plus_none, plus-plus, Inside, field-inside, template-few, sequence-empty, sequence-step}

-- ---- read_head: bytes that follow change no head that is read
abbrev Kept : List ℕ → Option Head → List ℕ → Type 0
Kept s (Some h) t = read_head (s ++ t) ≡ Some h
Kept s None t = Unit {0}

second-kept : (tag n : ℕ) (s t : List ℕ) → ltb n 128 ≡ false → eqb n 0x81 ≡ true → Kept (tag ∷ n ∷ s) (read_second s) t
second-kept tag n [] t p q = tt
second-kept tag n (m ∷ s) t p q =
    by-test (λ (h : Option Head). Kept (tag ∷ n ∷ m ∷ s) h t) (leb 128 m && ltb m 256) (λ e. rw (p, q, e)) (λ _. tt)

head-kept : (s t : List ℕ) → Kept s (read_head s) t
head-kept [] t = tt
head-kept (tag ∷ []) t = tt
head-kept (tag ∷ n ∷ s) t =
    by-test (λ (h : Option Head). Kept (tag ∷ n ∷ s) h t) (ltb n 128) (λ e. rw e)
    (λ e. by-test (λ (h : Option Head). Kept (tag ∷ n ∷ s) h t) (eqb n 0x81) (λ g. second-kept tag n s t e g) (λ _. tt))

-- ---- read_field: a field that is read stays the same before other bytes
module _ (inside : ℕ → List ℕ → Field) (s t : List ℕ) where
  with-kept : (h : Option Head) → Within s h → Kept s h t → (c b : ℕ) → field_with inside s h ≡ whole c b
      → read_field inside (s ++ t) ≡ whole c b
  unfolding field_with
  with-kept None w k c b e = absurd (let z : ◌≡◌ {A = ℕ} 0 1 = cc in omega arith)
  with-kept (Some r) w k c b e = ap (field_with inside (s ++ t)) k ∙ within (ltb (length s) (r.head_bytes + r.value_bytes)) refl e
    where
      rest : ltb (length s) (r.head_bytes + r.value_bytes) ≡ false → field_with inside (s ++ t) (head_of r.head_bytes r.value_bytes) ≡ field_with inside s (head_of r.head_bytes r.value_bytes)
      rest g =
          let ends : r.head_bytes + r.value_bytes ≤ length s = ltb-false (length s) (r.head_bytes + r.value_bytes) g in
          let value : take r.value_bytes (drop r.head_bytes (s ++ t)) ≡ take r.value_bytes (drop r.head_bytes s) = rw
          (drop-append-le r.head_bytes s t (omega arith), take-append-le r.value_bytes (drop r.head_bytes s) t (simp length-drop (omega arith))) in
          rw (g, le-ltb (length (s ++ t)) (r.head_bytes + r.value_bytes) (rw length-append (omega arith)), get_or-append s t 0 0 (omega arith), value)

      within : (x : Bool) → ltb (length s) (r.head_bytes + r.value_bytes) ≡ x → field_with inside s (head_of r.head_bytes r.value_bytes) ≡ whole c b
          → field_with inside (s ++ t) (head_of r.head_bytes r.value_bytes) ≡ whole c b
      within true g f =
          absurd (let y : field_with inside s (head_of r.head_bytes r.value_bytes) ≡ faulty Malformed 0 = rw g in let z : ◌≡◌ {A = ℕ} 0 1 = cc in omega arith)
      within false g f = rest g ∙ f

  pub field-kept : (c b : ℕ) → read_field inside s ≡ whole c b → read_field inside (s ++ t) ≡ whole c b
  field-kept c b e = with-kept (read_head s) (head-within s) (head-kept s t) c b e

-- ---- sequence_of: an accepted sequence before another
module _ (levels : ℕ) (t : List ℕ) where
  Joins : List ℕ → Type 0
  Joins s = (a : ℕ) → sequence_of levels s ≡ Ok a → sequence_of levels (s ++ t) ≡ plus a (length s) (sequence_of levels t)

  after-field : (s : List ℕ) (c b : ℕ) (w : Walked) → (length s ≡ 0 → ⊥) → b ≤ length s → read_field (template_of levels) s ≡ whole c b
      → sequence_of levels (drop b s) ≡ w → Joins (drop b s) → Joins s
  unfolding Joins
  after-field s c b (Err r) h g p q ih a e =
      absurd
      (let y : sequence_of levels s ≡ refused r.fault (b + r.place) = sequence-step levels s h ∙ rw (p, q) in let z : ◌≡◌ {A = ℕ} 0 1 = cc in omega
      arith)
  after-field s c b (Ok k) h g p q ih a e =
      let sum : sequence_of levels s ≡ Ok (c + k) = sequence-step levels s h ∙ rw (p, q) in
      let same : c + k ≡ a = cc in
      sequence-step levels (s ++ t) (λ z. h (omega (arith, length-append s t)))
      ∙ rw (field-kept (template_of levels) s t c b p, drop-append-le b s t g, ih k q)
      (plus-plus c b k (length (drop b s)) (sequence_of levels t)
      ∙ ap₂ (λ (m n : ℕ). plus m n (sequence_of levels t)) same (rw length-drop (omega arith)))

  -- by what the first field is, where what is left after any field joins
  by_first : (s : List ℕ) (f : Field) → (length s ≡ 0 → ⊥) → read_field (template_of levels) s ≡ f → Inside s f
      → ((b : ℕ) → 2 ≤ b → Joins (drop b s)) → Joins s
  unfolding Joins
  by_first s (Ok w) h p i ih a e = after-field s w.fields w.bytes (sequence_of levels (drop w.bytes s)) h i.1 p refl (ih w.bytes i.0) a e
  by_first s (Err r) h p i ih a e =
      absurd
      (let y : sequence_of levels s ≡ Err r = sequence-step levels s h ∙ rw p in let z : ◌≡◌ {A = ℕ} 0 1 = cc in omega arith)

  empty-joins : (s : List ℕ) → length s ≡ 0 → Joins s
  unfolding Joins
  empty-joins [] h a e =
      let none : Ok 0 ≡ Ok a = sym (sequence-empty levels [] refl) ∙ e in
      let same : 0 ≡ a = cc in
      sym (plus_none (sequence_of levels t)) ∙ rw same
  empty-joins (x ∷ s) h a e = absurd (omega arith)

  joins : (n : ℕ) (s : List ℕ) → length s ≤ n → Joins s
  joins zero s l = empty-joins s (omega arith)
  joins (suc n) s l =
      elim (dec_lt 0 (length s)) [
        | yes p ↦
            by_first s (read_field (template_of levels) s) (λ z. omega arith) refl (field-inside (template_of levels) (template-few levels) s)
            (λ b k. joins n (drop b s) (simp length-drop (omega arith)))
        | no p ↦ empty-joins s (omega arith)
      ]

  pub sequence-join : (s : List ℕ) (a : ℕ) → sequence_of levels s ≡ Ok a
      → sequence_of levels (s ++ t) ≡ plus a (length s) (sequence_of levels t)
  unfolding Joins
  sequence-join s a e = joins (length s) s (omega arith) a e

-- two accepted parts, joined, count the sum
pub sequence-sum : (levels : ℕ) (s t : List ℕ) (a b : ℕ) → sequence_of levels s ≡ Ok a → sequence_of levels t ≡ Ok b
    → sequence_of levels (s ++ t) ≡ Ok (a + b)
sequence-sum levels s t a b p q = sequence-join levels t s a p ∙ ap (plus a (length s)) q

pub walk-sum : (s t : List ℕ) (a b : ℕ) → walk_of s ≡ Ok a → walk_of t ≡ Ok b → walk_of (s ++ t) ≡ Ok (a + b)
walk-sum = sequence-sum 4

-- ---- field: what is written is walked, for every value whose length has a form
-- what a value came to, its places counted from the tag of its template, whose head takes h bytes
abbrev pub in_field : ℕ → Walked → Walked
in_field h (Ok n) = Ok n
in_field h (Err r) = refused r.fault (h + r.place)

module _ (tag : ℕ) (v : List ℕ) (brief : length v < 256) where
  h : ℕ
  h = length (field_head tag (length v))

  long : length (field tag v) ≡ h + length v
  unfolding h
  long = length-append (field_head tag (length v)) v

  value : take (length v) (drop h (field tag v)) ≡ v
  unfolding h
  value = rw (drop-append_seam (field_head tag (length v)) v) (take-length v)

  alone : (levels : ℕ) → sequence_of levels (drop (h + length v) (field tag v)) ≡ Ok 0
  alone levels = sequence-empty levels (drop (h + length v) (field tag v)) (simp length-drop (omega (arith, long)))

  walked : (levels : ℕ) → sequence_of levels (field tag v) ≡ and_then (field_with (template_of levels) (field tag v) (head_of h (length v)))
      (λ (b : ℕ). sequence_of levels (drop b (field tag v)))
  unfolding h
  walked levels = sequence-step levels (field tag v) (λ z. omega arith) ∙ rw (read_length tag (length v) v brief)

  pub walk-plain : (levels : ℕ) → is_template tag ≡ false → sequence_of levels (field tag v) ≡ Ok 1
  unfolding field_with
  walk-plain levels e = walked levels ∙ rw (le-ltb (length (field tag v)) (h + length v) (omega (arith, long)), e, alone levels)

  last : (levels : ℕ) (w : Walked) → sequence_of levels (drop (h + length v) (field tag v)) ≡ Ok 0
      → and_then (as_field h v w) (λ (b : ℕ). sequence_of levels (drop b (field tag v))) ≡ in_field h w
  last levels (Ok n) e = rw e (ap Ok (add-zero n))
  last levels (Err r) e = refl

  pub walk-template : (levels : ℕ) → is_template tag ≡ true
      → sequence_of (suc levels) (field tag v) ≡ in_field (length (field_head tag (length v))) (sequence_of levels v)
  unfolding field_with template_of h
  walk-template levels e =
      walked (suc levels)
      ∙ rw (le-ltb (length (field tag v)) (h + length v) (omega (arith, long)), e, value)
      (last (suc levels) (sequence_of levels v) (alone (suc levels)))
