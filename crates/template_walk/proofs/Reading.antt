-- What the field reader and the sequence reader find, step by step, is what the definitions give.
-- Assumes nothing.
use mathlib.Core.Path.{◌≡◌, refl, sym, ap, ◌∙◌, subst}
use mathlib.Core.List.{List}
use Prim.Native.Nat.{ℕ, zero, suc, ◌+◌, ◌-◌, ◌≤◌, ◌<◌}
use native.Mathlib.Nat.{add-zero, add-sub_cancel_left}
use native.Mathlib.Numerals.{sub-one}
use native.Mathlib.Omega.{arith}
use lib.Bits.{bit_and}
use lib.ListN.{length, take, drop, length-drop}
use lib.Seq.{drop-drop, length-take-le}
use borrow.Author.Tests.{lt-ltb, le-ltb, eq-eqb, ne_eqb}
use Rattle.template_rules.specs.declared.Head.{Head}
use Rattle.std.specs.Prelude.{Option, None}
use Rattle.template_rules.specs.Template.{head_of, read_head, tag_of}
use Rattle.template_rules.proofs.HeadFacts.{head-facts}
use Rattle.template_rules.proofs.Parts.{part-from}
use Rattle.template_walk.specs.declared.Fault.{Fault}
use Rattle.template_walk.specs.declared.Fault.TheVariants.{Malformed, TooDeep}
use Rattle.template_walk.specs.declared.Refused.{Refused}
use Rattle.std.specs.Prelude.{Result, Ok, Err, ok_or}
use Rattle.template_walk.specs.Walk.{Walked, Field, whole, refused, faulty, as_field, field_with, read_field, plus, and_then, template_of, sequence_of}
use Rattle.template_walk.proofs.WalkFacts.{plus-plus, Fits, Inside, field-inside, template-few, sequence-few, sequence-empty, sequence-step}

-- ---- a template, by the levels that may be entered
no-level : (levels h : ℕ) (v : List ℕ) → levels ≡ 0 → template_of levels h v ≡ faulty TooDeep 0
unfolding template_of
no-level levels h v z = rw z

one-level : (levels h : ℕ) (v : List ℕ) → (levels ≡ 0 → ⊥) → template_of levels h v ≡ as_field h v (sequence_of (levels - 1) v)
unfolding template_of
one-level zero h v z = absurd (z refl)
one-level (suc levels) h v z = rw sub-one

-- ---- a field whose head r has been read
module _ (levels : ℕ) (s : List ℕ) (r : Option Head) (e : r ≡ read_head s) where
  pub field-unreadable : r ≡ None → faulty Malformed 0 ≡ read_field (template_of levels) s
  unfolding field_with
  field-unreadable g = ap (field_with (template_of levels) s) (sym g ∙ e)

  -- as `ok_or` and `?` make the refusal
  pub field-no-head : (x : Refused) → ◌≡◌ {A = Result Head Refused} (Err x) (ok_or r (record { fault = Malformed; place = 0 })) → r ≡ None
      → ◌≡◌ {A = Field} (Err x) (read_field (template_of levels) s)
  field-no-head x v g =
      let same : ◌≡◌ {A = Result Head Refused} (Err x) (Err (record { fault = Malformed; place = 0 })) = v ∙ ap (λ (o : Option Head). ok_or o (record { fault = Malformed; place = 0 })) g in
      let is : x ≡ record { fault = Malformed; place = 0 } = cc same in
      ap Err is ∙ field-unreadable g

  module _ (h n : ℕ) (g : r ≡ head_of h n) where
    pub field-overruns : length s - h < n → faulty Malformed 0 ≡ read_field (template_of levels) s
    unfolding field_with
    field-overruns t =
        sym (rw (lt-ltb (length s) (h + n) (omega (arith, head-facts s r h n e g)))) ∙ ap (field_with (template_of levels) s) (sym g ∙ e)

    module _ (t : n ≤ length s - h) where
      ends : h + n ≤ length s
      ends = omega (arith, head-facts s r h n e g)

      pub field_plain : (bit_and (tag_of s) 0x20 ≡ 0x20 → ⊥) → whole 1 (h + n) ≡ read_field (template_of levels) s
      unfolding field_with
      field_plain u =
          sym (rw (le-ltb (length s) (h + n) ends, ne_eqb (bit_and (tag_of s) 0x20) 0x20 u)) ∙ ap (field_with (template_of levels) s)
          (sym g ∙ e)

      v : List ℕ
      v = take n (drop h s)

      value-long : length v ≡ n
      unfolding v
      value-long = length-take-le n (drop h s) (simp length-drop (omega (arith, ends)))

      field-template : bit_and (tag_of s) 0x20 ≡ 0x20 → template_of levels h v ≡ read_field (template_of levels) s
      unfolding field_with v
      field-template u =
          sym (rw (le-ltb (length s) (h + n) ends, eq-eqb (bit_and (tag_of s) 0x20) 0x20 u)) ∙ ap (field_with (template_of levels) s)
          (sym g ∙ e)

      pub field-too-deep : bit_and (tag_of s) 0x20 ≡ 0x20 → levels ≡ 0 → faulty TooDeep 0 ≡ read_field (template_of levels) s
      field-too-deep u z = sym (no-level levels h v z) ∙ field-template u

      -- a template whose value was walked
      module _ (u : bit_and (tag_of s) 0x20 ≡ 0x20) (z : levels ≡ 0 → ⊥) (w : Walked)
          (q : w ≡ sequence_of (levels - 1) (take (h + n - h) (drop h s))) where
        of-value : as_field h v w ≡ read_field (template_of levels) s
        unfolding v
        of-value =
            ap (as_field h v) (q ∙ ap (λ (k : ℕ). sequence_of (levels - 1) (take k (drop h s))) (add-sub_cancel_left h n))
            ∙ sym (one-level levels h v z)
            ∙ field-template u

        pub field-whole : (c : ℕ) → w ≡ Ok c → whole c (h + n) ≡ read_field (template_of levels) s
        field-whole c x = ap (λ (k : ℕ). whole c (h + k)) (sym value-long) ∙ ap (as_field h v) (sym x) ∙ of-value

        pub field-fault : (f : Fault) (k : ℕ) → w ≡ refused f k → faulty f (h + k) ≡ read_field (template_of levels) s
        field-fault f k x = ap (as_field h v) (sym x) ∙ of-value

        -- and the place of its fault is within the field
        pub fault-within : (f : Fault) (k : ℕ) → w ≡ refused f k → k ≤ n
        unfolding v
        fault-within f k x =
            let fits : Fits (length v) (refused f k) = subst (Fits (length v)) (sym (q ∙ ap (λ (m : ℕ). sequence_of (levels - 1) (take m (drop h s))) (add-sub_cancel_left h n)) ∙ x) (sequence-few (levels - 1) v) in
            omega (arith, fits, value-long)

-- ---- a sequence whose field at a place has been read
module _ (levels : ℕ) (s : List ℕ) (at : ℕ) (r : Field) (e : r ≡ read_field (template_of levels) (take (length s - at) (drop at s))) where
  here : r ≡ read_field (template_of levels) (drop at s)
  here = e ∙ ap (read_field (template_of levels)) (part-from at s)

  found_inside : (f : Field) → r ≡ f → Inside (drop at s) f
  found_inside f g = subst (λ (x : Field). Inside (drop at s) x) (sym here ∙ g) (field-inside (template_of levels) (template-few levels) (drop at s))

  pub field-facts : (c b : ℕ) → r ≡ whole c b → (2 ≤ b) × (b ≤ length s - at) × (c ≤ b)
  field-facts c b g = rw length-drop at (found_inside (whole c b) g)

  pub fault-facts : (f : Fault) (k : ℕ) → r ≡ faulty f k → k ≤ length s - at
  fault-facts f k g = rw length-drop at (found_inside (faulty f k) g)

  module _ (count : ℕ) (l : at < length s) (inv : sequence_of levels s ≡ plus count at (sequence_of levels (drop at s))) where
    step : sequence_of levels s ≡ plus count at (and_then r (λ (b : ℕ). sequence_of levels (drop b (drop at s))))
    step =
        inv
        ∙ ap (plus count at)
        (sequence-step levels (drop at s) (λ z. omega (arith, length-drop at s))
        ∙ ap (λ (f : Field). and_then f (λ (b : ℕ). sequence_of levels (drop b (drop at s)))) (sym here))

    pub sequence-next : (c b : ℕ) → r ≡ whole c b → sequence_of levels s ≡ plus (count + c) (at + b) (sequence_of levels (drop (at + b) s))
    sequence-next c b g =
        step
        ∙ ap (λ (f : Field). plus count at (and_then f (λ (b : ℕ). sequence_of levels (drop b (drop at s))))) g
        ∙ plus-plus count at c b (sequence_of levels (drop b (drop at s)))
        ∙ ap (λ (t : List ℕ). plus (count + c) (at + b) (sequence_of levels t)) (drop-drop b at s)

    pub sequence-faulty : (f : Fault) (k : ℕ) → r ≡ faulty f k → refused f (at + k) ≡ sequence_of levels s
    sequence-faulty f k g =
        sym (step ∙ ap (λ (f : Field). plus count at (and_then f (λ (b : ℕ). sequence_of levels (drop b (drop at s))))) g)

pub sequence-end : (levels : ℕ) (s : List ℕ) (at count : ℕ) → length s ≤ at
    → sequence_of levels s ≡ plus count at (sequence_of levels (drop at s)) → Ok count ≡ sequence_of levels s
sequence-end levels s at count l inv =
    sym (inv ∙ ap (plus count at) (sequence-empty levels (drop at s) (simp length-drop (omega arith))) ∙ ap Ok (add-zero count))
