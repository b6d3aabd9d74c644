-- The templates that LOAD takes are A1 in one of four lengths, as they would be written, and WALK accepts each with the count of its
-- fields.
-- Assumes nothing.
use mathlib.Core.Path.{◌≡◌, refl, sym, ap, ◌∙◌}
use mathlib.Core.Bool.{Bool, true, false, ◌&&◌, ◌||◌}
use mathlib.Core.List.{List, [], ◌∷◌, ◌++◌}
use mathlib.Core.Logic.{◌⊎◌, inl, inr, ⊎_elim}
use Prim.Native.Nat.{ℕ, ◌+◌, ◌<◌}
use native.Mathlib.Numerals.{one-add}
use native.Mathlib.Omega.{arith}
use lib.Dec.{eqb}
use lib.ListN.{length, drop, length-append}
use lib.Seq.{drop_at}
use borrow.Author.Tests.{eq-eqb, eqb-true}
use Rattle.template_rules.specs.declared.Head.{Head}
use Rattle.std.specs.Prelude.{Option, Some, None}
use Rattle.template_rules.specs.Template.{read_head, tag_of, is_template, begins_with, field_head, field, field_bytes}
use Rattle.template_rules.proofs.HeadFacts.{read_length, length-read, field-length, value, value-length, value-brief, begins-field, begins-written}
use Rattle.std.specs.Prelude.{Ok}
use Rattle.template_walk.specs.Walk.{plus, sequence_of, walk_of}
use Rattle.template_walk.proofs.WalkFacts.{sequence-empty}
use Rattle.template_walk.proofs.Joining.{in_field, sequence-join, walk-plain, walk-template}
use Rattle.template_keypair.specs.Keypair.{Place, exactly, public_key, private_fields, keypair_fields, keypair_with, keypair}

-- ---- tests that pass
both : (a b : Bool) → (a && b) ≡ true → (a ≡ true) × (b ≡ true)
both true b e = (refl, e)
both false b e = absurd (let z : ◌≡◌ {A = ℕ} 0 1 = cc in omega arith)

either : (a b : Bool) → (a || b) ≡ true → (a ≡ true) ⊎ (b ≡ true)
either true b e = inl refl
either false b e = inr e

-- ---- exactly
-- how many bytes the fields of a layout take
abbrev pub layout_bytes : List Place → ℕ
layout_bytes [] = 0
layout_bytes (f ∷ layout) = field_bytes f.bytes + layout_bytes layout

-- no field of the layout is a template
abbrev pub Plain : List Place → Type 0
Plain [] = Unit {0}
Plain (f ∷ layout) = (is_template f.tag ≡ false) × Plain layout

pub exactly-length : (layout : List Place) (s : List ℕ) → exactly layout s ≡ true → length s ≡ layout_bytes layout
exactly-length [] s e = eqb-true (length s) 0 e
exactly-length (f ∷ layout) s e =
    let t = both (begins_with f.tag f.bytes s) (exactly layout (drop (field_bytes f.bytes) s)) e in
    let v = value f.tag f.bytes s in
    omega (
      arith,
      ap length (begins-field f.tag f.bytes s t.0),
      length-append (field f.tag v) (drop (field_bytes f.bytes) s),
      field-length f.tag v ∙ ap field_bytes (value-length f.tag f.bytes s t.0),
      exactly-length layout (drop (field_bytes f.bytes) s) t.1,
    )

pub exactly-walks : (layout : List Place) (levels : ℕ) (s : List ℕ) → Plain layout → exactly layout s ≡ true
    → sequence_of levels s ≡ Ok (length layout)
exactly-walks [] levels s p e = sequence-empty levels s (eqb-true (length s) 0 e)
exactly-walks (f ∷ layout) levels s p e =
    let t = both (begins_with f.tag f.bytes s) (exactly layout (drop (field_bytes f.bytes) s)) e in
    let v = value f.tag f.bytes s in
    ap (sequence_of levels) (begins-field f.tag f.bytes s t.0)
    ∙ sequence-join levels (drop (field_bytes f.bytes) s) (field f.tag v) 1 (walk-plain f.tag v (value-brief f.tag f.bytes s t.0) levels p.0)
    ∙ ap (plus 1 (length (field f.tag v))) (exactly-walks layout levels (drop (field_bytes f.bytes) s) p.1 t.1)
    ∙ ap Ok (one-add (length layout))

-- a field that is written is taken, and what follows it is left
pub exactly-written : (f : Place) (layout : List Place) (v rest : List ℕ) → length v ≡ f.bytes → f.bytes < 256
    → exactly (f ∷ layout) (field f.tag v ++ rest) ≡ exactly layout rest
exactly-written f layout v rest h brief =
    rw (← h)
    (rw (begins-written f.tag v rest (omega arith))
    (ap (exactly layout) (drop_at (field f.tag v) rest (field_bytes (length v)) (field-length f.tag v))))

-- ---- keypair
-- a template that is taken is A1 with a value of the layout, whose length has a form
pub keypair-value : (chain : Bool) (s : List ℕ) → keypair chain s ≡ true
    → (v : List ℕ) × (s ≡ field 0xA1 v) × (keypair_fields chain v ≡ true) × (length v < 256)
keypair-value chain s e = of-head (read_head s) refl e
  where
    of-head : (r : Option Head) → read_head s ≡ r → keypair_with chain s r ≡ true
        → (v : List ℕ) × (s ≡ field 0xA1 v) × (keypair_fields chain v ≡ true) × (length v < 256)
    of-head None g t = absurd (let z : ◌≡◌ {A = ℕ} 0 1 = cc in omega arith)
    of-head (Some r) g t =
        let h = r.head_bytes in
        let n = r.value_bytes in
        let both1 = both (eqb (tag_of s) 0xA1 && eqb (h + n) (length s)) (keypair_fields chain (drop h s)) t in
        let both2 = both (eqb (tag_of s) 0xA1) (eqb (h + n) (length s)) both1.0 in
        let l = length-read s h n g in
        let whole : n ≡ length (drop h s) = omega (
          arith,
          eqb-true (h + n) (length s) both2.1,
          ap length l.2,
          length-append (field_head (tag_of s) n) (drop h s),
          l.1,
        ) in (
          drop h s,
          l.2 ∙ ap (λ (x : ℕ). field_head x n ++ drop h s) (eqb-true (tag_of s) 0xA1 both2.0) ∙ ap
              (λ (k : ℕ). field_head 0xA1 k ++ drop h s) whole,
          both1.1,
          omega (arith, whole, l.0),
        )

plain-private : (chain : Bool) → Plain (private_fields chain)
plain-private false = (refl, tt)
plain-private true = (refl, (refl, tt))

-- WALK accepts what LOAD takes, with the count of its fields: with the public key, or without
pub keypair-walks : (chain : Bool) (s : List ℕ) → keypair chain s ≡ true
    → (walk_of s ≡ Ok (length (public_key ∷ private_fields chain))) ⊎ (walk_of s ≡ Ok (length (private_fields chain)))
keypair-walks chain s e =
    let k = keypair-value chain s e in
    let h = length (field_head 0xA1 (length k.0)) in
    let inside : walk_of s ≡ in_field h (sequence_of 3 k.0) = ap walk_of k.1 ∙ walk-template 0xA1 k.0 k.3 3 refl in
    ⊎_elim
    (λ t. inl (inside ∙ ap (in_field h) (exactly-walks (public_key ∷ private_fields chain) 3 k.0 (refl, plain-private chain) t)))
    (λ t. inr (inside ∙ ap (in_field h) (exactly-walks (private_fields chain) 3 k.0 (plain-private chain) t)))
    (either (exactly (public_key ∷ private_fields chain) k.0) (exactly (private_fields chain) k.0) k.2)

-- its value has one of two lengths, so that the template begins A1 65 or A1 22 for P1 01, A1 81 87 or A1 44 for P1 02
pub keypair-lengths : (chain : Bool) (s : List ℕ) → keypair chain s ≡ true → (v : List ℕ)
    × (s ≡ field_head 0xA1 (length v) ++ v)
    × ((length v ≡ layout_bytes (public_key ∷ private_fields chain)) ⊎ (length v ≡ layout_bytes (private_fields chain)))
keypair-lengths chain s e =
    let k = keypair-value chain s e in (
      k.0,
      k.1,
      ⊎_elim (λ t. inl (exactly-length (public_key ∷ private_fields chain) k.0 t))
          (λ t. inr (exactly-length (private_fields chain) k.0 t))
          (either (exactly (public_key ∷ private_fields chain) k.0) (exactly (private_fields chain) k.0) k.2),
    )

pub heads-p1-01 : (field_head 0xA1 (layout_bytes (public_key ∷ private_fields false)) ≡ 0xA1 ∷ 101 ∷ []) ×
    (field_head 0xA1 (layout_bytes (private_fields false)) ≡ 0xA1 ∷ 34 ∷ [])
heads-p1-01 = (refl, refl)

pub heads-p1-02 : (field_head 0xA1 (layout_bytes (public_key ∷ private_fields true)) ≡ 0xA1 ∷ 0x81 ∷ 135 ∷ []) ×
    (field_head 0xA1 (layout_bytes (private_fields true)) ≡ 0xA1 ∷ 68 ∷ [])
heads-p1-02 = (refl, refl)

-- and every template in the layout is taken: A1 around a value that has it
layout-brief : (chain : Bool) (v : List ℕ) → keypair_fields chain v ≡ true → length v < 256
layout-brief chain v e =
    ⊎_elim (λ t. with-key chain (exactly-length (public_key ∷ private_fields chain) v t))
    (λ t. alone chain (exactly-length (private_fields chain) v t))
    (either (exactly (public_key ∷ private_fields chain) v) (exactly (private_fields chain) v) e)
  where
    with-key : (b : Bool) → length v ≡ layout_bytes (public_key ∷ private_fields b) → length v < 256
    with-key false h = omega (arith, h)
    with-key true h = omega (arith, h)

    alone : (b : Bool) → length v ≡ layout_bytes (private_fields b) → length v < 256
    alone false h = omega (arith, h)
    alone true h = omega (arith, h)

pub keypair-written : (chain : Bool) (v : List ℕ) → keypair_fields chain v ≡ true → keypair chain (field 0xA1 v) ≡ true
keypair-written chain v e =
    rw (
      read_length 0xA1 (length v) v (layout-brief chain v e),
      eq-eqb (length (field_head 0xA1 (length v)) + length v) (length (field 0xA1 v))
          (sym (length-append (field_head 0xA1 (length v)) v)),
    )
    (ap (keypair_fields chain) (drop_at (field_head 0xA1 (length v)) v (length (field_head 0xA1 (length v))) refl) ∙ e)
