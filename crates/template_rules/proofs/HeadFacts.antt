-- Facts about reading and writing the head of a field (specs/Template.antt), under the name of the definition that each speaks of.
-- Assumes nothing.
use mathlib.Core.Path.{◌≡◌, refl, sym, ap, ◌∙◌, subst}
use mathlib.Core.Bool.{Bool, true, false, cond, ◌&&◌}
use mathlib.Core.List.{List, [], ◌∷◌, ◌++◌, append_assoc}
use Prim.Native.Nat.{ℕ, ◌+◌, ◌≤◌, ◌<◌}
use native.Mathlib.Decide.{dec_lt}
use native.Mathlib.Omega.{arith}
use lib.Dec.{T, ltb, leb, eqb, eqb→eq, leb→le, ltb→lt}
use lib.ListN.{length, take, drop, length-append, length-drop, take-append-drop}
use lib.Seq.{length-take-le, drop-drop}
use borrow.Author.Tests.{lt-ltb, le-ltb, eq-eqb, ltb-true, eqb-true, le-leb}
use Rattle.octets.specs.Bytes.{Bytes}
use Rattle.octets.proofs.Table.{and_left, and_right}
use Rattle.std.specs.Prelude.{Option, Some, None}
use Rattle.template_rules.specs.declared.Head.{Head}
use Rattle.template_rules.specs.Template.{head_of, read_second, read_head, tag_of, announces, begins_with, field_head, field, field_bytes, HeadSays}

-- what holds of both answers of a test
pub by-test : {A : Type 0} (P : A → Type 0) (b : Bool) {x y : A} → (b ≡ true → P x) → (b ≡ false → P y) → P (cond b x y)
by-test P true t f = t refl
by-test P false t f = f refl

-- ---- read_head
-- a head that is read takes 2 or 3 bytes, and they are there
abbrev pub Within : List ℕ → Option Head → Type 0
Within s (Some h) = (2 ≤ h.head_bytes) × (h.head_bytes ≤ 3) × (h.head_bytes ≤ length s)
Within s None = Unit {0}

second-within : (t n : ℕ) (s : List ℕ) → Within (t ∷ n ∷ s) (read_second s)
second-within t n [] = tt
second-within t n (m ∷ s) =
    by-test (Within (t ∷ n ∷ m ∷ s)) (leb 128 m && ltb m 256) (λ _. (omega arith, omega arith, omega arith)) (λ _. tt)

pub head-within : (s : List ℕ) → Within s (read_head s)
head-within [] = tt
head-within (t ∷ []) = tt
head-within (t ∷ n ∷ s) =
    by-test (Within (t ∷ n ∷ s)) (ltb n 128) (λ _. (omega arith, omega arith, omega arith))
    (λ _. by-test (Within (t ∷ n ∷ s)) (eqb n 0x81) (λ _. second-within t n s) (λ _. tt))

pub head-facts : (s : List ℕ) (r : Option Head) (h n : ℕ) → r ≡ read_head s → r ≡ head_of h n → (2 ≤ h) × (h ≤ 3) × (h ≤ length s)
head-facts s r h n e g = subst (λ (x : Option Head). Within s x) (sym e ∙ g) (head-within s)

-- ---- length_field, field_head: what is written is read back
pub read_length : (tag n : ℕ) (rest : List ℕ) → n < 256 → read_head (field_head tag n ++ rest) ≡ head_of (length (field_head tag n)) n
read_length tag n rest h =
    elim (dec_lt n 128) [
      | yes p ↦ simp (lt-ltb n 128 p)
      | no p ↦ simp (le-ltb n 128 (omega arith), le-leb 128 n (omega arith), lt-ltb n 256 h)
    ]

-- ... and from 256 on there is no form
pub read-no-length : (tag n : ℕ) (rest : List ℕ) → 256 ≤ n → read_head (field_head tag n ++ rest) ≡ None
read-no-length tag n rest h = simp (le-ltb n 128 (omega arith), le-leb 128 n (omega arith), le-ltb n 256 h)

pub bytes-head : (tag n : ℕ) → tag < 256 → n < 256 → Bytes (field_head tag n)
bytes-head tag n h g = (h, by-test Bytes (ltb n 128) (λ _. (g, tt)) (λ _. (omega arith, (g, tt))))

pub head-length-le : (tag n : ℕ) → length (field_head tag n) ≤ 3
head-length-le tag n = by-test (λ (l : List ℕ). length (tag ∷ l) ≤ 3) (ltb n 128) (λ _. omega arith) (λ _. omega arith)

-- ... and what is read is what would be written: no other form is taken
abbrev Written : List ℕ → Option Head → Type 0
Written s (Some h) = HeadSays s (Some h)
Written s None = Unit {0}

short-written : (tag n : ℕ) (s : List ℕ) → ltb n 128 ≡ true → Written (tag ∷ n ∷ s) (head_of 2 n)
short-written tag n s e = (omega (arith, ltb-true n 128 e), rw e, rw e)

long-written : (tag m : ℕ) (s : List ℕ) → (leb 128 m && ltb m 256) ≡ true → Written (tag ∷ 0x81 ∷ m ∷ s) (head_of 3 m)
long-written tag m s e =
    let t : T (leb 128 m && ltb m 256) = subst T (sym e) tt in
    let long = le-ltb m 128 (leb→le 128 m (and_left (leb 128 m) (ltb m 256) t)) in
    (ltb→lt m 256 (and_right (leb 128 m) (ltb m 256) t), rw long, rw long)

second-written : (tag : ℕ) (s : List ℕ) → Written (tag ∷ 0x81 ∷ s) (read_second s)
second-written tag [] = tt
second-written tag (m ∷ s) =
    by-test (Written (tag ∷ 0x81 ∷ m ∷ s)) (leb 128 m && ltb m 256) (λ e. long-written tag m s e) (λ _. tt)

head-written : (s : List ℕ) → Written s (read_head s)
head-written [] = tt
head-written (tag ∷ []) = tt
head-written (tag ∷ n ∷ s) =
    by-test (Written (tag ∷ n ∷ s)) (ltb n 128) (λ e. short-written tag n s e)
    (λ _. by-test (Written (tag ∷ n ∷ s)) (eqb n 0x81)
    (λ e. subst (λ (k : ℕ). Written (tag ∷ k ∷ s) (read_second s)) (sym (eqb-true n 0x81 e)) (second-written tag s)) (λ _. tt))

pub length-read : (s : List ℕ) (h n : ℕ) → read_head s ≡ head_of h n
    → (n < 256) × (h ≡ length (field_head (tag_of s) n)) × (s ≡ field_head (tag_of s) n ++ drop h s)
length-read s h n e = subst (λ (x : Option Head). Written s x) e (head-written s)

-- ---- HeadSays: what each answer says holds of the head that is read
says : (s : List ℕ) (r : Option Head) → read_head s ≡ r → HeadSays s r
says s (Some h) e = length-read s h.head_bytes h.value_bytes e
says s None e = λ tag n rest h g. absurd (unlike (sym e ∙ ap read_head g ∙ read_length tag n rest h))
  where
    unlike : {h n : ℕ} → None ≡ head_of h n → ⊥
    unlike z = let z' : ◌≡◌ {A = ℕ} 0 1 = cc in omega arith

pub head-says : (s : List ℕ) (r : Option Head) → r ≡ read_head s → (r ≡ read_head s) × HeadSays s r
head-says s r e = (e, says s r (sym e))

-- ---- field_bytes
pub head-length : (tag n : ℕ) → length (field_head tag n) + n ≡ field_bytes n
head-length tag n = elim (dec_lt n 128) [ yes p ↦ simp (lt-ltb n 128 p) | no p ↦ simp (le-ltb n 128 (omega arith)) ]

pub field-length : (tag : ℕ) (v : List ℕ) → length (field tag v) ≡ field_bytes (length v)
field-length tag v = length-append (field_head tag (length v)) v ∙ head-length tag (length v)

pub short-head : (tag n : ℕ) → n < 128 → length (field_head tag n) ≡ 2
short-head tag n h = rw (lt-ltb n 128 h)

pub short-field : (tag : ℕ) (v : List ℕ) → length v < 128 → length (field tag v) ≡ 2 + length v
short-field tag v h = field-length tag v ∙ rw (lt-ltb (length v) 128 h)

pub field-bytes-short : (n : ℕ) → n < 128 → field_bytes n ≡ 2 + n
field-bytes-short n h = rw (lt-ltb n 128 h)

pub field-bytes-le : (n : ℕ) → field_bytes n ≤ 3 + n
field-bytes-le n = by-test (λ (k : ℕ). k + n ≤ 3 + n) (ltb n 128) (λ _. omega arith) (λ _. omega arith)

-- ---- begins_with: what a true answer says
module _ (tag n : ℕ) (s : List ℕ) where
  announced : (r : Option Head) → r ≡ read_head s → announces tag n s r ≡ true
      → (tag_of s ≡ tag) × (read_head s ≡ head_of (length (field_head tag n)) n) × (field_bytes n ≤ length s)
  announced None e t = absurd (let z : ◌≡◌ {A = ℕ} 0 1 = cc in omega arith)
  announced (Some r) e t =
      let h = r.head_bytes in
      let m = r.value_bytes in
      let test : T (eqb (tag_of s) tag && eqb m n && leb (h + m) (length s)) = subst T (sym t) tt in
      let both = and_left (eqb (tag_of s) tag && eqb m n) (leb (h + m) (length s)) test in
      let p : tag_of s ≡ tag = eqb→eq (tag_of s) tag (and_left (eqb (tag_of s) tag) (eqb m n) both) in
      let q : m ≡ n = eqb→eq m n (and_right (eqb (tag_of s) tag) (eqb m n) both) in
      let l : h + m ≤ length s = leb→le (h + m) (length s) (and_right (eqb (tag_of s) tag && eqb m n) (leb (h + m) (length s)) test)
      in
      let k : h ≡ length (field_head tag n) = (length-read s h m (sym e)).1 ∙ rw q in
      (p, sym e ∙ rw (k, q), omega (arith, head-length tag n))

  pub begins-facts : begins_with tag n s ≡ true
      → (tag_of s ≡ tag) × (read_head s ≡ head_of (length (field_head tag n)) n) × (field_bytes n ≤ length s)
  begins-facts t = announced (read_head s) refl t

  -- the field is there as it would be written, before what follows it
  pub value : List ℕ
  value = take n (drop (length (field_head tag n)) s)

  module _ (t : begins_with tag n s ≡ true) where
    pub value-length : length value ≡ n
    unfolding value
    value-length =
        length-take-le n (drop (length (field_head tag n)) s)
        (simp length-drop (omega (arith, (begins-facts t).2, head-length tag n)))

    pub value-brief : length value < 256
    value-brief = omega (arith, value-length, (length-read s (length (field_head tag n)) n (begins-facts t).1).0)

    pub begins-field : s ≡ field tag value ++ drop (field_bytes n) s
    unfolding value
    begins-field =
        let h = length (field_head tag n) in
        let f = begins-facts t in
        (length-read s h n f.1).2
        ∙ ap (λ (x : ℕ). field_head x n ++ drop h s) f.0
        ∙ ap (λ (r : List ℕ). field_head tag n ++ r)
        (sym (take-append-drop n (drop h s)) ∙ ap (λ (r : List ℕ). value ++ r)
        (drop-drop n h s ∙ ap (λ (k : ℕ). drop k s) (head-length tag n)))
        ∙ sym (append_assoc (field_head tag n) value (drop (field_bytes n) s))
        ∙ ap (λ (k : ℕ). field_head tag k ++ value ++ drop (field_bytes n) s) (sym value-length)

-- ... which what is written meets
pub begins-written : (tag : ℕ) (v rest : List ℕ) → length v < 256 → begins_with tag (length v) (field tag v ++ rest) ≡ true
begins-written tag v rest h =
    rw (
      append_assoc (field_head tag (length v)) v rest,
      read_length tag (length v) (v ++ rest) h,
      eq-eqb tag tag refl,
      eq-eqb (length v) (length v) refl,
    )
    (le-leb (length (field_head tag (length v)) + length v) (length (field_head tag (length v) ++ (v ++ rest)))
    (simp length-append (omega arith)))
