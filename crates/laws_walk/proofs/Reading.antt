-- The reader of Finding gives the leaves of trees exactly for their encoding, and a fault and its place exactly where the rules of specs/Faults
-- have them. Trees that stand at depth d are read with as many levels left as d is short of one below the deepest.
-- Assumes nothing.
use mathlib.Core.Path.{◌≡◌, refl, sym, ap, ◌∙◌}
use mathlib.Core.Bool.{true, false}
use mathlib.Core.List.{List, [], ◌∷◌, ◌++◌, append_assoc, append-nil}
use Prim.Native.Nat.{ℕ, zero, suc, ◌+◌, ◌≤◌, ◌<◌}
use native.Mathlib.Nat.{add-zero}
use native.Mathlib.Omega.{arith}
use lib.Dec.{ltb}
use lib.ListN.{length, take, drop, length-append, length-take, length-drop, take-append-drop}
use lib.Seq.{length-take-le, drop-drop}
use borrow.Author.Tests.{ltb-true, ltb-false}
use Rattle.template_rules.specs.declared.Head.{Head}
use Rattle.std.specs.Prelude.{Option, Some, None}
use Rattle.template_rules.specs.Template.{head_of, read_head, tag_of, is_template, field_head, field, HeadSays}
use Rattle.template_rules.proofs.HeadFacts.{by-test, Within, head-within, head-says}
use Rattle.template_walk.specs.declared.Fault.{Fault}
use Rattle.template_walk.specs.declared.Fault.TheVariants.{TooDeep}
use Rattle.std.specs.Prelude.{Ok, Err}
use Rattle.template_walk.specs.Walk.{Walked, refused, plus}
use Rattle.template_walk.proofs.WalkFacts.{plus_none, plus-plus}
use Rattle.template_walk.proofs.Joining.{in_field}
use Rattle.laws_walk.specs.Trees.{Trees, none, leaf, template, encode, leaves, Lawful, deepest, Shallow}
use Rattle.laws_walk.specs.Faults.{FaultAt, head, over, deep, inside, after}
use Rattle.laws_walk.proofs.Finding.{into, within, step, found}
use Rattle.laws_walk.proofs.Fields.{Finds, finds-none, finds-head, finds-over, finds-leaf, finds-template, finds-inside, finds-deep}

-- ---- trees, and then what follows
-- a field of c leaves, the trees after it, and what follows those
module _ (levels c : ℕ) (x : List ℕ) (ts : Trees) (rest : List ℕ) (w : Walked) where
  joins : Finds levels (x ++ (encode ts ++ rest)) (plus c (length x) (plus (leaves ts) (length (encode ts)) w))
      → Finds levels (x ++ encode ts ++ rest) (plus (c + leaves ts) (length (x ++ encode ts)) w)
  joins r fuel p =
      ap (found fuel levels) (append_assoc x (encode ts) rest)
      ∙ r fuel (rw append_assoc at p)
      ∙ plus-plus c (length x) (leaves ts) (length (encode ts)) w
      ∙ ap (λ (n : ℕ). plus (c + leaves ts) n w) (sym (length-append x (encode ts)))

-- trees alone, from trees before nothing
alone : (ts : Trees) (levels : ℕ) → Finds levels (encode ts ++ []) (plus (leaves ts) (length (encode ts)) (Ok 0))
    → Finds levels (encode ts) (Ok (leaves ts))
alone ts levels r fuel p =
    ap (found fuel levels) (sym (append-nil (encode ts))) ∙ r fuel (rw append-nil p) ∙ ap Ok (add-zero (leaves ts))

finds-trees : (ts : Trees) (d levels : ℕ) → d + levels ≡ suc deepest → Lawful ts → Shallow d ts → (rest : List ℕ) (w : Walked)
    → Finds levels rest w → Finds levels (encode ts ++ rest) (plus (leaves ts) (length (encode ts)) w)
finds-trees none d levels e l sh rest w r = λ fuel p. r fuel p ∙ sym (plus_none w)
finds-trees (leaf tag v ts) d levels e l sh rest w r =
    joins levels 1 (field tag v) ts rest w
    (finds-leaf tag v (encode ts ++ rest) l.1 levels (plus (leaves ts) (length (encode ts)) w) l.0
    (finds-trees ts d levels e l.2 sh rest w r))
finds-trees (template tag is ts) d zero e l sh rest w r = absurd (omega (arith, sh.0))
finds-trees (template tag is ts) d (suc levels) e l sh rest w r =
    let inner = finds-trees is (suc d) levels (omega arith) l.2 sh.1 [] (Ok 0) (finds-none levels) in
    joins (suc levels) (leaves is) (field tag (encode is)) ts rest w
    (finds-template tag (encode is) (encode ts ++ rest) l.1 levels (leaves is) (plus (leaves ts) (length (encode ts)) w) l.0
    (alone is levels inner) (finds-trees ts d (suc levels) e l.3 sh.2 rest w r))

pub finds-encoding : (ts : Trees) (d levels : ℕ) → d + levels ≡ suc deepest → Lawful ts → Shallow d ts
    → Finds levels (encode ts) (Ok (leaves ts))
finds-encoding ts d levels e l sh = alone ts levels (finds-trees ts d levels e l sh [] (Ok 0) (finds-none levels))

-- ---- a fault
pub finds-fault : {d : ℕ} {s : List ℕ} {f : Fault} {k : ℕ} → FaultAt d s f k → (levels : ℕ) → d + levels ≡ suc deepest
    → Finds levels s (refused f k)
finds-fault (head {s = s} l h) levels e = finds-head levels s l h
finds-fault (over tag n rest b l) levels e = finds-over levels tag n rest b l
finds-fault (deep tag v rest b t g) zero e = finds-deep tag v rest b t
finds-fault (deep tag v rest b t g) (suc levels) e = absurd (omega arith)
finds-fault (inside tag v rest b t g x) zero e = absurd (omega arith)
finds-fault (inside {f = f} {k = k} tag v rest b t g x) (suc levels) e =
    finds-inside tag v rest b levels f k t (finds-fault x levels (omega arith))
finds-fault (after {d = d} {f = f} {k = k} ts rest l sh x) levels e =
    finds-trees ts d levels e l sh rest (refused f k) (finds-fault x levels e)

-- ---- what each answer says
abbrev pub Says : ℕ → List ℕ → Walked → Type 0
Says d s (Ok n) = (ts : Trees) × Lawful ts × Shallow d ts × (encode ts ≡ s) × (leaves ts ≡ n)
Says d s (Err r) = FaultAt d s r.fault r.place

-- the same list and place, written otherwise
moved : {d : ℕ} {s t : List ℕ} {f : Fault} {j k : ℕ} → s ≡ t → k ≡ j → FaultAt d t f j → FaultAt d s f k
moved p q x = rw (p, q) x

-- behind whole trees, by their bytes x
behind : (d : ℕ) (ts : Trees) (x rest s : List ℕ) (f : Fault) (k b : ℕ) → Lawful ts → Shallow d ts → encode ts ≡ x → length x ≡ b
    → s ≡ x ++ rest → FaultAt d rest f k → FaultAt d s f (b + k)
behind d ts x rest s f k b l sh e g q fault =
    moved (q ∙ ap (λ (y : List ℕ). y ++ rest) (sym e)) (ap (λ (m : ℕ). m + k) (sym g ∙ ap length (sym e))) (after ts rest l sh fault)

-- the field that begins s, where its head is read and its end is within s
module _ (d : ℕ) (s : List ℕ) (h n : ℕ) (said : HeadSays s (head_of h n)) (ends : h + n ≤ length s) where
  tag : ℕ
  tag = tag_of s

  v : List ℕ
  v = take n (drop h s)

  rest : List ℕ
  rest = drop (h + n) s

  long : length v ≡ n
  unfolding v
  long = length-take-le n (drop h s) (simp length-drop (omega arith))

  brief : length v < 256
  brief = omega (arith, long, said.0)

  split : s ≡ field tag v ++ rest
  unfolding tag v rest
  split =
      said.2
      ∙ ap (λ (r : List ℕ). field_head tag n ++ r) (sym (take-append-drop n (drop h s)) ∙ ap (λ (r : List ℕ). v ++ r) (drop-drop n h s))
      ∙ sym (append_assoc (field_head tag n) v rest)
      ∙ ap (λ (m : ℕ). field_head tag m ++ v ++ rest) (sym long)

  heads : length (field_head tag (length v)) ≡ h
  unfolding tag
  heads = ap (λ (m : ℕ). length (field_head tag m)) long ∙ sym said.1

  bytes : length (field tag v) ≡ h + n
  bytes = omega (arith, length-append (field_head tag (length v)) v, heads, long)

  -- no template
  says-leaf : is_template tag ≡ false → (w : Walked) → Says d rest w → Says d s (plus 1 (h + n) w)
  says-leaf t (Ok m) (ts, l, sh, e, c) =
      (leaf tag v ts, (t, brief, l), sh, ap (λ (r : List ℕ). field tag v ++ r) e ∙ sym split, ap (λ (k : ℕ). 1 + k) c)
  says-leaf t (Err r) x =
      behind d (leaf tag v none) (field tag v) rest s r.fault r.place (h + n) (t, brief, tt) tt (append-nil (field tag v)) bytes split x

  -- a template whose value is the encoding of trees
  says-template : is_template tag ≡ true → d ≤ deepest → (c : ℕ) → Says (suc d) v (Ok c) → (w : Walked) → Says d rest w
      → Says d s (plus c (h + n) w)
  says-template t g c (is, li, shi, ei, ci) (Ok m) (ts, l, sh, e, q) = (
    template tag is ts,
    (t, rw ei brief, li, l),
    (g, shi, sh),
    ap (λ (r : List ℕ). field tag r ++ encode ts) ei ∙ ap (λ (r : List ℕ). field tag v ++ r) e ∙ sym split,
    rw (ci, q),
  )
  says-template t g c (is, li, shi, ei, ci) (Err r) x =
      behind d (template tag is none) (field tag v) rest s r.fault r.place (h + n) (t, rw ei brief, li, tt) (g, shi, tt)
      (append-nil (field tag (encode is)) ∙ ap (field tag) ei) bytes split x

  says-inside : is_template tag ≡ true → d ≤ deepest → (f : Fault) (k : ℕ) → FaultAt (suc d) v f k → FaultAt d s f (h + k)
  says-inside t g f k x = moved split (ap (λ (m : ℕ). m + k) (sym heads)) (inside tag v rest brief t g x)

  says-deep : is_template tag ≡ true → deepest < d → FaultAt d s TooDeep 0
  says-deep t g = moved split refl (deep tag v rest brief t g)

-- ---- the reader's answer says what it should
module _ (again : ℕ → List ℕ → Walked) (s : List ℕ) (some : 1 ≤ length s)
    (ih : (d levels : ℕ) (t : List ℕ) → d + levels ≡ suc deepest → suc (length t) ≤ length s → Says d t (again levels t)) where
  -- a template, by what its value came to
  by_value : (d h n : ℕ) (said : HeadSays s (head_of h n)) (ends : h + n ≤ length s) → is_template (tag_of s) ≡ true → d ≤ deepest
      → (u w : Walked) → Says (suc d) (take n (drop h s)) u → Says d (drop (h + n) s) w → Says d s (into (in_field h u) (h + n) w)
  unfolding tag v rest
  by_value d h n said ends t g (Ok c) w x y = says-template d s h n said ends t g c x w y
  by_value d h n said ends t g (Err r) w x y = says-inside d s h n said ends t g r.fault r.place x

  by-levels : (d levels h n : ℕ) → d + levels ≡ suc deepest → (said : HeadSays s (head_of h n)) (ends : h + n ≤ length s) → 2 ≤ h
      → is_template (tag_of s) ≡ true → Says d s (into (within again levels h (take n (drop h s))) (h + n) (again levels (drop (h + n) s)))
  unfolding tag
  by-levels d zero h n e said ends two t = says-deep d s h n said ends t (omega arith)
  by-levels d (suc levels) h n e said ends two t =
      by_value d h n said ends t (omega arith) (again levels (take n (drop h s))) (again (suc levels) (drop (h + n) s))
      (ih (suc d) levels (take n (drop h s)) (omega arith) (simp (length-take, length-drop) (omega arith)))
      (ih d (suc levels) (drop (h + n) s) e (simp length-drop (omega arith)))

  by-head : (d levels : ℕ) (r : Option Head) → d + levels ≡ suc deepest → HeadSays s r → Within s r → Says d s (step again levels s r)
  unfolding tag rest
  by-head d levels None e said w = head some said
  by-head d levels (Some hd) e said w =
      let h = hd.head_bytes in
      let n = hd.value_bytes in
      by-test (Says d s) (ltb (length s) (h + n))
      (λ o. moved said.2 refl
      (over (tag_of s) n (drop h s) said.0 (simp length-drop (omega (arith, ltb-true (length s) (h + n) o, w)))))
      (λ o. let ends : h + n ≤ length s = ltb-false (length s) (h + n) o in
      by-test (Says d s) (is_template (tag_of s)) (λ t. by-levels d levels h n e said ends w.0 t)
      (λ t. says-leaf d s h n said ends t (again levels (drop (h + n) s))
      (ih d levels (drop (h + n) s) e (simp length-drop (omega (arith, w))))))

pub found-says : (fuel d levels : ℕ) (s : List ℕ) → d + levels ≡ suc deepest → length s ≤ fuel → Says d s (found fuel levels s)
unfolding found
found-says zero d levels [] e p = (none, tt, tt, refl, refl)
found-says zero d levels (x ∷ s) e p = absurd (omega arith)
found-says (suc fuel) d levels [] e p = (none, tt, tt, refl, refl)
found-says (suc fuel) d levels (x ∷ s) e p =
    by-head (found fuel) (x ∷ s) (omega arith) (λ c l t g q. found-says fuel c l t g (omega arith)) d levels (read_head (x ∷ s)) e
    (head-says (x ∷ s) (read_head (x ∷ s)) refl).1 (head-within (x ∷ s))
