-- WALK by what it reads: it counts n exactly for the encodings of trees with n leaves, and refuses exactly where there is a first fault, with that fault
-- and its offset in bytes; every input is the one or has the other, and a fault has one place, which is that of a tag.
-- Assumes nothing.
use mathlib.Core.Path.{◌≡◌, refl, sym, ap, ◌∙◌, subst}
use mathlib.Core.Bool.{true}
use mathlib.Core.List.{List, ◌++◌, append_assoc}
use mathlib.Core.Logic.{◌↔◌, ◌⊎◌, inl, inr}
use Prim.Native.Nat.{ℕ, ◌<◌}
use native.Mathlib.Omega.{arith}
use lib.ListN.{length, get_or, length-append, get_or-append}
use lib.Seq.{get_or-append-add}
use Rattle.template_rules.specs.Template.{is_template, field_head, field}
use Rattle.template_walk.specs.declared.Fault.{Fault}
use Rattle.template_walk.specs.declared.Refused.{Refused}
use Rattle.template_walk.specs.declared.Fault.TheVariants.{Malformed, TooDeep}
use Rattle.std.specs.Prelude.{Ok, Err}
use Rattle.template_walk.specs.Walk.{Walked, refused, walk_of, refusal_number, WalkOut, report, WALK}
use Rattle.laws_walk.specs.Trees.{Trees, encode, deepest, Encodes, Holds}
use Rattle.laws_walk.specs.Faults.{FaultAt, head, over, deep, inside, after, FirstFault}
use Rattle.laws_walk.proofs.Finding.{found, found-walks}
use Rattle.laws_walk.proofs.Reading.{finds-encoding, finds-fault, Says, found-says}

-- ---- what the reader gives for an input
answer : List ℕ → Walked
answer s = found (length s) deepest s

answer-walks : (s : List ℕ) → answer s ≡ walk_of s
unfolding answer
answer-walks s = found-walks (length s) deepest s (omega arith)

answer-says : (s : List ℕ) → Says 1 s (answer s)
unfolding answer
answer-says s = found-says (length s) 1 deepest s refl (omega arith)

walk-says : (s : List ℕ) (w : Walked) → walk_of s ≡ w → Says 1 s w
walk-says s w e = subst (Says 1 s) (answer-walks s ∙ e) (answer-says s)

-- ---- what is taken
pub walk-trees : (ts : Trees) (s : List ℕ) (n : ℕ) → Encodes ts s n → walk_of s ≡ Ok n
unfolding answer
walk-trees ts s n x =
    ap walk_of (sym x.encoded)
    ∙ sym (answer-walks (encode ts))
    ∙ finds-encoding ts 1 deepest refl x.lawful x.shallow (length (encode ts)) (omega arith)
    ∙ ap Ok x.counted

pub holds_of : (s : List ℕ) (n : ℕ) → walk_of s ≡ Ok n → Holds s n
holds_of s n e =
    let (ts, l, sh, q, c) = walk-says s (Ok n) e in
    (ts, record { lawful = l; shallow = sh; encoded = q; counted = c })

-- ---- what is refused: WALK's fault and place are those of the first fault
pub walk-fault : (s : List ℕ) (f : Fault) (k : ℕ) → FirstFault s f k → walk_of s ≡ refused f k
unfolding answer
walk-fault s f k x = sym (answer-walks s) ∙ finds-fault x deepest refl (length s) (omega arith)

pub fault-of : (s : List ℕ) (f : Fault) (k : ℕ) → walk_of s ≡ refused f k → FirstFault s f k
fault-of s f k e = walk-says s (refused f k) e

-- ---- one of the three, and no two
pub one-case : (s : List ℕ) → ((n : ℕ) × Holds s n) ⊎ (((k : ℕ) × FirstFault s Malformed k) ⊎ ((k : ℕ) × FirstFault s TooDeep k))
one-case s = go (walk_of s) refl
  where
    go : (w : Walked) → walk_of s ≡ w
        → ((n : ℕ) × Holds s n) ⊎ (((k : ℕ) × FirstFault s Malformed k) ⊎ ((k : ℕ) × FirstFault s TooDeep k))
    go (Ok n) e = inl (n, holds_of s n e)
    go (Err r) e = by-fault r.fault r.place e
      where
        by-fault : (f : Fault) (k : ℕ) → walk_of s ≡ refused f k
            → ((n : ℕ) × Holds s n) ⊎ (((k : ℕ) × FirstFault s Malformed k) ⊎ ((k : ℕ) × FirstFault s TooDeep k))
        by-fault Malformed k e = inr (inl (k, fault-of s Malformed k e))
        by-fault TooDeep k e = inr (inr (k, fault-of s TooDeep k e))

pub not-both : (s : List ℕ) (n : ℕ) (f : Fault) (k : ℕ) → Holds s n → FirstFault s f k → ⊥
not-both s n f k (ts, h) x =
    let p : Ok n ≡ refused f k = sym (walk-trees ts s n h) ∙ walk-fault s f k x in
    let z : ◌≡◌ {A = ℕ} 0 1 = cc in omega arith

pub one-fault : (s : List ℕ) (f g : Fault) (j k : ℕ) → FirstFault s f j → FirstFault s g k → (f ≡ g) × (j ≡ k)
one-fault s f g j k x y =
    let p : refused f j ≡ refused g k = sym (walk-fault s f j x) ∙ walk-fault s g k y in
    let q : ◌≡◌ {A = Refused} (record { fault = f; place = j }) (record { fault = g; place = k }) = cc p in
    (ap (λ (r : Refused). r.fault) q, ap (λ (r : Refused). r.place) q)

-- ---- the place is that of a byte of the input, and of a template's tag where the fault is that it stands too deep
pub fault-place : {d : ℕ} {s : List ℕ} {f : Fault} {k : ℕ} → FaultAt d s f k → k < length s
fault-place (head l h) = omega arith
fault-place (over tag n rest b l) = omega arith
fault-place (deep tag v rest b t g) = omega arith
fault-place (inside tag v rest b t g x) =
    omega (arith, fault-place x, length-append (field tag v) rest, length-append (field_head tag (length v)) v)
fault-place (after ts rest l sh x) = omega (arith, fault-place x, length-append (encode ts) rest)

pub fault-tag : {d : ℕ} {s : List ℕ} {f : Fault} {k : ℕ} → FaultAt d s f k → f ≡ TooDeep → is_template (get_or s k 0) ≡ true
fault-tag (head l h) e = absurd (let z : ◌≡◌ {A = ℕ} 0 1 = cc in omega arith)
fault-tag (over tag n rest b l) e = absurd (let z : ◌≡◌ {A = ℕ} 0 1 = cc in omega arith)
fault-tag (deep tag v rest b t g) e = t
fault-tag (inside {k = k} tag v rest b t g x) e =
    rw (
      append_assoc (field_head tag (length v)) v rest,
      get_or-append-add (field_head tag (length v)) (v ++ rest) k 0,
      get_or-append v rest 0 k (fault-place x),
    ) (fault-tag x e)
fault-tag (after {k = k} ts rest l sh x) e = rw (get_or-append-add (encode ts) rest k 0) (fault-tag x e)

-- no fault has the number of none
not-none : (f : Fault) → refusal_number f ≡ 0 → ⊥
not-none Malformed e = omega arith
not-none TooDeep e = omega arith

-- ---- WALK, by the numbers that it tells: the refusal's, the count of fields, and the fault offset
pub counts-fields : (w : Walked) (n : ℕ) → report w ≡ record { refusal = 0; count = n; offset = 0 } → w ≡ Ok n
counts-fields (Ok m) n e = ap (λ (r : WalkOut). Ok r.count) e
counts-fields (Err r) n e = absurd (not-none r.fault (ap (λ (o : WalkOut). o.refusal) e))

pub walk-encodes : {ts : Trees} {s : List ℕ} {n : ℕ} → Encodes ts s n → WALK s ≡ record { refusal = 0; count = n; offset = 0 }
walk-encodes {ts} {s} {n} x = ap report (walk-trees ts s n x)

pub taken : (s : List ℕ) (n : ℕ) → WALK s ≡ record { refusal = 0; count = n; offset = 0 } ↔ Holds s n
taken s n = (λ e. holds_of s n (counts-fields (walk_of s) n e), λ h. walk-encodes h.1)

-- the numbers of a refusal say all of it
tells-fault : (w : Walked) (f : Fault) → (report w).refusal ≡ refusal_number f → w ≡ refused f (report w).offset
tells-fault (Ok m) f e = absurd (not-none f (sym e))
tells-fault (Err r) f e = ap (λ (g : Fault). refused g r.place) (one-number r.fault f e)
  where
    one-number : (g f : Fault) → refusal_number g ≡ refusal_number f → g ≡ f
    one-number Malformed Malformed q = refl
    one-number Malformed TooDeep q = absurd (omega arith)
    one-number TooDeep Malformed q = absurd (omega arith)
    one-number TooDeep TooDeep q = refl

-- WALK refuses with the number of f and tells the offset k exactly if the first fault is f, and its field's tag is at k
pub told-fault : (s : List ℕ) (f : Fault) (k : ℕ) → (((WALK s).refusal ≡ refusal_number f) × ((WALK s).offset ≡ k)) ↔ FirstFault s f k
told-fault s f k = (
  λ e. fault-of s f k (tells-fault (walk_of s) f e.0 ∙ ap (refused f) e.1),
  λ x. let e = ap report (walk-fault s f k x) in (ap (λ (r : WalkOut). r.refusal) e, ap (λ (r : WalkOut). r.offset) e),
)

-- with the number alone: there is such a k
refuses : (s : List ℕ) (f : Fault) → (WALK s).refusal ≡ refusal_number f ↔ ((k : ℕ) × FirstFault s f k)
refuses s f = (λ e. ((WALK s).offset, (told-fault s f (WALK s).offset).0 (e, refl)), λ x. ((told-fault s f x.0).1 x.1).0)

pub malformed : (s : List ℕ) → (WALK s).refusal ≡ 4 ↔ ((k : ℕ) × FirstFault s Malformed k)
malformed s = refuses s Malformed

pub too-deep : (s : List ℕ) → (WALK s).refusal ≡ 5 ↔ ((k : ℕ) × FirstFault s TooDeep k)
too-deep s = refuses s TooDeep

-- ---- the offset is 0 where nothing is refused, and that of a byte of the input where something is
pub offset-none : (s : List ℕ) → (WALK s).refusal ≡ 0 → (WALK s).offset ≡ 0
offset-none s = go (walk_of s)
  where
    go : (w : Walked) → (report w).refusal ≡ 0 → (report w).offset ≡ 0
    go (Ok n) e = refl
    go (Err r) e = absurd (not-none r.fault e)

pub offset-place : (s : List ℕ) → ((WALK s).refusal ≡ 0 → ⊥) → (WALK s).offset < length s
offset-place s = go (walk_of s) refl
  where
    go : (w : Walked) → walk_of s ≡ w → ((report w).refusal ≡ 0 → ⊥) → (report w).offset < length s
    go (Ok n) e h = absurd (h refl)
    go (Err r) e h = fault-place (fault-of s r.fault r.place e)
