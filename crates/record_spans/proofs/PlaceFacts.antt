-- Facts about the places of fields, and about a list that is filled from another. Assumes nothing.
use mathlib.Core.Path.{◌≡◌, refl, sym, ap, ap₂, ◌∙◌}
use mathlib.Core.List.{List, [], ◌∷◌, ◌++◌, append-nil}
use Prim.Native.Nat.{ℕ, zero, suc, ◌+◌, ◌*◌, ◌-◌, ◌≤◌, ◌<◌, min}
use native.Mathlib.Nat.{add-zero}
use native.Mathlib.Numerals.{add-one}
use native.Mathlib.Omega.{arith}
use lib.ListN.{length, take, drop, get_or, set, replicate, drop_of_length-le, length-drop}
use borrow.Rule.Slice.PartMut.{put_mid}
use lib.Seq.{take-suc-set, drop-drop, get_or-drop, take_all, take-nil, drop-nil, drop-length, length-take-le, take-append_seam, drop-append_seam}
use Rattle.card.specs.declared.Slot.{Slot}
use Rattle.card.specs.Sizes.{key_bytes, slot_bytes}
use Rattle.record_rules.specs.Lengths.{head_bytes}
use Rattle.record_rules.specs.Parse.{head_length, body, rest, fit, slot_from, slots_from}
use Rattle.record_spans.specs.declared.FieldSpan.{FieldSpan}
use Rattle.record_spans.specs.Spans.{Spans}

-- ---- get_or past the end
pub get_d_past : (s : List ℕ) (i : ℕ) → length s ≤ i → get_or s i 0 ≡ 0
get_d_past [] i h = refl
get_d_past (x ∷ s) zero h = absurd (nothing-below h)
  where
    nothing-below : {n : ℕ} → suc n ≤ 0 → ⊥
    nothing-below p = omega arith
get_d_past (x ∷ s) (suc i) h = get_d_past s i (omega arith)

-- ---- Spans: the three cases of a field's head, with n for the length that it gives
module _ (s : List ℕ) (at : ℕ) where
  pub head_at : head_length (drop at s) ≡ get_or s (at + 1) 0 * 256 + get_or s (at + 2) 0
  head_at = rw (get_or-drop at s 1 0, get_or-drop at s 2 0)

  body_at : (n : ℕ) → n ≡ head_length (drop at s) → body (drop at s) ≡ take n (drop (at + head_bytes) s)
  unfolding body
  body_at n e = ap₂ (λ (k : ℕ) (l : List ℕ). take k l) (sym e) (drop-drop head_bytes at s)

  rest_at : (n : ℕ) → n ≡ head_length (drop at s) → rest (drop at s) ≡ drop n (drop (at + head_bytes) s)
  unfolding rest
  rest_at n e = ap₂ (λ (k : ℕ) (l : List ℕ). drop k l) (sym e) (drop-drop head_bytes at s)

  -- no whole head is left
  pub spans-none : at ≤ length s → length s < at + head_bytes → Spans s at (record { start = length s; «end» = length s })
  spans-none fits h = record {
    follows = fits;
    ordered = omega arith;
    within = omega arith;
    inside =
        ap (take (length s - length s)) (drop-length s) ∙ take-nil (length s - length s)
        ∙ sym (body_at n refl ∙ ap (take n) gone ∙ take-nil n);
    behind = drop-length s ∙ sym (rest_at n refl ∙ ap (drop n) gone ∙ drop-nil n);
  }
    where
      n : ℕ
      n = head_length (drop at s)

      gone : drop (at + head_bytes) s ≡ []
      gone = drop_of_length-le s {i = at + head_bytes} (omega arith)

  -- the content is cut off by the slice's end
  pub spans-cut : (n : ℕ) → n ≡ head_length (drop at s) → at + head_bytes ≤ length s → length s - (at + head_bytes) < n
      → Spans s at (record { start = at + head_bytes; «end» = length s })
  spans-cut n e h short = record {
    follows = omega arith;
    ordered = h;
    within = omega arith;
    inside =
        take_all (length s - (at + head_bytes)) (drop (at + head_bytes) s) (omega (arith, left))
        ∙ sym (body_at n e ∙ take_all n (drop (at + head_bytes) s) (omega (arith, left)));
    behind = drop-length s ∙ sym (rest_at n e ∙ drop_of_length-le (drop (at + head_bytes) s) {i = n} (omega (arith, left)));
  }
    where
      left : length (drop (at + head_bytes) s) ≡ length s - (at + head_bytes)
      left = length-drop (at + head_bytes) s

  -- the content is there in full
  pub spans-whole : (n : ℕ) → n ≡ head_length (drop at s) → at + head_bytes + n ≤ length s
      → Spans s at (record { start = at + head_bytes; «end» = at + head_bytes + n })
  spans-whole n e h = record {
    follows = omega arith;
    ordered = omega arith;
    within = h;
    inside = ap (λ (k : ℕ). take k (drop (at + head_bytes) s)) long ∙ sym (body_at n e);
    behind = sym (rest_at n e ∙ drop-drop n (at + head_bytes) s);
  }
    where
      long : at + head_bytes + n - (at + head_bytes) ≡ n
      long = omega arith

-- ---- Spans: how long the content is
pub span-length : {s : List ℕ} {at : ℕ} {r : FieldSpan} → Spans s at r → length (body (drop at s)) ≡ r.«end» - r.start
span-length {s} {at} {r} p =
    ap length (sym p.inside)
    ∙ length-take-le (r.«end» - r.start) (drop r.start s) (omega (arith, p.ordered, p.within, length-drop r.start s))

-- ---- slots_from: one slot more
slots-from-suc : (n : ℕ) (x : List ℕ) → slots_from (suc n) x ≡ slots_from n x ++ (slot_from (drop (slot_bytes * n) x) ∷ [])
unfolding slots_from
slots-from-suc zero x = refl
slots-from-suc (suc n) x =
    ap {B = List Slot} (λ r. slot_from x ∷ r)
    (slots-from-suc n (drop slot_bytes x)
    ∙ ap (λ (l : List ℕ). slots_from n (drop slot_bytes x) ++ (slot_from l ∷ [])) (drop-drop (slot_bytes * n) slot_bytes x ∙ ap (λ (k : ℕ). drop k x) next))
  where
    next : slot_bytes + slot_bytes * n ≡ slot_bytes * suc n
    next = omega arith

pub slots-from-next : (x : List ℕ) (slots : List Slot) (i : ℕ) (v : Slot) → i < length slots → take i slots ≡ slots_from i x
    → v ≡ slot_from (drop (slot_bytes * i) x) → take (i + 1) (set slots i v) ≡ slots_from (i + 1) x
slots-from-next x slots i v h e f =
    rw (add-one i)
    (take-suc-set slots i v h
    ∙ ap₂ (λ (l : List Slot) (w : Slot). l ++ (w ∷ [])) e f
    ∙ sym (slots-from-suc i x))

-- the flag, and the key after it
pub slot_at : (x key : List ℕ) (at n : ℕ) → length x ≡ n → key ≡ fit key_bytes (take (n - (at + 1)) (drop (at + 1) x))
    → ◌≡◌ {A = Slot} (record { filled = get_or x at 0; key = key }) (slot_from (drop at x))
slot_at x key at n l e =
    ap₂ {C = Slot} (λ (b : ℕ) (k : List ℕ). record { filled = b; key = k })
    (ap (λ (j : ℕ). get_or x j 0) (sym (add-zero at)) ∙ sym (get_or-drop at x 0 0))
    (e ∙ ap (fit key_bytes) (take_all (n - (at + 1)) (drop (at + 1) x) (omega (arith, length-drop (at + 1) x)) ∙ sym (drop-drop 1 at x)))

-- ---- fit: what there is to copy, and zeros for the rest
fit-parts : (n t : ℕ) (x : List ℕ) → t ≡ min n (length x) → fit n x ≡ take t x ++ replicate (n - t) 0
fit-parts zero zero x e = refl
fit-parts zero (suc t) x e = absurd (omega arith)
fit-parts (suc n) zero [] e =
    let less : n - 0 ≡ n = omega arith in
    let more : suc n ≡ suc n - 0 = omega arith in
    ap (λ (s : List ℕ). 0 ∷ s) (fit-parts n zero [] (omega arith) ∙ ap (λ (k : ℕ). replicate k 0) less) ∙ ap (λ (k : ℕ). replicate k 0) more
fit-parts (suc n) (suc t) [] e = absurd (omega arith)
fit-parts (suc n) zero (y ∷ x) e = absurd (omega arith)
fit-parts (suc n) (suc t) (y ∷ x) e = let z : n - t ≡ suc n - suc t = omega arith in
    ap (λ (s : List ℕ). y ∷ s) (fit-parts n t x (omega arith) ∙ ap (λ (k : ℕ). take t x ++ replicate k 0) z)

pub filled_parts : (n t k : ℕ) (dst x a f : List ℕ) → length dst ≡ n → t ≡ min n (length x) → a ≡ take t x → f ≡ replicate (n - t) 0
    → k ≡ n - t → put_mid t k (a ++ drop t dst) f ≡ fit n x
filled_parts n t k dst x a f long least ea ef ek =
    ap₂ (λ (front back : List ℕ). front ++ (f ++ drop k back)) front back
    ∙ ap (λ (s : List ℕ). a ++ (f ++ s)) (drop_of_length-le (drop t dst) (omega (arith, length-drop t dst)))
    ∙ ap₂ (λ (u v : List ℕ). u ++ v) ea (append-nil f ∙ ef)
    ∙ sym (fit-parts n t x least)
  where
    whole : length a ≡ t
    whole = ap length ea ∙ length-take-le t x (omega arith)

    front : take t (a ++ drop t dst) ≡ a
    front = ap (λ (i : ℕ). take i (a ++ drop t dst)) (sym whole) ∙ take-append_seam a (drop t dst)

    back : drop t (a ++ drop t dst) ≡ drop t dst
    back = ap (λ (i : ℕ). drop i (a ++ drop t dst)) (sym whole) ∙ drop-append_seam a (drop t dst)
