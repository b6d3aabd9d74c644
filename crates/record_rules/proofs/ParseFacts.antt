-- Facts about taking a record apart: what was encoded is found again, field by field and part by part.
-- Assumes nothing.
use mathlib.Core.Path.{◌≡◌, refl, sym, ap, ap₂, ◌∙◌}
use mathlib.Core.Bool.{Bool, true, false, cond, not, ◌||◌}
use mathlib.Core.List.{List, [], ◌∷◌, ◌++◌}
use Prim.Native.Nat.{ℕ, zero, suc, ◌+◌, ◌*◌, ◌-◌, ◌≤◌, min}
use native.Mathlib.Nat.{min-eq_left}
use native.Mathlib.Numerals.{add-one}
use native.Mathlib.Omega.{arith}
use lib.Dec.{leb}
use lib.ListN.{length, take, drop, length-append, length-drop, take-append-drop}
use lib.Seq.{drop_at, drop-drop, length-take-le, take-append_seam}
use borrow.Author.Tests.{leb-true}
use Rattle.octets.proofs.Lists.{tabulated, ◌&◌}
use Rattle.card.specs.declared.Slot.{Slot}
use Rattle.card.specs.declared.Path.{Path}
use Rattle.card.specs.declared.Keys.{Keys}
use Rattle.card.specs.declared.Tap.{Tap}
use Rattle.card.specs.Sizes.{key_bytes, path_most_bytes, tap_most_bytes, slot_bytes}
use Rattle.card.specs.State.{zeros, key_uid, path_bytes, tap_bytes}
use Rattle.card.specs.Shape.{KeysLong}
use Rattle.card.specs.Slots.{is_zero, all_zero}
use Rattle.card.proofs.Tests.{zero-list}
use Rattle.card.proofs.Rules.{PathRules, TapRules}
use Rattle.record_rules.specs.Fields.{Field, encode, encode_all, slots_bytes}
use Rattle.record_rules.specs.Lengths.{head_bytes}
use Rattle.record_rules.specs.Parse.{head_length, body, rest, behind, content, fit, path_from, tap_from, slots_from}

-- ---- body and rest of encoded fields
head-encode : (t : ℕ) (x r : List ℕ) → head_length (encode t x ++ r) ≡ length x
head-encode t x r = omega arith

pub body-encode : (t : ℕ) (x r : List ℕ) → body (encode t x ++ r) ≡ x
unfolding body
body-encode t x r = ap (λ (n : ℕ). take n (x ++ r)) (head-encode t x r) ∙ take-append_seam x r

pub rest-encode : (t : ℕ) (x r : List ℕ) → rest (encode t x ++ r) ≡ r
unfolding rest
rest-encode t x r = drop_at x r (head_length (encode t x ++ r)) (sym (head-encode t x r))

-- the content of the first field, or nothing
abbrev pub first_content : List Field → List ℕ
first_content [] = []
first_content (f ∷ more) = f.content

body-all : (fs : List Field) → body (encode_all fs) ≡ first_content fs
unfolding body encode_all
body-all [] = refl
body-all (f ∷ fs) = body-encode f.tag f.content (encode_all fs)

rest_all : (fs : List Field) → rest (encode_all fs) ≡ encode_all (drop 1 fs)
unfolding rest encode_all
rest_all [] = refl
rest_all (f ∷ fs) = rest-encode f.tag f.content (encode_all fs)

pub behind-all : (fs : List Field) (k : ℕ) → behind k (encode_all fs) ≡ encode_all (drop k fs)
behind-all fs zero = refl
behind-all fs (suc k) =
    ap rest (behind-all fs k) ∙ rest_all (drop k fs)
    ∙ ap encode_all (drop-drop 1 k fs ∙ ap (λ (n : ℕ). drop n fs) (add-one k))

pub content-all : (fs : List Field) (k : ℕ) → content (encode_all fs) k ≡ first_content (drop k fs)
content-all fs k = ap body (behind-all fs k) ∙ body-all (drop k fs)

-- what is behind some fields is no longer than the whole
rest-short : (s : List ℕ) → length (rest s) ≤ length s
unfolding rest
rest-short s = omega (arith, length-drop (head_length s) (drop head_bytes s), length-drop head_bytes s)

pub behind-short : (s : List ℕ) (k : ℕ) → length (behind k s) ≤ length s
behind-short s zero = omega arith
behind-short s (suc k) = omega (arith, behind-short s k, rest-short (behind k s))

-- ---- fit
pub fit-exact : (n : ℕ) (x : List ℕ) → length x ≡ n → fit n x ≡ x
fit-exact n x h = sym (tabulated n x h)

pub fit-front : (n : ℕ) (x r : List ℕ) → length x ≡ n → fit n (x ++ r) ≡ x
fit-front n x r h = ap (λ (k : ℕ). fit k (x ++ r)) (sym h) ∙ whole x
  where
    whole : (y : List ℕ) → fit (length y) (y ++ r) ≡ y
    whole [] = refl
    whole (b ∷ y) = refl & whole y

fit-nothing : (n : ℕ) → fit n [] ≡ zeros n
fit-nothing zero = refl
fit-nothing (suc n) = refl & fit-nothing n

pub fit-pad : (x : List ℕ) (m n : ℕ) → n ≡ length x + m → fit n x ≡ x ++ zeros m
fit-pad [] m n e = ap (λ (k : ℕ). fit k []) {x = n} {y = m} (omega arith) ∙ fit-nothing m
fit-pad (b ∷ x) m zero e = absurd (omega arith)
fit-pad (b ∷ x) m (suc n) e = refl & fit-pad x m n (omega arith)

-- ---- the parts of a sound card
-- bytes in use at the start of a room of n bytes, zeros after them: the content fills the room again
module _ (n len : ℕ) (b : List ℕ) (most : leb len n ≡ true) (clear : all_zero (drop len b) ≡ true) (l : length b ≡ n) where
  used : length (take len b) ≡ len
  used = length-take-le len b (omega (arith, leb-true len n most, l))

  pub used-back : min (length (take len b)) n ≡ len
  used-back = ap (λ (k : ℕ). min k n) used ∙ min-eq_left (leb-true len n most)

  pub room_back : fit n (take len b) ≡ b
  room_back =
      fit-pad (take len b) (length (drop len b)) n (omega (arith, leb-true len n most, used, l, length-drop len b))
      ∙ ap (λ (x : List ℕ). take len b ++ x) (sym (zero-list (drop len b) clear))
      ∙ take-append-drop len b

pub path-back : (p : Path) → PathRules p → length p.bytes ≡ path_most_bytes → path_from (path_bytes p) ≡ p
path-back p r l =
    ap₂ {C = Path} (λ (n : ℕ) (b : List ℕ). record { len = n; bytes = b })
    (used-back path_most_bytes p.len p.bytes r.most r.unused l) (room_back path_most_bytes p.len p.bytes r.most r.unused l)

pub tap-back : (t : Tap) → TapRules t → length t.bytes ≡ tap_most_bytes → tap_from (tap_bytes t) ≡ t
tap-back t r l =
    ap₂ {C = Tap} (λ (n : ℕ) (b : List ℕ). record { len = n; bytes = b })
    (used-back tap_most_bytes t.len t.bytes r.most r.unused l) (room_back tap_most_bytes t.len t.bytes r.most r.unused l)

pub key_back : (k : Keys) → (not (is_zero k.kind) || all_zero k.uid) ≡ true → length k.uid ≡ key_bytes
    → fit key_bytes (key_uid k) ≡ k.uid
key_back k r l = by_kind (is_zero k.kind) refl r
  where
    by_kind : (b : Bool) → is_zero k.kind ≡ b → (not b || all_zero k.uid) ≡ true → fit key_bytes (cond b [] k.uid) ≡ k.uid
    by_kind true z h = sym (zero-list k.uid h ∙ ap zeros l)
    by_kind false z h = fit-exact key_bytes k.uid l

pub slots-long : (s : List Slot) → KeysLong s → length (slots_bytes s) ≡ slot_bytes * length s
unfolding slots_bytes
slots-long [] h = refl
slots-long (x ∷ s) h =
    omega (arith, length-append (x.filled ∷ x.key) (slots_bytes s), h.0, slots-long s h.1)

pub slots-back : (s : List Slot) → KeysLong s → slots_from (length s) (slots_bytes s) ≡ s
unfolding slots_bytes slots_from
slots-back [] h = refl
slots-back (x ∷ s) h =
    ap₂ {C = List Slot} (λ (y : Slot) (r : List Slot). y ∷ r)
    (ap {B = Slot} (λ (k : List ℕ). record { filled = x.filled; key = k }) (fit-front key_bytes x.key (slots_bytes s) h.0))
    (ap (slots_from (length s)) (drop_at (x.filled ∷ x.key) (slots_bytes s) slot_bytes (omega (arith, h.0))) ∙ slots-back s h.1)
