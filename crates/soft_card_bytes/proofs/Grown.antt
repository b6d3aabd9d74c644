-- A list that is read from its front on: from what lies before a place to what lies before the next.
-- Every place and length is in bytes.
-- Assumes nothing.
use mathlib.Core.Path.{◌≡◌, refl, sym, ap, ap₂, ◌∙◌}
use mathlib.Core.List.{List, [], ◌∷◌, ◌++◌, append_assoc}
use Prim.Native.Nat.{ℕ, zero, suc, ◌+◌, ◌*◌, ◌≤◌, ◌<◌}
use native.Mathlib.Numerals.{add-one}
use native.Mathlib.Omega.{arith}
use lib.ListN.{length, take, drop, get_or, length-drop, take-append-drop}
use lib.Seq.{take-add, take-suc, length-take-le}
use Rattle.octets.proofs.Lists.{◌&◌}
use Rattle.card.specs.Sizes.{key_bytes, slot_bytes}
use Rattle.record_rules.specs.Fields.{slots_bytes}
use Rattle.record_rules.specs.Parse.{fit, slots_from}
use Rattle.record_rules.proofs.ParseFacts.{fit-front}

-- ---- one piece after the other
pub join : (p x y : List ℕ) {q r : List ℕ} → p ++ x ≡ q → q ++ y ≡ r → p ++ (x ++ y) ≡ r
join p x y e f = sym (append_assoc p x y) ∙ ap (λ (l : List ℕ). l ++ y) e ∙ f

-- ---- fit: as many bytes as are there
pub fit-take : (n : ℕ) (s : List ℕ) → n ≤ length s → fit n s ≡ take n s
fit-take n s h =
    ap (fit n) (sym (take-append-drop n s)) ∙ fit-front n (take n s) (drop n s) (length-take-le n s h)

-- ---- reading
pub read-bytes : (s : List ℕ) (at n : ℕ) {x : List ℕ} → at + n ≤ length s → x ≡ fit n (drop at s) → take at s ++ x ≡ take (at + n) s
read-bytes s at n h e =
    ap (λ (l : List ℕ). take at s ++ l) (e ∙ fit-take n (drop at s) (omega (arith, length-drop at s)))
    ∙ sym (take-add at n s)

pub read_byte : (s : List ℕ) (at : ℕ) → at < length s → take at s ++ (get_or s at 0 ∷ []) ≡ take (at + 1) s
read_byte s at h = sym (take-suc s at 0 h) ∙ ap (λ (n : ℕ). take n s) (sym (add-one at))

-- ---- a byte and the n bytes after it: a length in use and its room, whatever the room's length
pub read-room : (s : List ℕ) (at n : ℕ) → at + (1 + n) ≤ length s → take at s ++ (get_or s at 0 ∷ fit n (drop (at + 1) s)) ≡ take (at + (1 + n)) s
read-room s at n h =
    join (take at s) _ _ (read_byte s at (omega arith)) (read-bytes s (at + 1) n (omega arith) refl)
    ∙ ap (λ (k : ℕ). take k s) {x = at + 1 + n} {y = at + (1 + n)} (omega arith)

-- ---- the slots of bytes, as bytes again
pub slots-again : (n : ℕ) (x : List ℕ) → length x ≡ slot_bytes * n → slots_bytes (slots_from n x) ≡ x
unfolding slots_bytes slots_from
slots-again zero [] h = refl
slots-again zero (b ∷ x) h = absurd (omega arith)
slots-again (suc n) [] h = absurd (omega arith)
slots-again (suc n) (b ∷ x) h =
    refl & (ap₂ (λ (k r : List ℕ). k ++ r) (fit-take key_bytes x (omega arith)) (slots-again n (drop key_bytes x) (omega (arith, length-drop key_bytes x)))
    ∙ take-append-drop key_bytes x)
