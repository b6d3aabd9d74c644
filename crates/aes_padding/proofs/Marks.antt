-- What a search for the mark, from the end of a list, may conclude from what it saw.
-- Assumes nothing.
use mathlib.Core.Path.{◌≡◌, sym, ap, ◌∙◌}
use mathlib.Core.List.{List, ◌∷◌}
use Prim.Native.Nat.{ℕ, ◌+◌, ◌-◌, ◌%◌, ◌≤◌, ◌<◌}
use native.Mathlib.Decide.{dec_lt}
use native.Mathlib.Omega.{arith}
use lib.ListN.{length, take, drop, get_or, replicate, get_or-append, get_or-eq_default, length-drop}
use lib.Seq.{ext_get_or, get_or-take, length-take-le, take_all}
use Rattle.std.proofs.lemmas.List.{get_or-drop}
use Rattle.aes_padding.specs.Padding.{padded_bytes, pad, unpad, answer}
use Rattle.std.specs.Prelude.{Some, None}
use Rattle.aes_padding.proofs.Laws.{length-pad, mark-at, zeros-behind, padded-whole, padded-larger, padded-within, padded-next, unpad-pad, unpad-none}

-- only zeros from byte n on
abbrev pub Zeros : List ℕ → ℕ → Type 0
Zeros ys n = (k : ℕ) → n ≤ k → get_or ys k 0 ≡ 0

front : (xs : List ℕ) (k : ℕ) → k < length xs → get_or (pad xs) k 0 ≡ get_or xs k 0
unfolding pad
front xs k h = get_or-append xs (128 ∷ replicate (15 - length xs % 16) 0) 0 k h

-- ---- a mark in the last block, with only zeros after it
module _ (ys : List ℕ) (j : ℕ) (within : j < length ys) (whole : length ys % 16 ≡ 0) (last : length ys ≤ j + 16)
    (mark : get_or ys j 0 ≡ 128) (zeros : Zeros ys (j + 1)) where
  abbrev xs : List ℕ
  xs = take j ys

  long : length xs ≡ j
  long = length-take-le j ys (omega arith)

  same-long : length ys ≡ length (pad xs)
  same-long =
      sym (length-pad xs ∙ omega (arith, long, padded-next (length xs) (length ys) whole (omega (arith, long)), padded-larger (length xs), padded-whole (length xs)))

  each : (k : ℕ) → k < length ys → get_or ys k 0 ≡ get_or (pad xs) k 0
  each k h =
      elim (dec_lt k j) [
        | yes p ↦ sym (front xs k (omega (arith, long)) ∙ get_or-take j ys k 0 p)
        | no p ↦ elim (dec_lt j k) [
          | yes q ↦ zeros k (omega arith) ∙ sym (zeros-behind xs k (omega (arith, long)))
          | no q ↦
              let here : k ≡ j = omega arith in
              ap (λ (m : ℕ). get_or ys m 0) here ∙ mark ∙ sym (mark-at xs) ∙ ap (λ (m : ℕ). get_or (pad xs) m 0) (long ∙ sym here)
        ]
      ]

  pub marked : Some j ≡ answer (unpad ys)
  marked =
      ap Some (sym long)
      ∙ ap answer (sym (unpad-pad xs))
      ∙ ap (λ (l : List ℕ). answer (unpad l)) (sym (ext_get_or 0 ys (pad xs) same-long each))

-- ---- no padding
pub refused : (ys : List ℕ) → ((xs : List ℕ) → ys ≡ pad xs → ⊥) → None ≡ answer (unpad ys)
refused ys h = sym (ap answer (unpad-none ys h))

pub not-whole : (ys : List ℕ) → (length ys % 16 ≡ 0 → ⊥) → (xs : List ℕ) → ys ≡ pad xs → ⊥
not-whole ys h xs e = h (ap (λ (n : ℕ). n % 16) (ap length e ∙ length-pad xs) ∙ padded-whole (length xs))

pub not-empty : (ys : List ℕ) → length ys ≡ 0 → (xs : List ℕ) → ys ≡ pad xs → ⊥
not-empty ys h xs e = omega (arith, ap length e ∙ length-pad xs, padded-larger (length xs))

-- another byte is before the zeros
pub spoiled : (ys : List ℕ) (j : ℕ) → (get_or ys j 0 ≡ 128 → ⊥) → (get_or ys j 0 ≡ 0 → ⊥) → Zeros ys (j + 1) → (xs : List ℕ) → ys ≡ pad xs → ⊥
spoiled ys j n z zeros xs e =
    let at : (k : ℕ) → get_or ys k 0 ≡ get_or (pad xs) k 0 = λ k. ap (λ (l : List ℕ). get_or l k 0) e in
    elim (dec_lt (length xs) j) [
      | yes p ↦ z (at j ∙ zeros-behind xs j p)
      | no p ↦ elim (dec_lt j (length xs)) [
        | yes q ↦ let no-mark : ◌≡◌ {A = ℕ} 128 0 = sym (mark-at xs) ∙ sym (at (length xs)) ∙ zeros (length xs) (omega arith) in omega arith
        | no q ↦ let here : j ≡ length xs = omega arith in n (at j ∙ ap (λ (m : ℕ). get_or (pad xs) m 0) here ∙ mark-at xs)
      ]
    ]

-- the last block is zeros
pub blank : (ys : List ℕ) (n : ℕ) → n + 16 ≤ length ys → Zeros ys n → (xs : List ℕ) → ys ≡ pad xs → ⊥
blank ys n h zeros xs e =
    let l : length ys ≡ padded_bytes (length xs) = ap length e ∙ length-pad xs in
    let no-mark : ◌≡◌ {A = ℕ} 128 0 =
    sym (mark-at xs) ∙ ap (λ (m : List ℕ). get_or m (length xs) 0) (sym e) ∙ zeros (length xs) (omega (arith, padded-within (length xs))) in
    omega arith

-- ---- the last byte that is not zero, of the part from byte a on
tail : (ys : List ℕ) (a : ℕ) → take (length ys - a) (drop a ys) ≡ drop a ys
tail ys a = take_all (length ys - a) (drop a ys) (omega (arith, length-drop a ys))

pub tail-length : (ys : List ℕ) (a : ℕ) → length (take (length ys - a) (drop a ys)) ≡ length ys - a
tail-length ys a = ap length (tail ys a) ∙ length-drop a ys

pub tail-at : (ys : List ℕ) (a i : ℕ) → get_or ys (a + i) 0 ≡ get_or (take (length ys - a) (drop a ys)) i 0
tail-at ys a i = sym (get_or-drop a ys i 0) ∙ ap (λ (t : List ℕ). get_or t i 0) (sym (tail ys a))

pub tail-zeros : (ys : List ℕ) (a i : ℕ) → ((k : ℕ) → i ≤ k → k < length (take (length ys - a) (drop a ys)) → get_or (take (length ys - a) (drop a ys)) k 0 ≡ 0)
    → (m : ℕ) → m ≡ a + i → Zeros ys m
tail-zeros ys a i h m e k l =
    elim (dec_lt k (length ys)) [
      | yes p ↦
          let j : a + (k - a) ≡ k = omega arith in
          ap (λ (n : ℕ). get_or ys n 0) (sym j) ∙ tail-at ys a (k - a) ∙ h (k - a) (omega arith) (omega (arith, tail-length ys a))
      | no p ↦ get_or-eq_default ys 0 (omega arith)
    ]

pub too-short : (ys : List ℕ) → length ys % 16 ≡ 0 → (16 ≤ length ys → ⊥) → (xs : List ℕ) → ys ≡ pad xs → ⊥
too-short ys w h = not-empty ys (omega arith)
