-- The laws of padding, for every length: a padded length is the next multiple of 16 that is larger; no two lists are padded alike; unpadding
-- gives back what was padded, and what unpads is the padding of what it unpads to.
-- Assumes nothing.
use mathlib.Core.Path.{◌≡◌, refl, sym, ap, ap₂, ◌∙◌}
use mathlib.Core.Bool.{Bool, true, false}
use mathlib.Core.List.{List, ◌∷◌}
use mathlib.Core.Logic.{◌⊎◌, inl, inr}
use mathlib.Core.Option.{Option, none, some}
use Prim.Native.Nat.{ℕ, zero, suc, ◌+◌, ◌-◌, ◌%◌, ◌≤◌, ◌<◌}
use native.Mathlib.Decide.{dec_lt}
use native.Mathlib.Omega.{arith}
use lib.ListN.{length, take, get_or, replicate, length-append, length-replicate}
use lib.Seq.{take_at, get_or_at, get_or-append-add}
use Rattle.octets.specs.Bytes.{Bytes, same_bytes}
use Rattle.octets.proofs.Lists.{bytes-append, bytes-replicate, same_refl, same-eq}
use Rattle.aes_padding.specs.Padding.{padded_bytes, pad, pick, unpad_from, unpad}

-- ---- padded_bytes
pub padded-whole : (n : ℕ) → padded_bytes n % 16 ≡ 0
unfolding padded_bytes
padded-whole n = omega arith

pub padded-larger : (n : ℕ) → n < padded_bytes n
unfolding padded_bytes
padded-larger n = omega arith

pub padded-within : (n : ℕ) → padded_bytes n ≤ n + 16
unfolding padded_bytes
padded-within n = omega arith

-- no multiple of 16 lies between
pub padded-next : (n m : ℕ) → m % 16 ≡ 0 → n < m → padded_bytes n ≤ m
unfolding padded_bytes
padded-next n m w h = omega arith

-- ---- pad
pub length-pad : (xs : List ℕ) → length (pad xs) ≡ padded_bytes (length xs)
unfolding pad padded_bytes
length-pad xs =
    omega (arith, length-append xs (128 ∷ replicate (15 - length xs % 16) 0), length-replicate {A = ℕ} (15 - length xs % 16) 0)

pub bytes-pad : (xs : List ℕ) → Bytes xs → Bytes (pad xs)
unfolding pad
bytes-pad xs h =
    bytes-append xs (128 ∷ replicate (15 - length xs % 16) 0) h (omega arith, bytes-replicate (15 - length xs % 16) 0 (omega arith))

pub take-pad : (xs : List ℕ) → take (length xs) (pad xs) ≡ xs
unfolding pad
take-pad xs = take_at xs (128 ∷ replicate (15 - length xs % 16) 0) (length xs) refl

-- the mark is after the data, and only zeros are after the mark
pub mark-at : (xs : List ℕ) → get_or (pad xs) (length xs) 0 ≡ 128
unfolding pad
mark-at xs = get_or_at xs 128 (replicate (15 - length xs % 16) 0) 0 (length xs) refl

zero-at : (n i : ℕ) → ◌≡◌ {A = ℕ} (get_or (replicate n 0) i 0) 0
zero-at zero i = refl
zero-at (suc n) zero = refl
zero-at (suc n) (suc i) = zero-at n i

pub zeros-behind : (xs : List ℕ) (k : ℕ) → length xs < k → get_or (pad xs) k 0 ≡ 0
unfolding pad
zeros-behind xs k h =
    ap (λ (m : ℕ). get_or (pad xs) m 0) place
    ∙ get_or-append-add xs (128 ∷ replicate (15 - length xs % 16) 0) (suc (k - length xs - 1)) 0
    ∙ zero-at (15 - length xs % 16) (k - length xs - 1)
  where
    place : k ≡ length xs + suc (k - length xs - 1)
    place = omega arith

-- ---- no two lists are padded alike
not-shorter : (xs ys : List ℕ) → pad xs ≡ pad ys → length xs < length ys → ⊥
not-shorter xs ys e h =
    let z : ◌≡◌ {A = ℕ} 128 0 = sym (mark-at ys) ∙ ap (λ (l : List ℕ). get_or l (length ys) 0) (sym e) ∙ zeros-behind xs (length ys) h in
    omega arith

same_length : (xs ys : List ℕ) → pad xs ≡ pad ys → length xs ≡ length ys
same_length xs ys e =
    elim (dec_lt (length xs) (length ys)) [
      | yes p ↦ absurd (not-shorter xs ys e p)
      | no p ↦ elim (dec_lt (length ys) (length xs)) [ yes q ↦ absurd (not-shorter ys xs (sym e) q) | no q ↦ omega arith ]
    ]

pub pad-injective : (xs ys : List ℕ) → pad xs ≡ pad ys → xs ≡ ys
pad-injective xs ys e =
    sym (take-pad xs) ∙ ap₂ (λ (n : ℕ) (l : List ℕ). take n l) (same_length xs ys e) e ∙ take-pad ys

-- ---- unpad
-- a test that is passed or not
passed : (b : Bool) → (b ≡ true) ⊎ (b ≡ false)
passed true = inl refl
passed false = inr refl

-- a candidate of `unpad_from`: the bytes before the last n
abbrev candidate : ℕ → List ℕ → List ℕ
candidate n ys = take (length ys - n) ys

found : (n : ℕ) (xs : List ℕ) → length (pad xs) ≤ length xs + n → unpad_from n (pad xs) ≡ some xs
found zero xs h = absurd (omega (arith, length-pad xs, padded-larger (length xs)))
found (suc n) xs h =
    elim (passed (same_bytes (pad x) ys)) [
      | inl t ↦ ap (λ (b : Bool). pick b x (unpad_from n ys)) t ∙ ap some (pad-injective x xs (same-eq (pad x) ys t))
      | inr f ↦ ap (λ (b : Bool). pick b x (unpad_from n ys)) f ∙ found n xs (further f)
    ]
  where
    ys : List ℕ
    ys = pad xs

    x : List ℕ
    x = candidate (suc n) ys

    this : length ys ≡ length xs + suc n → same_bytes (pad x) ys ≡ true
    this e =
        let n' : length ys - suc n ≡ length xs = omega arith in
        ap (λ (k : ℕ). same_bytes (pad (take k ys)) ys) n' ∙ ap (λ (l : List ℕ). same_bytes (pad l) ys) (take-pad xs) ∙ same_refl ys

    further : same_bytes (pad x) ys ≡ false → length ys ≤ length xs + n
    further f =
        elim (dec_lt (length ys) (length xs + suc n)) [
          | yes p ↦ omega arith
          | no p ↦ absurd (true-false (sym (this (omega arith)) ∙ f))
        ]
      where
        true-false : true ≡ false → ⊥
        true-false e = let z : ◌≡◌ {A = ℕ} 0 1 = cc in omega arith

pub unpad-pad : (xs : List ℕ) → unpad (pad xs) ≡ some xs
unfolding unpad
unpad-pad xs = found 16 xs (omega (arith, length-pad xs, padded-within (length xs)))

sound-from : (n : ℕ) (xs ys : List ℕ) → unpad_from n ys ≡ some xs → ys ≡ pad xs
sound-from zero xs ys e = let z : ◌≡◌ {A = ℕ} 0 1 = cc in absurd (omega arith)
sound-from (suc n) xs ys e =
    let x : List ℕ = candidate (suc n) ys in
    elim (passed (same_bytes (pad x) ys)) [
      | inl t ↦ sym (same-eq (pad x) ys t) ∙ ap pad (some-injective (sym (ap (λ (b : Bool). pick b x (unpad_from n ys)) t) ∙ e))
      | inr f ↦ sound-from n xs ys (sym (ap (λ (b : Bool). pick b x (unpad_from n ys)) f) ∙ e)
    ]
  where
    some-injective : {a b : List ℕ} → ◌≡◌ {A = Option (List ℕ)} (some a) (some b) → a ≡ b
    some-injective e = cc

pub pad-unpad : (xs ys : List ℕ) → unpad ys ≡ some xs → ys ≡ pad xs
unfolding unpad
pad-unpad xs ys e = sound-from 16 xs ys e

none_from : (n : ℕ) (ys : List ℕ) → ((xs : List ℕ) → ys ≡ pad xs → ⊥) → unpad_from n ys ≡ none
none_from zero ys h = refl
none_from (suc n) ys h =
    let x : List ℕ = candidate (suc n) ys in
    elim (passed (same_bytes (pad x) ys)) [
      | inl t ↦ absurd (h x (sym (same-eq (pad x) ys t)))
      | inr f ↦ ap (λ (b : Bool). pick b x (unpad_from n ys)) f ∙ none_from n ys h
    ]

pub unpad-none : (ys : List ℕ) → ((xs : List ℕ) → ys ≡ pad xs → ⊥) → unpad ys ≡ none
unfolding unpad
unpad-none ys h = none_from 16 ys h

-- what unpads is longer than its data, by at most a block, and begins with it
pub unpad-shorter : (xs ys : List ℕ) → unpad ys ≡ some xs → length ys ≡ padded_bytes (length xs)
unpad-shorter xs ys e = ap length (pad-unpad xs ys e) ∙ length-pad xs

pub unpad-front : (xs ys : List ℕ) → unpad ys ≡ some xs → xs ≡ take (length xs) ys
unpad-front xs ys e = sym (ap (take (length xs)) (pad-unpad xs ys e) ∙ take-pad xs)
