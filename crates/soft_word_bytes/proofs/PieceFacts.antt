-- What the tests on one piece find, against what the piece means; and what is put into a buffer, against what is meant.
-- Assumes nothing.
use mathlib.Core.Path.{◌≡◌, refl, sym, ap, ap₂, subst, ◌∙◌}
use mathlib.Core.Bool.{Bool, true, false, cond, ◌&&◌}
use Rattle.std.specs.Prelude.{Option, Some, None, Result, Ok, Err}
use Rattle.std.specs.Option.{is_some, IsSome, unwrap_or}
use Rattle.std.proofs.lemmas.List.Sums.{AllPass-from_list_all}
use mathlib.Core.List.{List, [], ◌∷◌, ◌++◌, append_assoc}
use Prim.Native.Nat.{ℕ, ◌+◌, ◌*◌, ◌-◌, ◌/◌, ◌≤◌, ◌<◌}
use native.Mathlib.Omega.{arith}
use lib.ListN.{length, take, drop, get_or, length-drop, get_or-eq_default}
use lib.Seq.{drop-drop, length-take-le, take_all}
use borrow.Author.Tests.{lt-ltb, le-ltb, eq-eqb, ne_eqb}
use Rattle.octets.specs.Bytes.{overwrite, same_bytes}
use Rattle.text_fill.specs.Steps.{stepped}
use Rattle.text_decimal.specs.Decimal.{is_number, number_of, spelled}
use Rattle.text_hex.specs.Hex.{digit_of, high, low, byte_of, bytes_of, Spelled}
use Rattle.soft_word_bytes.specs.declared.ValueFault.{ValueFault}
use Rattle.soft_word_bytes.specs.declared.ValueFault.TheVariants.{Form, Many}
use Rattle.soft_word_bytes.specs.Meaning.{Meant, taken, form, many, within, all_hex, pairs, counted, piece_of, end_of, Puts}

-- ---- a part of a buffer s that was lent, n bytes from byte a on, and came back with the bytes y, which are f of its length
module _ (a n : ℕ) (s : List ℕ) (fits : a + n ≤ length s) where
  pub lent-long : length (take (a + n - a) (drop a s)) ≡ n
  lent-long = length-take-le (a + n - a) (drop a s) (omega (arith, length-drop a s)) ∙ (let e : a + n - a ≡ n = omega arith in e)

  pub lent-put : (f : ℕ → List ℕ) {y : List ℕ} → length (f n) ≡ n → y ≡ f (length (take (a + n - a) (drop a s)))
      → take a s ++ (y ++ drop (a + n - a) (drop a s)) ≡ overwrite s a (f n)
  lent-put f h e =
      ap₂ (λ (x t : List ℕ). take a s ++ (x ++ t)) (e ∙ ap f lent-long) (drop-drop (a + n - a) a s ∙ ap (λ (k : ℕ). drop k s) more)
      ∙ sym (append_assoc (take a s) (f n) (drop (a + length (f n)) s))
    where
      more : a + (a + n - a) ≡ a + length (f n)
      more = omega arith

-- ---- what is meant, where there is so much room
module _ (room : ℕ) {x : Meant} where
  keeps-form : x ≡ form → within room x ≡ form
  unfolding within
  keeps-form e = rw e

  over : (t : List ℕ) → x ≡ taken t → room < length t → within room x ≡ many
  unfolding within
  over t e h = rw (e, lt-ltb room (length t) h)

  fitting : (t : List ℕ) → x ≡ taken t → length t ≤ room → within room x ≡ taken t
  unfolding within
  fitting t e h = rw (e, le-ltb room (length t) h)

-- ---- a fault is told, and then the buffer is not spoken of; bytes are put
module _ {m : Meant} {at : ℕ} {s after : List ℕ} where
  puts-fault : (e : ValueFault) → m ≡ Err e → Puts m at (Err e) s after
  puts-fault e is = record { told = ap (end_of at) (sym is); left = λ t z. absurd (cc) }

  puts-bytes : (t : List ℕ) {end : ℕ} → m ≡ Ok t → end ≡ at + length t → after ≡ overwrite s at t → Puts m at (Ok end) s after
  puts-bytes t {end} is g l =
      record {
        told = ap {B = Result ℕ ValueFault} (λ (n : ℕ). Ok n) g ∙ ap (end_of at) (sym is);
        left = λ u z. let e : t ≡ u = cc in l ∙ ap (overwrite s at) e;
      }

module _ (room : ℕ) {x : Meant} {at : ℕ} {s : List ℕ} where
  pub bad-form : x ≡ form → Puts (within room x) at (Err Form) s s
  bad-form e = puts-fault Form (keeps-form room e)

  module _ (t : List ℕ) (e : x ≡ taken t) where
    pub too_many : room < length t → Puts (within room x) at (Err Many) s s
    too_many h = puts-fault Many (over room t e h)

    pub put : {end : ℕ} {after : List ℕ} → length t ≤ room → end ≡ at + length t → after ≡ overwrite s at t → Puts (within room x) at (Ok end) s after
    put h g l = puts-bytes t (fitting room t e h) g l

-- what means the same is put the same
pub put_as : (room : ℕ) {x y : Meant} {at : ℕ} {answer : Result ℕ ValueFault} {s t : List ℕ} → x ≡ y → Puts (within room x) at answer s t
    → Puts (within room y) at answer s t
put_as room {x} {y} {at} {answer} {s} {t} e q = subst (λ (m : Meant). Puts (within room m) at answer s t) e q

-- ---- characters that are all digits
hex-at : (s : List ℕ) → all_hex s ≡ true → (i : ℕ) → i < length s → IsSome (digit_of (get_or s i 0))
hex-at s e i h = AllPass-from_list_all (λ c. is_some (digit_of c)) s e i 0 h

pub spelled-all : (n : ℕ) (p : List ℕ) → length p ≡ 2 * n → all_hex p ≡ true → Spelled n p
spelled-all n p h e k l = (hex-at p e (2 * k) (omega arith), hex-at p e (2 * k + 1) (omega arith))

-- ---- pairs of digits
module _ (p : List ℕ) where
  pub pairs-none : length p / 2 ≡ 0 → pairs p ≡ form
  unfolding pairs
  pairs-none h = rw (le-ltb 0 (length p / 2) (omega arith))

  module _ (some : 0 < length p / 2) where
    pub pairs-odd : (length p ≡ 2 * (length p / 2) → ⊥) → pairs p ≡ form
    unfolding pairs
    pairs-odd h = rw (lt-ltb 0 (length p / 2) some, ne_eqb (length p) (2 * (length p / 2)) h)

    module _ (even : length p ≡ 2 * (length p / 2)) where
      pub pairs-other : all_hex p ≡ false → pairs p ≡ form
      unfolding pairs
      pairs-other h = rw (lt-ltb 0 (length p / 2) some, eq-eqb (length p) (2 * (length p / 2)) even, h)

      pub pairs-taken : all_hex p ≡ true → pairs p ≡ taken (bytes_of (length p / 2) p)
      unfolding pairs
      pairs-taken h = rw (lt-ltb 0 (length p / 2) some, eq-eqb (length p) (2 * (length p / 2)) even, h)

-- ---- a byte, a sign and a number
none-number : (b : Bool) (n : ℕ) → cond b (Some n) None ≡ None → b ≡ false
none-number true n e = absurd (cc)
none-number false n e = refl

some-number : (b : Bool) (n m : ℕ) → cond b (Some n) None ≡ Some m → b ≡ true
some-number true n m e = refl
some-number false n m e = absurd (cc)

module _ (step : ℕ) (p : List ℕ) where
  pub counted-high : high p 0 ≡ None → counted step p ≡ form
  unfolding counted
  counted-high h = rw h

  pub counted-low : (a : ℕ) → high p 0 ≡ Some a → low p 0 ≡ None → counted step p ≡ form
  unfolding counted
  counted-low a hi lo = rw (hi, lo)

  module _ (a b : ℕ) (hi : high p 0 ≡ Some a) (lo : low p 0 ≡ Some b) where
    pub counted_none : number_of (drop 3 p) ≡ None → counted step p ≡ form
    unfolding counted
    counted_none h = rw (hi, lo, none-number (is_number (drop 3 p)) (spelled 0 (drop 3 p)) h)

    pub counted-taken : (n : ℕ) → number_of (drop 3 p) ≡ Some n → counted step p ≡ taken (stepped (a * 16 + b) step n)
    unfolding counted
    counted-taken n h =
        let is : is_number (drop 3 p) ≡ true = some-number (is_number (drop 3 p)) (spelled 0 (drop 3 p)) n h in
        let value : unwrap_or (number_of (drop 3 p)) 0 ≡ n = ap (λ (o : Option ℕ). unwrap_or o 0) h in
        let first : byte_of p 0 ≡ a * 16 + b = ap₂ (λ (x y : Option ℕ). unwrap_or x 0 * 16 + unwrap_or y 0) hi lo in
        ap (λ (d : Bool). cond d (taken (stepped (byte_of p 0) step (unwrap_or (number_of (drop 3 p)) 0))) form) (counts true is)
        ∙ ap₂ (λ (f k : ℕ). taken (stepped f step k)) first value
      where
        counts : (d : Bool) → is_number (drop 3 p) ≡ d → is_some (high p 0) && (is_some (low p 0) && is_number (drop 3 p)) ≡ d
        counts d e = rw (hi, lo) e

-- what follows byte a, lent as a part to the end
pub tail-is : (a : ℕ) (s : List ℕ) → take (length s - a) (drop a s) ≡ drop a s
tail-is a s = take_all (length s - a) (drop a s) (omega (arith, length-drop a s))

-- ---- which piece it is
module _ (last p : List ℕ) where
  pub piece-last : same_bytes p (108 ∷ 97 ∷ 115 ∷ 116 ∷ []) ≡ true → piece_of last p ≡ taken last
  unfolding piece_of
  piece-last h = rw h

  module _ (other : same_bytes p (108 ∷ 97 ∷ 115 ∷ 116 ∷ []) ≡ false) where
    pub piece-short : length p < 3 → piece_of last p ≡ pairs p
    unfolding piece_of
    piece-short h = rw (other, get_or-eq_default p 0 {n = 2} (omega arith))

    pub piece-star : get_or p 2 0 ≡ 42 → piece_of last p ≡ counted 0 p
    unfolding piece_of
    piece-star h = rw (other, h)

    pub piece-plus : get_or p 2 0 ≡ 43 → piece_of last p ≡ counted 1 p
    unfolding piece_of
    piece-plus h = rw (other, h)

    pub piece-pairs : (get_or p 2 0 ≡ 42 → ⊥) → (get_or p 2 0 ≡ 43 → ⊥) → piece_of last p ≡ pairs p
    unfolding piece_of
    piece-pairs h g = rw (other, ne_eqb (get_or p 2 0) 42 h, ne_eqb (get_or p 2 0) 43 g)
