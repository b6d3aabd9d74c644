-- Facts about the definitions of specs/Calls.antt: what an answer of 0 says of the lengths, and how a call that is refused and a call that
-- is done meet the promise.
-- Assumes nothing.
use mathlib.Core.Path.{◌≡◌, refl, sym, ap, ◌∙◌}
use mathlib.Core.Bool.{Bool, true, false, cond, ◌&&◌}
use mathlib.Core.List.{List, ◌++◌}
use Prim.Native.Nat.{ℕ, ◌%◌, ◌-◌, ◌≤◌}
use native.Mathlib.Omega.{arith}
use lib.Dec.{eqb}
use lib.ListN.{length, take, drop, length-drop, take-append-drop}
use lib.Seq.{take_all}
use borrow.Author.Tests.{eqb-true, eqb-false, eq-eqb, ne_eqb}
use Rattle.aes_calls.specs.Calls.{cbc_answer, mac_answer, seal_answer, Did}

-- ---- cbc_answer
-- the lengths of a call of CBC that is done
pub record CbcLengths (key iv text : ℕ) : Type 0 where
  pub key-long : key ≡ 32
  pub iv-long : iv ≡ 16
  pub whole : text % 16 ≡ 0

pub cbc-lengths : (key iv text : ℕ) → cbc_answer key iv text ≡ 0 → CbcLengths key iv text
unfolding cbc_answer
cbc-lengths key iv text e =
    record {
      key-long = eqb-true key 32 all.0;
      iv-long = eqb-true iv 16 all.1;
      whole = eqb-true (text % 16) 0 all.2;
    }
  where
    tests : (a b c : Bool) → ◌≡◌ {A = ℕ} (cond a (cond b (cond c 0 3) 2) 1) 0 → (a ≡ true) × (b ≡ true) × (c ≡ true)
    tests true true true e = (refl, refl, refl)
    tests true true false e = absurd (omega arith)
    tests true false c e = absurd (omega arith)
    tests false b c e = absurd (omega arith)

    all : (eqb key 32 ≡ true) × (eqb iv 16 ≡ true) × (eqb (text % 16) 0 ≡ true)
    all = tests (eqb key 32) (eqb iv 16) (eqb (text % 16) 0) e

-- ---- mac_answer
-- the lengths of a call of CBC-MAC that is done
pub record MacLengths (key text room : ℕ) : Type 0 where
  pub key-long : key ≡ 32
  pub some : 16 ≤ text
  pub whole : text % 16 ≡ 0
  pub room-long : room ≡ 16

pub mac-lengths : (key text room : ℕ) → mac_answer key text room ≡ 0 → MacLengths key text room
unfolding mac_answer
mac-lengths key text room e =
    let any : text ≡ 0 → ⊥ = eqb-false text 0 all.1 in
    let even : text % 16 ≡ 0 = eqb-true (text % 16) 0 all.2 in
    record {
      key-long = eqb-true key 32 all.0;
      some = omega arith;
      whole = even;
      room-long = eqb-true room 16 all.3;
    }
  where
    tests : (a b c d : Bool) → ◌≡◌ {A = ℕ} (cond a (cond b 3 (cond c (cond d 0 4) 3)) 1) 0
        → (a ≡ true) × (b ≡ false) × (c ≡ true) × (d ≡ true)
    tests true false true true e = (refl, refl, refl, refl)
    tests true false true false e = absurd (omega arith)
    tests true false false d e = absurd (omega arith)
    tests true true c d e = absurd (omega arith)
    tests false b c d e = absurd (omega arith)

    all : (eqb key 32 ≡ true) × (eqb text 0 ≡ false) × (eqb (text % 16) 0 ≡ true) × (eqb room 16 ≡ true)
    all = tests (eqb key 32) (eqb text 0) (eqb (text % 16) 0) (eqb room 16) e

-- ---- seal_answer
-- the lengths of a call that encrypts and takes the MAC and is done
pub record SealLengths (key mac-key iv head text room : ℕ) : Type 0 where
  pub key-long : key ≡ 32
  pub mac-key-long : mac-key ≡ 32
  pub iv-long : iv ≡ 16
  pub head-long : head ≡ 16
  pub whole : text % 16 ≡ 0
  pub room-long : room ≡ 16

pub seal-lengths : (key mac-key iv head text room : ℕ) → seal_answer key mac-key iv head text room ≡ 0 → SealLengths key mac-key iv head text room
unfolding seal_answer
seal-lengths key mac-key iv head text room e =
    record {
      key-long = eqb-true key 32 all.0;
      mac-key-long = eqb-true mac-key 32 all.1;
      iv-long = eqb-true iv 16 all.2;
      head-long = eqb-true head 16 all.3;
      whole = eqb-true (text % 16) 0 all.4;
      room-long = eqb-true room 16 all.5;
    }
  where
    tests : (a b c d e f : Bool) → ◌≡◌ {A = ℕ} (cond (a && b) (cond (c && d) (cond e (cond f 0 4) 3) 2) 1) 0
        → (a ≡ true) × (b ≡ true) × (c ≡ true) × (d ≡ true) × (e ≡ true) × (f ≡ true)
    tests true true true true true true z = (refl, refl, refl, refl, refl, refl)
    tests true true true true true false z = absurd (omega arith)
    tests true true true true false f z = absurd (omega arith)
    tests true true true false e f z = absurd (omega arith)
    tests true true false d e f z = absurd (omega arith)
    tests true false c d e f z = absurd (omega arith)
    tests false b c d e f z = absurd (omega arith)

    all : (eqb key 32 ≡ true) × (eqb mac-key 32 ≡ true) × (eqb iv 16 ≡ true) × (eqb head 16 ≡ true) × (eqb (text % 16) 0 ≡ true) × (eqb room 16 ≡ true)
    all = tests (eqb key 32) (eqb mac-key 32) (eqb iv 16) (eqb head 16) (eqb (text % 16) 0) (eqb room 16) e

-- ---- Did
module _ {answer r : ℕ} {work before after : List ℕ} where
  pub did_nothing : r ≡ answer → (r ≡ 0 → ⊥) → after ≡ before → Did answer work r before after
  did_nothing t h e =
      record {
        told = t;
        left = e ∙ sym (ap (λ (b : Bool). cond b work before) (ne_eqb answer 0 (λ z. h (t ∙ z))));
      }

  pub did-all : r ≡ 0 → answer ≡ 0 → after ≡ work → Did answer work r before after
  did-all t z e =
      record {
        told = t ∙ sym z;
        left = e ∙ sym (ap (λ (b : Bool). cond b work before) (eq-eqb answer 0 z));
      }

-- ---- the first block of a text, and what follows it
module _ (xs : List ℕ) (some : 16 ≤ length xs) where
  behind-all : take (length xs - 16) (drop 16 xs) ≡ drop 16 xs
  behind-all = take_all (length xs - 16) (drop 16 xs) (omega (arith, length-drop 16 xs))

  pub behind-whole : length xs % 16 ≡ 0 → length (take (length xs - 16) (drop 16 xs)) % 16 ≡ 0
  behind-whole h = ap (λ (s : List ℕ). length s % 16) behind-all ∙ omega (arith, length-drop 16 xs)

  pub rejoined : take 16 xs ++ take (length xs - 16) (drop 16 xs) ≡ xs
  rejoined = ap (λ (s : List ℕ). take 16 xs ++ s) behind-all ∙ take-append-drop 16 xs
