-- What is stated of the lengths of fields and of DER integers: laws of crate `template_rules`; and that a content in the shortest form has the fewest
-- bytes, by the size of its number: with m bytes after the first two it is 128 * 256 ^ m or more, while bytes that are not negative, k of them after the
-- first, are below 128 * 256 ^ k.
-- Assumes nothing.
use mathlib.Core.Path.{◌≡◌, sym, subst}
use mathlib.Core.List.{List, [], ◌∷◌}
use Prim.Native.Nat.{ℕ, zero, suc, ◌-◌, ◌*◌, ◌^◌, ◌≤◌, ◌<◌}
use native.Mathlib.Decide.{dec_lt}
use native.Mathlib.Nat.{pow-succ', pow-le-pow_right, mul-le-mul_left, mul-le-mul_right}
use native.Mathlib.Omega.{arith}
use lib.Arith.{digits_lt}
use lib.ListN.{length, get_or}
use Rattle.octets.specs.Bytes.{Bytes}
use Rattle.template_rules.specs.Der.{der_content, number, Shortest}
use Rattle.template_rules.proofs.HeadFacts.{read_length, length-read, read-no-length}
use Rattle.template_rules.proofs.DerFacts.{der-number, der-shortest}
use Rattle.claims.specs.Templates.{Templates}

-- ---- how large a number of so many bytes is
below : (t : List ℕ) → Bytes t → number t < 256 ^ length t
below [] h = omega arith
below (x ∷ t) h = subst (λ (n : ℕ). number (x ∷ t) < n) (sym (pow-succ' 256 (length t))) (digits_lt h.0 (below t h.1))

below_half : (x : ℕ) (t : List ℕ) → x < 128 → Bytes t → number (x ∷ t) < 128 * 256 ^ length t
below_half x t l h = digits_lt l (below t h)

length-is : (s : List ℕ) (m : ℕ) → suc (suc (length s)) ≡ suc (suc m) → length s ≡ m
length-is s m e = omega arith

from-half : (u : List ℕ) (m : ℕ) → Shortest u → length u ≡ suc (suc m) → 128 * 256 ^ m ≤ number u
from-half [] m h e = absurd (omega arith)
from-half (zero ∷ []) m h e = absurd (omega arith)
from-half (suc x ∷ []) m h e = absurd (omega arith)
from-half (zero ∷ y ∷ s) m h e =
    subst (λ (n : ℕ). 128 * 256 ^ n ≤ number (0 ∷ y ∷ s)) (length-is s m e) (omega (arith, mul-le-mul_right (256 ^ length s) h))
from-half (suc x ∷ y ∷ s) m h e =
    let one : 1 * 256 ^ suc (length s) ≤ suc x * 256 ^ suc (length s) = mul-le-mul_right (256 ^ suc (length s)) (omega arith) in
    subst (λ (n : ℕ). 128 * 256 ^ n ≤ number (suc x ∷ y ∷ s)) (length-is s m e) (omega (arith, one, pow-succ' 256 (length s)))

fewest : (s t : List ℕ) → Bytes t → 1 ≤ length t → get_or t 0 0 < 0x80 → number t ≡ number s → length (der_content s) ≤ length t
fewest s [] h l f e = absurd (omega arith)
fewest s (x ∷ t) h l f e = elim (dec_lt (length (x ∷ t)) (length (der_content s))) [
  | no p ↦ omega arith
  | yes p ↦ absurd (
      let m : ℕ = length (der_content s) - 2 in
      let large : 128 * 256 ^ m ≤ number (der_content s) = from-half (der_content s) m (der-shortest s) (omega arith) in
      let small : number (x ∷ t) < 128 * 256 ^ length t = below_half x t f h.1 in
      let more : 128 * 256 ^ length t ≤ 128 * 256 ^ m = mul-le-mul_left 128 (pow-le-pow_right (omega arith) (omega arith)) in
      omega (arith, large, small, more, e, der-number s))
]

pub templates : Templates
templates = record {
  readsback = read_length;
  oneform = length-read;
  noform = read-no-length;
  samenumber = der-number;
  shortest = der-shortest;
  fewest = fewest;
}
