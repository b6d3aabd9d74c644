-- The bytes that the numbers are cut from, and the buffer that they are put into, number by number.
-- Assumes nothing.
use mathlib.Core.Path.{◌≡◌, refl, sym, ap, ◌∙◌}
use mathlib.Core.List.{List, [], ◌∷◌, ◌++◌, append_assoc, append-nil}
use Prim.Native.Nat.{ℕ, ◌+◌, ◌*◌, ◌/◌, ◌%◌, ◌≤◌, ◌<◌}
use native.Mathlib.Numerals.{add-one}
use native.Mathlib.Omega.{arith}
use lib.ListN.{length, take, drop, get_or, set, take-append-drop}
use lib.Seq.{take-suc, take-suc-set, take_at, take_all, length-take-le}
use Rattle.octets.specs.Bytes.{overwrite, written}
use Rattle.octets.proofs.Lists.{length-overwrite, overwrite-start, overwrite-next}
use Rattle.sha_rules.specs.Hash.{sha256}
use Rattle.phrase_rules.specs.Bits.{bits_of, bits, number}
use Rattle.phrase_rules.specs.Numbers.{checksum_size, checksum, word_numbers, in_two_bytes, numbers_of}
use Rattle.phrase_rules.proofs.Bits.{get_d-cut}
use Rattle.phrase_rules.proofs.Numbers.{checksum-in-byte, length-joined, length-in_two_bytes, in_two_bytes-append}
use Rattle.phrase_bits.proofs.Windows.{ahead, bits-append}

-- ---- the stream: the entropy and one byte more, in zeros
pub stream-starts : (e z s : List ℕ) (h : ℕ) → length e < length z → s ≡ overwrite z 0 e
    → take (length e + 1) (set s (length e) h) ≡ e ++ (h ∷ [])
stream-starts e z s h l p =
    rw add-one (take-suc-set s (length e) h (omega (arith, ap length p, length-overwrite z 0 e (omega arith))))
    ∙ ap (λ (q : List ℕ). q ++ (h ∷ [])) (ap (take (length e)) (p ∙ overwrite-start z e) ∙ take_at e (drop (length e) z) (length e) refl)

module _ (e s : List ℕ) (n : ℕ) (l : length e ≡ 4 * n) (m : n ≤ 8)
    (p : take (length e + 1) s ≡ e ++ (get_or (sha256 e) 0 0 ∷ [])) where
  -- the stream's bits are those that are cut, and others after them
  rest : List ℕ
  rest = drop (checksum_size e) (bits_of 8 (get_or (sha256 e) 0 0)) ++ bits 8 (drop (length e + 1) s)

  stream_bits : bits 8 s ≡ (bits 8 e ++ checksum e) ++ rest
  unfolding bits rest
  stream_bits =
      ap (bits 8) (sym (take-append-drop (length e + 1) s) ∙ ap (λ (q : List ℕ). q ++ drop (length e + 1) s) p)
      ∙ bits-append 8 (e ++ (byte ∷ [])) (drop (length e + 1) s)
      ∙ ap (λ (q : List ℕ). q ++ tail) (bits-append 8 e (byte ∷ []) ∙ ap (λ (q : List ℕ). bits 8 e ++ q) halves)
      ∙ simp append_assoc
    where
      byte : ℕ
      byte = get_or (sha256 e) 0 0

      tail : List ℕ
      tail = bits 8 (drop (length e + 1) s)

      halves : bits_of 8 byte ++ [] ≡ checksum e ++ drop (checksum_size e) (bits_of 8 byte)
      halves =
          append-nil (bits_of 8 byte)
          ∙ sym (take-append-drop (checksum_size e) (bits_of 8 byte))
          ∙ ap (λ (q : List ℕ). q ++ drop (checksum_size e) (bits_of 8 byte)) (sym (checksum-in-byte e (omega arith)))

  pub stream-number : (k : ℕ) → k < 3 * checksum_size e → number (take 11 (drop (k * 11) (bits 8 s))) ≡ get_or (word_numbers e) k 0
  unfolding word_numbers
  stream-number k h =
      ap (λ (q : List ℕ). number (take 11 (drop (k * 11) q))) stream_bits
      ∙ ap number (ahead (bits 8 e ++ checksum e) rest (k * 11) 11 (omega (arith, length-joined n e l m)))
      ∙ sym (get_d-cut 11 (3 * checksum_size e) k (bits 8 e ++ checksum e) h)

-- ---- the buffer
pub put-none : (b s : List ℕ) → b ≡ overwrite b 0 (in_two_bytes (take 0 s))
unfolding in_two_bytes
put-none b s = refl

pub put_next : (b s r t : List ℕ) (k x : ℕ) → r ≡ overwrite b 0 (in_two_bytes (take k s)) → k < length s → 2 * length s ≤ length b → x ≡ get_or s k 0
    → t ≡ overwrite r (2 * k) (x / 256 ∷ x % 256 ∷ []) → t ≡ overwrite b 0 (in_two_bytes (take (k + 1) s))
unfolding in_two_bytes
put_next b s r t k x p h room ex e =
    e
    ∙ ap (λ (q : List ℕ). overwrite q (2 * k) (x / 256 ∷ x % 256 ∷ [])) p
    ∙ overwrite-next b 0 (2 * k) (in_two_bytes (take k s)) (x / 256 ∷ x % 256 ∷ []) (omega (arith, long)) (omega arith)
    ∙ ap (overwrite b 0) (more ∙ ap in_two_bytes (sym (ap (λ (j : ℕ). take j s) (add-one k) ∙ take-suc s k 0 h)))
  where
    long : length (in_two_bytes (take k s)) ≡ 2 * k
    long = omega (arith, length-in_two_bytes (take k s), length-take-le k s (omega arith))

    pair : (y : ℕ) → in_two_bytes (y ∷ []) ≡ y / 256 ∷ y % 256 ∷ []
    pair y = refl

    more : in_two_bytes (take k s) ++ (x / 256 ∷ x % 256 ∷ []) ≡ in_two_bytes (take k s ++ (get_or s k 0 ∷ []))
    more = rw ex (sym (in_two_bytes-append (take k s) (get_or s k 0 ∷ []) ∙ ap (λ (q : List ℕ). in_two_bytes (take k s) ++ q) (pair (get_or s k 0))))

pub put-long : (r t u : List ℕ) (i : ℕ) → i + length u ≤ length r → t ≡ overwrite r i u → length t ≡ length r
put-long r t u i h e = ap length e ∙ length-overwrite r i u h

pub put_all : (b r e : List ℕ) (k : ℕ) → r ≡ overwrite b 0 (in_two_bytes (take k (word_numbers e))) → length (word_numbers e) ≤ k → r ≡ written (numbers_of e) b
unfolding numbers_of
put_all b r e k p h = p ∙ ap (λ (q : List ℕ). overwrite b 0 (in_two_bytes q)) (take_all k (word_numbers e) h) ∙ overwrite-start b (in_two_bytes (word_numbers e))
