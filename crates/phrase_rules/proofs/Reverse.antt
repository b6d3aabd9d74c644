-- Facts about the reverse (specs/Reverse.antt): its refusals come in their order, and it and `numbers_of` undo each other.
-- n is the checksum's size in bits: 6 * n bytes of word numbers, 4 * n bytes of entropy.
-- Assumes nothing.
use mathlib.Core.Path.{◌≡◌, refl, sym, ap, ap₂, ◌∙◌, subst}
use mathlib.Core.Bool.{Bool, true, false, ◌&&◌}
use mathlib.Core.List.{List, [], ◌∷◌, ◌++◌, append-nil}
use Prim.Native.Nat.{ℕ, zero, suc, ◌+◌, ◌*◌, ◌%◌, ◌^◌, ◌≤◌, ◌<◌}
use native.Mathlib.Omega.{arith}
use lib.Dec.{eqb, leb}
use lib.ListN.{length, take, drop, get_or, take-append-drop}
use lib.Seq.{drop_at}
use borrow.Author.Tests.{eq-eqb, eqb-true, eqb-false, le-leb, lt-leb, leb-true}
use Rattle.octets.specs.Bytes.{Bytes, same_bytes}
use Rattle.octets.proofs.Lists.{same_refl, same-eq}
use Rattle.refusals.specs.Refusals.{no_refusal, no_room, wrong_count, number_too_large, wrong_checksum, entropy_room}
use Rattle.phrase_rules.specs.Bits.{bits, number, bits_of, cut}
use Rattle.phrase_rules.specs.Numbers.{checksum_size, checksum, word_numbers, in_two_bytes, numbers_of}
use Rattle.phrase_rules.specs.Reverse.{from_two_bytes, checksum_size_in, word_bits, entropy_in, checksum_in, is_word_count, Counted, in_eleven_bits, is_checked, must, reverse_refusal, reverse_bytes}
use Rattle.phrase_rules.proofs.Bits.{Below, below-bits, below-bytes, bytes_below, length-bits, length_cut, get_d-cut, below-cut, cut-bits, bits-cut, bits_of-number}
use Rattle.phrase_rules.proofs.Numbers.{from-in-two-bytes, in-from-two-bytes, length-from_two_bytes, below-word_numbers, bits-word_numbers, length-numbers_of}

-- ---- Booleans
by_cases : (b : Bool) (P : Type 0) → (b ≡ true → P) → (b ≡ false → P) → P
by_cases true P f g = f refl
by_cases false P f g = g refl

both_left : (a b : Bool) → (a && b) ≡ true → a ≡ true
both_left true b h = refl
both_left false b h = h

both_right : (a b : Bool) → (a && b) ≡ true → b ≡ true
both_right true b h = h
both_right false b h = absurd (let z : ◌≡◌ {A = ℕ} 0 1 = cc in omega arith)

not-both : (a b : Bool) → ((a && b) ≡ true → ⊥) → (a && b) ≡ false
not-both a b h = by_cases (a && b) ((a && b) ≡ false) (λ e. absurd (h e)) (λ e. e)

-- ---- what is asked of the words
pub counted : (n : ℕ) (words : List ℕ) → Counted n words → is_word_count words ≡ true
counted n words k =
    ap₂ ◌&&◌ (eq-eqb (length words % 6) 0 (omega (arith, k.long)))
    (ap₂ ◌&&◌ (le-leb 4 (checksum_size_in words) (omega (arith, k.long, k.least))) (le-leb (checksum_size_in words) 8 (omega (arith, k.long, k.most))))

pub count_of : (words : List ℕ) → is_word_count words ≡ true → Counted (checksum_size_in words) words
count_of words e = record {
  least = leb-true _ _ (both_left (leb 4 (checksum_size_in words)) (leb (checksum_size_in words) 8) range);
  most = leb-true _ _ (both_right (leb 4 (checksum_size_in words)) (leb (checksum_size_in words) 8) range);
  long = omega (arith, eqb-true (length words % 6) 0 (both_left (eqb (length words % 6) 0) (leb 4 (checksum_size_in words) && leb (checksum_size_in words) 8) e));
}
  where
    range : (leb 4 (checksum_size_in words) && leb (checksum_size_in words) 8) ≡ true
    range = both_right (eqb (length words % 6) 0) (leb 4 (checksum_size_in words) && leb (checksum_size_in words) 8) e

-- every number has 11 bits
pub eleven : (s : List ℕ) → Below (2 ^ 11) s → in_eleven_bits s ≡ true
unfolding in_eleven_bits
eleven [] h = refl
eleven (x ∷ s) h = let l : x < 2 ^ 11 = h.0 in ap₂ ◌&&◌ (le-leb x 2047 (omega arith)) (eleven s h.1)

pub eleven-of : (s : List ℕ) → in_eleven_bits s ≡ true → Below (2 ^ 11) s
unfolding in_eleven_bits
eleven-of [] e = tt
eleven-of (x ∷ s) e = (omega (arith, leb-true x 2047 (both_left (leb x 2047) (in_eleven_bits s) e)), eleven-of s (both_right (leb x 2047) (in_eleven_bits s) e))

pub not-eleven : (s : List ℕ) (k : ℕ) → k < length s → 2047 < get_or s k 0 → in_eleven_bits s ≡ false
unfolding in_eleven_bits
not-eleven [] k l h = absurd (omega arith)
not-eleven (x ∷ s) zero l h = rw (lt-leb x 2047 h)
not-eleven (x ∷ s) (suc k) l h = not-both (leb x 2047) (in_eleven_bits s) (λ e. over (both_right (leb x 2047) (in_eleven_bits s) e) (not-eleven s k (omega arith) h))
  where
    over : in_eleven_bits s ≡ true → in_eleven_bits s ≡ false → ⊥
    over p q = let z : ◌≡◌ {A = ℕ} 0 1 = cc in omega arith

-- bits are the same where they are the same number
pub same_number : (s t : List ℕ) → length s ≡ length t → Below 2 s → Below 2 t → same_bytes s t ≡ eqb (number s) (number t)
same_number s t l h g =
    by_cases (eqb (number s) (number t)) _ (λ e. same (eqb-true (number s) (number t) e) ∙ sym e)
    (λ e. by_cases (same_bytes s t) _ (λ f. absurd (eqb-false (number s) (number t) e (ap number (same-eq s t f)))) (λ f. f ∙ sym e))
  where
    same : number s ≡ number t → same_bytes s t ≡ true
    same e = ap (λ (q : List ℕ). same_bytes q t) (sym (bits_of-number (length t) s l h) ∙ ap (bits_of (length t)) e ∙ bits_of-number (length t) t refl g) ∙ same_refl t

-- ---- the refusals, in their order
pub refused-room : (words : List ℕ) (room : ℕ) → room < entropy_room → reverse_refusal words room ≡ no_room
unfolding reverse_refusal
refused-room words room h = rw (lt-leb entropy_room room h)

module _ (words : List ℕ) (room : ℕ) (fits : entropy_room ≤ room) where
  pub refused-count : ((n : ℕ) → Counted n words → ⊥) → reverse_refusal words room ≡ wrong_count
  unfolding reverse_refusal
  refused-count h = rw (le-leb entropy_room room fits, not-both (eqb (length words % 6) 0) (leb 4 (checksum_size_in words) && leb (checksum_size_in words) 8) (λ e. h (checksum_size_in words) (count_of words e)))

  pub refused-number : (n k : ℕ) → Counted n words → k < length (from_two_bytes words) → 2047 < get_or (from_two_bytes words) k 0
      → reverse_refusal words room ≡ number_too_large
  unfolding reverse_refusal
  refused-number n k c l h = rw (le-leb entropy_room room fits, counted n words c, not-eleven (from_two_bytes words) k l h)

  pub refused-checksum : (n : ℕ) → Counted n words → Below (2 ^ 11) (from_two_bytes words) → (checksum_in words ≡ checksum (entropy_in words) → ⊥)
      → reverse_refusal words room ≡ wrong_checksum
  unfolding reverse_refusal is_checked
  refused-checksum n c b h =
      rw (le-leb entropy_room room fits, counted n words c, eleven (from_two_bytes words) b)
      (by_cases (same_bytes (checksum_in words) (checksum (entropy_in words))) _ (λ e. absurd (h (same-eq _ _ e))) (λ e. rw e))

  pub accepted : (n : ℕ) → Counted n words → Below (2 ^ 11) (from_two_bytes words) → checksum_in words ≡ checksum (entropy_in words)
      → reverse_refusal words room ≡ no_refusal
  unfolding reverse_refusal is_checked
  accepted n c b e =
      rw (le-leb entropy_room room fits, counted n words c, eleven (from_two_bytes words) b, e, same_refl (checksum (entropy_in words)))

-- what is known of words that are taken
pub record Accepted (words : List ℕ) : Type 0 where
  pub count : Counted (checksum_size_in words) words
  pub small : Below (2 ^ 11) (from_two_bytes words)
  pub checked : checksum_in words ≡ checksum (entropy_in words)

past : (a : Bool) (x y : ℕ) → 0 < x → must a x y ≡ 0 → (a ≡ true) × (y ≡ 0)
past true x y p e = (refl, e)
past false x y p e = absurd (omega (arith, e))

pub by-acceptance : (words : List ℕ) (room : ℕ) → reverse_refusal words room ≡ no_refusal → Accepted words
unfolding reverse_refusal is_checked
by-acceptance words room e =
    let past_room = past (leb entropy_room room) no_room _ (omega arith) e in
    let past_count = past (is_word_count words) wrong_count _ (omega arith) past_room.1 in
    let past_number = past (in_eleven_bits (from_two_bytes words)) number_too_large _ (omega arith) past_count.1 in
    record {
      count = count_of words past_count.0;
      small = eleven-of (from_two_bytes words) past_number.0;
      checked = same-eq (checksum_in words) (checksum (entropy_in words)) (past (is_checked words) wrong_checksum _ (omega arith) past_number.1).0;
    }

-- ---- the reverse undoes the generating
module _ (n : ℕ) (e : List ℕ) (least : 4 ≤ n) (most : n ≤ 8) (l : length e ≡ 4 * n) (h : Bytes e) where
  again-counted : Counted n (numbers_of e)
  again-counted = record { least = least; most = most; long = length-numbers_of n e l most }

  again-numbers : from_two_bytes (numbers_of e) ≡ word_numbers e
  unfolding numbers_of
  again-numbers = from-in-two-bytes (word_numbers e)

  again-bits : word_bits (numbers_of e) ≡ bits 8 e ++ checksum e
  unfolding word_bits
  again-bits = ap (bits 11) again-numbers ∙ bits-word_numbers n e l most

  again-entropy : entropy_in (numbers_of e) ≡ e
  unfolding entropy_in
  again-entropy =
      ap₂ (cut 8) size again-bits ∙ cut-bits 8 e (checksum e) (below-bytes e h)
    where
      size : 4 * checksum_size_in (numbers_of e) ≡ length e
      size = omega (arith, length-numbers_of n e l most)

  again-checksum : checksum_in (numbers_of e) ≡ checksum (entropy_in (numbers_of e))
  unfolding checksum_in
  again-checksum =
      ap₂ drop size again-bits ∙ drop_at (bits 8 e) (checksum e) (length (bits 8 e)) refl ∙ ap checksum (sym again-entropy)
    where
      size : 32 * checksum_size_in (numbers_of e) ≡ length (bits 8 e)
      size = omega (arith, length-numbers_of n e l most, length-bits 8 e)

  pub reverse-accepts : (room : ℕ) → entropy_room ≤ room → reverse_refusal (numbers_of e) room ≡ no_refusal
  reverse-accepts room fits =
      accepted (numbers_of e) room fits n again-counted (subst (Below (2 ^ 11)) (sym again-numbers) (below-word_numbers n e l most)) again-checksum

  pub reverse-generate : (room : ℕ) → entropy_room ≤ room → reverse_bytes (numbers_of e) room ≡ e
  unfolding reverse_bytes
  reverse-generate room fits = rw (reverse-accepts room fits) again-entropy

-- ---- and the generating undoes the reverse
pub length-entropy_in : (words : List ℕ) → length (entropy_in words) ≡ 4 * checksum_size_in words
unfolding entropy_in
length-entropy_in words = length_cut 8 (4 * checksum_size_in words) (word_bits words)

-- its bytes
pub entropy-byte : (words : List ℕ) (k : ℕ) → k < 4 * checksum_size_in words
    → number (take 8 (drop (k * 8) (bits 11 (from_two_bytes words)))) ≡ get_or (entropy_in words) k 0
unfolding entropy_in word_bits
entropy-byte words k h = sym (get_d-cut 8 (4 * checksum_size_in words) k (bits 11 (from_two_bytes words)) h)

module _ (words : List ℕ) (b : Bytes words) (a : Accepted words) where
  length-word_bits : length (word_bits words) ≡ 33 * checksum_size_in words
  unfolding word_bits
  length-word_bits = omega (arith, length-bits 11 (from_two_bytes words), length-from_two_bytes words, a.count.long)

  pub bytes-entropy_in : Bytes (entropy_in words)
  unfolding entropy_in word_bits
  bytes-entropy_in =
      bytes_below (entropy_in words)
      (below-cut 8 (4 * checksum_size_in words) (word_bits words) (omega (arith, length-word_bits)) (below-bits 11 (from_two_bytes words)))

  -- the entropy and its checksum are the words' bits
  joined-again : bits 8 (entropy_in words) ++ checksum (entropy_in words) ≡ word_bits words
  unfolding entropy_in checksum_in word_bits
  joined-again =
      ap₂ ◌++◌ (bits-cut 8 (4 * checksum_size_in words) (word_bits words) (omega (arith, length-word_bits)) (below-bits 11 (from_two_bytes words)) ∙ same_size) (sym a.checked)
      ∙ take-append-drop (32 * checksum_size_in words) (word_bits words)
    where
      same_size : take (4 * checksum_size_in words * 8) (word_bits words) ≡ take (32 * checksum_size_in words) (word_bits words)
      same_size = ap (λ (k : ℕ). take k (word_bits words)) {x = 4 * checksum_size_in words * 8} {y = 32 * checksum_size_in words} (omega arith)

  numbers-again : word_numbers (entropy_in words) ≡ from_two_bytes words
  unfolding word_numbers word_bits
  numbers-again =
      ap₂ (cut 11) size (joined-again ∙ sym (append-nil (word_bits words))) ∙ cut-bits 11 (from_two_bytes words) [] a.small
    where
      size : 3 * checksum_size (entropy_in words) ≡ length (from_two_bytes words)
      size = omega (arith, length-entropy_in words, length-from_two_bytes words, a.count.long)

  pub numbers-of-entropy_in : numbers_of (entropy_in words) ≡ words
  unfolding numbers_of
  numbers-of-entropy_in = ap in_two_bytes numbers-again ∙ in-from-two-bytes words (omega (arith, a.count.long)) b

pub generate-reverse : (words : List ℕ) (room : ℕ) → Bytes words → reverse_refusal words room ≡ no_refusal → numbers_of (reverse_bytes words room) ≡ words
unfolding reverse_bytes
generate-reverse words room b e = rw e (numbers-of-entropy_in words b (by-acceptance words room e))
