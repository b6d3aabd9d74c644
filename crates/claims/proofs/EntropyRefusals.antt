-- The refusals of ENTROPY: by the tests that its definition makes one of five cases holds, and each number is given in its own alone.
-- Assumes nothing.
use mathlib.Core.Path.{◌≡◌, refl, sym, ap, ap₂, ◌∙◌}
use mathlib.Core.Bool.{Bool, true, false, ◌&&◌, false≢true}
use mathlib.Core.List.{List, [], ◌∷◌}
use mathlib.Core.Logic.{◌⊎◌, inl, inr}
use Prim.Native.Nat.{ℕ, zero, suc, ◌+◌, ◌*◌, ◌/◌, ◌^◌, ◌≤◌, ◌<◌}
use native.Mathlib.Omega.{arith}
use borrow.Author.Tests.{ne_eqb, leb-true, leb-false}
use lib.Dec.{leb}
use lib.ListN.{length, get_or}
use Rattle.octets.specs.Bytes.{Bytes}
use Rattle.phrase_rules.specs.Reverse.{from_two_bytes, Counted, is_word_count, in_eleven_bits, is_checked, reverse_refusal, reverse_bytes}
use Rattle.phrase_rules.proofs.Bits.{below_at}
use Rattle.phrase_rules.proofs.Numbers.{length-from_two_bytes}
use Rattle.phrase_rules.proofs.Reverse.{counted, count_of, eleven-of, refused-room, refused-count, refused-number, reverse-accepts, generate-reverse}
use Rattle.phrase_reverse.specs.declared.Entropy.{Entropy}
use Rattle.phrase_reverse.specs.Reversed.{Reversed}
use Rattle.claims.specs.Phrases.{IsCount, number_at, TooLarge, IsPhrase}
use Rattle.claims.specs.Refusals.{EntropyRefuses}
use Rattle.claims.proofs.Untouched.{as_it_was}
use Rattle.claims.proofs.Phrases.{gives-entropy}

-- ---- the count, by the size of the checksum in bits
module _ (words : List ℕ) where
  by_size : (n : ℕ) → 4 ≤ n → n ≤ 8 → length words ≡ 6 * n → IsCount words
  by_size zero l m e = absurd (omega arith)
  by_size (suc zero) l m e = absurd (omega arith)
  by_size (suc (suc zero)) l m e = absurd (omega arith)
  by_size (suc (suc (suc zero))) l m e = absurd (omega arith)
  by_size (suc (suc (suc (suc zero)))) l m e = inl e
  by_size (suc (suc (suc (suc (suc zero))))) l m e = inr (inl e)
  by_size (suc (suc (suc (suc (suc (suc zero)))))) l m e = inr (inr (inl e))
  by_size (suc (suc (suc (suc (suc (suc (suc zero))))))) l m e = inr (inr (inr (inl e)))
  by_size (suc (suc (suc (suc (suc (suc (suc (suc zero)))))))) l m e = inr (inr (inr (inr e)))
  by_size (suc (suc (suc (suc (suc (suc (suc (suc (suc n))))))))) l m e = absurd (omega arith)

  sized : (n : ℕ) → 4 ≤ n → n ≤ 8 → length words ≡ 6 * n → (n : ℕ) × Counted n words
  sized n l m e = (n, record { least = l; most = m; long = e })

  size_of : IsCount words → (n : ℕ) × Counted n words
  size_of (inl e) = sized 4 (omega arith) (omega arith) e
  size_of (inr (inl e)) = sized 5 (omega arith) (omega arith) e
  size_of (inr (inr (inl e))) = sized 6 (omega arith) (omega arith) e
  size_of (inr (inr (inr (inl e)))) = sized 7 (omega arith) (omega arith) e
  size_of (inr (inr (inr (inr e)))) = sized 8 (omega arith) (omega arith) e

-- ---- the numbers
number-from : (s : List ℕ) (k : ℕ) → 2 * k + 1 < length s → get_or (from_two_bytes s) k 0 ≡ number_at s k
unfolding from_two_bytes
number-from [] k l = absurd (omega arith)
number-from (x ∷ []) k l = absurd (omega arith)
number-from (x ∷ y ∷ s) zero l = refl
number-from (x ∷ y ∷ s) (suc k) l =
    number-from s k (omega arith)
    ∙ ap₂ (λ (a b : ℕ). get_or (x ∷ y ∷ s) a 0 * 256 + get_or (x ∷ y ∷ s) b 0)
    {x = suc (suc (2 * k))} {y = 2 * suc k} {u = suc (suc (2 * k + 1))} {v = 2 * suc k + 1} (omega arith) (omega arith)

abbrev Over : List ℕ → Type 0
Over s = (k : ℕ) × ((k < length s) × (2047 < get_or s k 0))

one-over : (s : List ℕ) → in_eleven_bits s ≡ false → Over s
unfolding in_eleven_bits
one-over [] e = absurd (false≢true (sym e))
one-over (x ∷ s) e = go (leb x 2047) refl e (λ f. one-over s f)
  where
    go : (b : Bool) → leb x 2047 ≡ b → (b && in_eleven_bits s) ≡ false → (in_eleven_bits s ≡ false → Over s) → Over (x ∷ s)
    go true t f more = let h = more f in (suc h.0, (omega (arith, h.1.0), h.1.1))
    go false t f more = (0, (omega arith, leb-false x 2047 t))

module _ (words : List ℕ) where
  too_large : in_eleven_bits (from_two_bytes words) ≡ false → TooLarge words
  too_large e =
      let h = one-over (from_two_bytes words) e in
      let l : 2 * h.0 + 1 < length words = omega (arith, h.1.0, length-from_two_bytes words) in
      (h.0, (l, omega (arith, h.1.1, number-from words h.0 l)))

  none-large : in_eleven_bits (from_two_bytes words) ≡ true → TooLarge words → ⊥
  none-large e h =
      let l = below_at (2 ^ 11) (from_two_bytes words) h.0 (eleven-of (from_two_bytes words) e) (omega (arith, h.1.0, length-from_two_bytes words)) in
      omega (arith, l, h.1.1, number-from words h.0 h.1.0)

-- ---- one of five cases
module _ (words : List ℕ) (room : ℕ) where
  abbrev r : ℕ
  r = reverse_refusal words room

  data Case : Type 0 where
    small : r ≡ 2 → room < 32 → Case
    count : r ≡ 9 → 32 ≤ room → (IsCount words → ⊥) → Case
    large : r ≡ 10 → 32 ≤ room → IsCount words → TooLarge words → Case
    differs : r ≡ 11 → 32 ≤ room → IsCount words → (TooLarge words → ⊥) → Case
    taken : r ≡ 0 → 32 ≤ room → Case

  which : Case
  unfolding reverse_refusal
  which = go (leb 32 room) (is_word_count words) (in_eleven_bits (from_two_bytes words)) (is_checked words) refl refl refl refl
    where
      is : is_word_count words ≡ true → IsCount words
      is f = let k = count_of words f in by_size words _ k.least k.most k.long

      go : (a b c d : Bool) → leb 32 room ≡ a → is_word_count words ≡ b → in_eleven_bits (from_two_bytes words) ≡ c → is_checked words ≡ d → Case
      go false b c d e f g h = small (rw e) (leb-false 32 room e)
      go true false c d e f g h =
          count (rw (e, f)) (leb-true 32 room e)
          (λ i. let k = size_of words i in absurd (false≢true (sym f ∙ counted k.0 words k.1)))
      go true true false d e f g h = large (rw (e, f, g)) (leb-true 32 room e) (is f) (too_large words g)
      go true true true false e f g h = differs (rw (e, f, g, h)) (leb-true 32 room e) (is f) (none-large words g)
      go true true true true e f g h = taken (rw (e, f, g, h)) (leb-true 32 room e)

  -- ---- the numbers of an entropy are taken, and nothing else is
  phrase-taken : IsPhrase words → 32 ≤ room → r ≡ 0
  phrase-taken p l =
      let i = p.1.1.0 in
      ap (λ (w : List ℕ). reverse_refusal w room) p.1.1.1
      ∙ reverse-accepts p.0 p.1.0 i.least i.most i.long i.bytes room l

  taken-phrase : Bytes words → r ≡ 0 → IsPhrase words
  taken-phrase b e = (length words / 6, (reverse_bytes words room, (gives-entropy words room b e, sym (generate-reverse words room b e))))

  -- ---- what each number says
  says2 : Case → r ≡ 2 → room < 32
  says2 (small z l) h = l
  says2 (count z l c) h = absurd (omega arith)
  says2 (large z l i c) h = absurd (omega arith)
  says2 (differs z l i c) h = absurd (omega arith)
  says2 (taken z l) h = absurd (omega arith)

  says9 : Case → r ≡ 9 → (32 ≤ room) × (IsCount words → ⊥)
  says9 (small z l) h = absurd (omega arith)
  says9 (count z l c) h = (l, c)
  says9 (large z l i c) h = absurd (omega arith)
  says9 (differs z l i c) h = absurd (omega arith)
  says9 (taken z l) h = absurd (omega arith)

  says10 : Case → r ≡ 10 → (32 ≤ room) × (IsCount words × TooLarge words)
  says10 (small z l) h = absurd (omega arith)
  says10 (count z l c) h = absurd (omega arith)
  says10 (large z l i c) h = (l, (i, c))
  says10 (differs z l i c) h = absurd (omega arith)
  says10 (taken z l) h = absurd (omega arith)

  says11 : Case → r ≡ 11 → (32 ≤ room) × (IsCount words × ((TooLarge words → ⊥) × (IsPhrase words → ⊥)))
  says11 (small z l) h = absurd (omega arith)
  says11 (count z l c) h = absurd (omega arith)
  says11 (large z l i c) h = absurd (omega arith)
  says11 (differs z l i c) h = (l, (i, (c, λ p. omega (arith, z, phrase-taken p l))))
  says11 (taken z l) h = absurd (omega arith)

  says0 : Case → r ≡ 0 → 32 ≤ room
  says0 (small z l) h = absurd (omega arith)
  says0 (count z l c) h = l
  says0 (large z l i c) h = l
  says0 (differs z l i c) h = l
  says0 (taken z l) h = l

  -- where no other case holds
  is11 : Case → Bytes words → 32 ≤ room → IsCount words → (TooLarge words → ⊥) → (IsPhrase words → ⊥) → r ≡ 11
  is11 (small z l) b m i o p = absurd (omega arith)
  is11 (count z l c) b m i o p = absurd (c i)
  is11 (large z l k c) b m i o p = absurd (o c)
  is11 (differs z l k c) b m i o p = z
  is11 (taken z l) b m i o p = absurd (p (taken-phrase b z))

  one-of-five : Case → (r ≡ 0) ⊎ ((r ≡ 2) ⊎ ((r ≡ 9) ⊎ ((r ≡ 10) ⊎ (r ≡ 11))))
  one-of-five (small z l) = inr (inl z)
  one-of-five (count z l c) = inr (inr (inl z))
  one-of-five (large z l i c) = inr (inr (inr (inl z)))
  one-of-five (differs z l i c) = inr (inr (inr (inr z)))
  one-of-five (taken z l) = inl z

-- ---- a refusal leaves the buffer as it was
no_bytes : (words : List ℕ) (room : ℕ) → (reverse_refusal words room ≡ 0 → ⊥) → reverse_bytes words room ≡ []
unfolding reverse_bytes
no_bytes words room n = rw (ne_eqb (reverse_refusal words room) 0 n)

entropy-nothing : (words before after : List ℕ) (r : Entropy) → Reversed words r before after → (r.refusal ≡ 0 → ⊥)
    → (r.count ≡ 0) × (after ≡ before)
entropy-nothing words before after r d n =
    let e = no_bytes words (length before) (λ z. n (ap (λ (x : Entropy). x.refusal) d.told ∙ z)) in
    (ap (λ (x : Entropy). x.count) d.told ∙ ap length e, as_it_was e d.left)

pub entropy-refuses : (words : List ℕ) (room : ℕ) → EntropyRefuses words room
entropy-refuses words room = record {
  small = (says2 words room (which words room), λ h. refused-room words room h);
  count = (
    says9 words room (which words room),
    λ h. refused-count words room h.0 (λ n c. h.1 (by_size words n c.least c.most c.long)),
  );
  large = (
    says10 words room (which words room),
    λ h.
        let k = size_of words h.1.0 in
        let o = h.1.1 in
        refused-number words room h.0 k.0 o.0 k.1 (omega (arith, o.1.0, length-from_two_bytes words))
        (omega (arith, o.1.1, number-from words o.0 o.1.0)),
  );
  checksum = λ b. (says11 words room (which words room), λ h. is11 words room (which words room) b h.0 h.1.0 h.1.1.0 h.1.1.1);
  taken = λ b. (λ e. (says0 words room (which words room) e, taken-phrase words room b e), λ h. phrase-taken words room h.1 h.0);
  others = one-of-five words room (which words room);
  nothing = entropy-nothing words;
}
