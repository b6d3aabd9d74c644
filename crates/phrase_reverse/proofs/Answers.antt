-- What the reverse did in each of its five answers. Assumes nothing.
use mathlib.Core.Path.{◌≡◌, refl, ap, ◌∙◌}
use mathlib.Core.Bool.{Bool, true, false, cond}
use mathlib.Core.List.{List}
use Prim.Native.Nat.{ℕ, ◌≤◌, ◌<◌}
use lib.ListN.{length}
use lib.Dec.{eqb}
use borrow.Author.Tests.{le-leb, lt-leb, ne_eqb}
use Rattle.octets.specs.Bytes.{overwrite}
use Rattle.octets.proofs.Lists.{overwrite-start}
use Rattle.refusals.specs.Refusals.{no_refusal, no_room, wrong_count, number_too_large, wrong_checksum, entropy_room}
use Rattle.phrase_rules.specs.Reverse.{entropy_in, is_word_count, must, words_refusal, reverse_refusal, reverse_bytes}
use Rattle.phrase_reverse.specs.Reversed.{Reversed}

module _ (words b : List ℕ) where
  pub reversed-room : length b < entropy_room → Reversed words (record { refusal = no_room; count = 0 }) b b
  unfolding reverse_refusal reverse_bytes
  reversed-room h = record { told = rw (lt-leb entropy_room (length b) h); left = rw (lt-leb entropy_room (length b) h) }

  module _ (fits : entropy_room ≤ length b) where
    pub reversed-count : is_word_count words ≡ false → Reversed words (record { refusal = wrong_count; count = 0 }) b b
    unfolding reverse_refusal reverse_bytes
    reversed-count e = record { told = rw (le-leb entropy_room (length b) fits, e); left = rw (le-leb entropy_room (length b) fits, e) }

    -- words of a right count that are refused, and that are taken
    pub reversed-words : (n : ℕ) → is_word_count words ≡ true → n ≡ words_refusal words → (n ≡ no_refusal → ⊥)
        → Reversed words (record { refusal = n; count = 0 }) b b
    unfolding reverse_refusal reverse_bytes
    reversed-words n e f g = record {
      told = rw (le-leb entropy_room (length b) fits, e, ← f, ne_eqb n no_refusal g);
      left = rw (le-leb entropy_room (length b) fits, e, ← f, ne_eqb n no_refusal g);
    }

    pub reversed-entropy : (a : List ℕ) (n : ℕ) → is_word_count words ≡ true → no_refusal ≡ words_refusal words
        → n ≡ length (entropy_in words) → a ≡ overwrite b 0 (entropy_in words) → Reversed words (record { refusal = no_refusal; count = n }) b a
    unfolding reverse_refusal reverse_bytes
    reversed-entropy a n e f l p = record {
      told = rw (le-leb entropy_room (length b) fits, e, ← f) (ap (λ (k : ℕ). record { refusal = no_refusal; count = k }) l);
      left = rw (le-leb entropy_room (length b) fits, e, ← f) (p ∙ overwrite-start b (entropy_in words));
    }

-- a check and then another, each with its refusal
pub in_order : (a b : Bool) → cond (eqb (must a number_too_large no_refusal) no_refusal) (must b wrong_checksum no_refusal) (must a number_too_large no_refusal)
    ≡ must a number_too_large (must b wrong_checksum no_refusal)
in_order true b = refl
in_order false b = refl
