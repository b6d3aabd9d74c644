-- How much entropy a supply that suits has, and the reply that its word numbers are. Lengths are in bytes, a checksum in bits.
-- Assumes nothing.
use mathlib.Core.Path.{◌≡◌, refl, ap, ◌∙◌}
use mathlib.Core.Bool.{true}
use mathlib.Core.List.{List}
use Prim.Native.Nat.{ℕ, ◌*◌, ◌/◌, ◌%◌, ◌≤◌}
use native.Mathlib.Omega.{arith}
use lib.ListN.{length, take}
use lib.Seq.{length-take-le}
use Rattle.octets.specs.Bytes.{written}
use Rattle.phrase_rules.specs.Numbers.{numbers_of}
use Rattle.phrase_numbers.specs.Put.{PutNumbers}
use Rattle.card.specs.declared.Card.{Card}
use Rattle.rules.specs.declared.Phrase.{Phrase}
use Rattle.rules.specs.declared.Replied.{Replied}
use Rattle.rules.specs.Words.{success}
use Rattle.rules.specs.Code.{Replies}
use Rattle.rules.specs.Supplies.{suits, mnemonic_supply}
use Rattle.rules.specs.Rows.{checksum_bits}
use Rattle.rules.specs.Commands.{mnemonic_reply}
use Rattle.rules.proofs.Phrases.{bits_most}
use Rattle.command_parts.specs.Replies.{said}
use Rattle.command_parts.proofs.SupplyFacts.{suits-long}

-- ---- mnemonic_supply: the entropy is the whole supply, and its numbers fit the buffer
module _ (x : Phrase) (s : List ℕ) (m : ℕ) (h : suits (mnemonic_supply (checksum_bits x)) s ≡ true) (e : m ≡ 4 * checksum_bits x) where
  pub entropy-long : length (take m s) ≡ m
  entropy-long = length-take-le m s (omega (arith, suits-long (mnemonic_supply (checksum_bits x)) s refl h))

  pub entropy-fits : {room : ℕ} → 221 ≤ room
      → (length (take m s) ≤ 32) × ((length (take m s) % 4 ≡ 0) × (length (take m s) / 4 * 6 ≤ room))
  entropy-fits l =
      (omega (arith, entropy-long, bits_most x), (omega (arith, entropy-long), omega (arith, entropy-long, bits_most x)))

-- ---- mnemonic_reply: k bytes are put, the numbers of the first m bytes of the supply
pub numbers-replies : {r : Replied} {a b : List ℕ} (c : Card) (n m k : ℕ) (s : List ℕ) → m ≡ 4 * n → PutNumbers (take m s) k a b
    → r ≡ said success k c → Replies (mnemonic_reply c n s) r a b
unfolding mnemonic_reply
numbers-replies {a = a} c n m k s e p er =
    record {
      told = er ∙ ap (λ (j : ℕ). said success j c) (p.told ∙ ap (λ (j : ℕ). length (numbers_of (take j s))) e);
      left = p.left ∙ ap (λ (j : ℕ). written (numbers_of (take j s)) a) e;
    }
