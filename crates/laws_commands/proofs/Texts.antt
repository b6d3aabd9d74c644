-- What is said of a reply: that it is short, that it keeps the channel, that its path is bytes. What commands answer is bytes: status words,
-- templates whose parts are bytes, and word numbers. And replies without response data.
-- Assumes nothing.
use mathlib.Core.Path.{◌≡◌}
use mathlib.Core.Bool.{Bool, true, false}
use mathlib.Core.List.{List, [], ◌++◌}
use Prim.Native.Nat.{ℕ, ◌+◌, ◌*◌, ◌≤◌, ◌<◌}
use native.Mathlib.Omega.{arith}
use lib.ListN.{length, drop, length-append}
use lib.Seq.{length-take-le}
use Rattle.octets.specs.Bytes.{Bytes}
use Rattle.octets.proofs.Lists.{bytes_take, bytes_drop, bytes-append}
use Rattle.sha_rules.specs.Hash.{sha256}
use Rattle.sha_rules.proofs.Blocks.{length-sha256}
use Rattle.phrase_rules.specs.Bits.{bits}
use Rattle.phrase_rules.specs.Numbers.{checksum_size, checksum, word_numbers, numbers_of}
use Rattle.phrase_rules.proofs.Bits.{length-bits, length_cut, below-cut}
use Rattle.phrase_rules.proofs.Numbers.{length-in_two_bytes, bytes-in_two_bytes, below-joined}
use Rattle.template_rules.specs.Template.{field, field_head}
use Rattle.template_rules.specs.Der.{leading_zeros, needs_zero, der_content, der_integer}
use Rattle.template_rules.proofs.HeadFacts.{by-test, bytes-head, short-field}
use Rattle.template_rules.proofs.DerFacts.{der-length}
use Rattle.template_answers.specs.Answers.{status, pair, signature, exported_public, exported_pair}
use Rattle.template_answers.proofs.AnswerFacts.{pair-length-le, exported-inner, exported-bytes-le}
use Rattle.card.specs.declared.Card.{Card}
use Rattle.rules.specs.Words.{Reply}
use Rattle.rules.specs.Supplies.{part}
use Rattle.laws_commands.specs.Lawful.{Plain}

-- ---- of a reply
abbrev pub Short : Reply → Type 0
Short r = length r.response ≤ 221

abbrev pub SameChannel : Card → Reply → Type 0
SameChannel c r = r.card.channel ≡ c.channel

abbrev pub PathBytes : Reply → Type 0
PathBytes r = Bytes r.card.keys.current.bytes

-- a reply without response data
pub bare : {c : Card} (w : ℕ) → w < 65536 → Plain (record { status = w; response = []; card = c })
bare w h = record { status = h; response = tt }

-- no response data, and two parts
pub nothing : 0 ≤ 221
nothing = omega arith

pub two-parts : (a b : List ℕ) (m n : ℕ) → length a ≤ m → length b ≤ n → m + n ≤ 221 → length (a ++ b) ≤ 221
two-parts a b m n p q h = omega (arith, length-append a b)

-- ---- templates
field-bytes : (tag : ℕ) (v : List ℕ) → tag < 256 → length v < 256 → Bytes v → Bytes (field tag v)
field-bytes tag v t l h = bytes-append (field_head tag (length v)) v (bytes-head tag (length v) t l) h

pub status-bytes : (pin puk : ℕ) (key : Bool) → pin < 256 → puk < 256 → Bytes (status pin puk key)
status-bytes pin puk true p q = (
  omega arith,
  (omega arith, (omega arith, (omega arith, (p, (omega arith, (omega arith, (q, (omega arith, (omega arith, (omega arith, tt)))))))))),
)
status-bytes pin puk false p q = (
  omega arith,
  (omega arith, (omega arith, (omega arith, (p, (omega arith, (omega arith, (q, (omega arith, (omega arith, (omega arith, tt)))))))))),
)

integer-bytes : (n : List ℕ) → length n ≤ 32 → Bytes n → Bytes (der_integer n)
integer-bytes n l h = field-bytes 2 (der_content n) (omega arith) (omega (arith, (der-length n).1))
    (by-test Bytes (needs_zero (drop (leading_zeros n) n)) (λ e. (omega arith, bytes_drop (leading_zeros n) n h))
    (λ e. bytes_drop (leading_zeros n) n h))

pub signature-bytes : (key r s : List ℕ) → length key ≤ 65 → length r ≤ 32 → length s ≤ 32 → Bytes key → Bytes r → Bytes s
    → Bytes (signature key r s)
signature-bytes key r s k p q hk hr hs =
    field-bytes 160 inner (omega arith)
    (omega (
      arith,
      length-append (field 128 key) (field 48 (pair r s)),
      short-field 128 key (omega arith),
      short-field 48 (pair r s) (omega (arith, pair-length-le r s p q)),
      pair-length-le r s p q,
    ))
    (bytes-append (field 128 key) (field 48 (pair r s)) (field-bytes 128 key (omega arith) (omega arith) hk)
    (field-bytes 48 (pair r s) (omega arith) (omega (arith, pair-length-le r s p q))
    (bytes-append (der_integer r) (der_integer s) (integer-bytes r p hr) (integer-bytes s q hs))))
  where
    inner : List ℕ
    inner = field 128 key ++ field 48 (pair r s)

pub exported-public-bytes : (key : List ℕ) → length key ≤ 65 → Bytes key → Bytes (exported_public key)
exported-public-bytes key k h =
    field-bytes 0xA1 (field 0x80 key) (omega arith) (omega (arith, short-field 0x80 key (omega arith)))
    (field-bytes 0x80 key (omega arith) (omega arith) h)

pub exported-pair-bytes : (key private : List ℕ) → length key ≤ 65 → length private ≤ 32 → Bytes key → Bytes private
    → Bytes (exported_pair key private)
exported-pair-bytes key private k p hk hp =
    field-bytes 0xA1 (field 0x80 key ++ field 0x81 private) (omega arith)
    (omega (arith, exported-inner key private, exported-bytes-le (length key) (length private) k p))
    (bytes-append (field 0x80 key) (field 0x81 private) (field-bytes 0x80 key (omega arith) (omega arith) hk)
    (field-bytes 0x81 private (omega arith) (omega arith) hp))

pub part_bytes : (at n : ℕ) (s : List ℕ) → Bytes s → Bytes (part at n s)
part_bytes at n s h = bytes_take n (drop at s) (bytes_drop at s h)

-- ---- the word numbers of an entropy of at most 32 bytes
module _ (e : List ℕ) (l : length e ≤ 32) where
  pub numbers-short : length (numbers_of e) ≤ 221
  unfolding numbers_of word_numbers
  numbers-short = omega (arith, length-in_two_bytes (word_numbers e), length_cut 11 (3 * checksum_size e) (bits 8 e ++ checksum e))

  joined-long : 3 * checksum_size e * 11 ≤ length (bits 8 e ++ checksum e)
  unfolding checksum
  joined-long =
      omega (
        arith,
        length-append (bits 8 e) (checksum e),
        length-bits 8 e,
        length-take-le (checksum_size e) (bits 8 (sha256 e)) (omega (arith, length-bits 8 (sha256 e), length-sha256 e)),
      )

  pub numbers-bytes : Bytes (numbers_of e)
  unfolding numbers_of word_numbers
  numbers-bytes = bytes-in_two_bytes (word_numbers e) (below-cut 11 (3 * checksum_size e) (bits 8 e ++ checksum e) joined-long (below-joined e))
