-- Demand 2: how a field's tag and length and a DER integer are written (RULES 9.1, 9.6). Lengths are in bytes.
use Rattle.std.specs.Prelude.{ℕ, ◌≤◌, ◌<◌, ◌≡◌, List, ◌++◌, length, drop, get_or}
use Rattle.octets.specs.Bytes.{Bytes}
use Rattle.std.specs.Prelude.{None}
use Rattle.template_rules.specs.Template.{head_of, read_head, tag_of, field_head}
use Rattle.template_rules.specs.Der.{der_content, number, Shortest}

pub record Templates : Type 0 where
  -- tag and length as they are written read back, whatever follows them; what reads is what would be written, so that no length has a second
  -- form; and from 256 on a length has none
  pub readsback : (tag n : ℕ) (rest : List ℕ) → n < 256 → read_head (field_head tag n ++ rest) ≡ head_of (length (field_head tag n)) n
  pub oneform : (s : List ℕ) (h n : ℕ) → read_head s ≡ head_of h n
      → (n < 256) × (h ≡ length (field_head (tag_of s) n)) × (s ≡ field_head (tag_of s) n ++ drop h s)
  pub noform : (tag n : ℕ) (rest : List ℕ) → 256 ≤ n → read_head (field_head tag n ++ rest) ≡ None
  -- a DER integer's content is the number that was given; its first byte is below 80, so that it is not negative, and no zero in front could be
  -- left out; and no other bytes that are this number and not negative are fewer
  pub samenumber : (s : List ℕ) → number (der_content s) ≡ number s
  pub shortest : (s : List ℕ) → Shortest (der_content s)
  pub fewest : (s t : List ℕ) → Bytes t → 1 ≤ length t → get_or t 0 0 < 0x80 → number t ≡ number s → length (der_content s) ≤ length t
