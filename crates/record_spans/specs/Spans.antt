-- What the readers of a field promise: where its content is, and the place after it. Every length and place is in bytes.
use Rattle.std.specs.Prelude.{ℕ, ◌-◌, ◌≤◌, min, ◌≡◌, List, length, take, drop}
use Rattle.record_rules.specs.Parse.{body, rest, fit}
use Rattle.record_spans.specs.declared.FieldSpan.{FieldSpan}

-- the span is the content of the field at the place `at`
pub record Spans (s : List ℕ) (at : ℕ) (r : FieldSpan) : Type 0 where
  pub follows : at ≤ r.start
  pub ordered : r.start ≤ r.«end»
  pub within : r.«end» ≤ length s
  pub inside : take (r.«end» - r.start) (drop r.start s) ≡ body (drop at s)
  pub behind : drop r.«end» s ≡ rest (drop at s)

-- `next` is the place after the field at the place `at`
pub record Behind (s : List ℕ) (at next : ℕ) : Type 0 where
  pub within : next ≤ length s
  pub rest : drop next s ≡ rest (drop at s)

-- a room is filled from the content x, and `count` is how many bytes of it are in use
pub record UsedTaken (x room : List ℕ) (count : ℕ) (after : List ℕ) : Type 0 where
  pub bytes : after ≡ fit (length room) x
  pub used : count ≡ min (length x) (length room)
