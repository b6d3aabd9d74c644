-- The first fault from the left (RULES 9.3, 9.8), and where the tag of its field is: by rules that read nothing, only take the input apart.
-- Every length and offset is a number of bytes; depth is counted in templates, a template at the top being at depth 1.
use Rattle.std.specs.Prelude.{None, ◌≡◌, true, List, ◌++◌, ℕ, suc, ◌+◌, ◌≤◌, ◌<◌, length}
use Rattle.template_rules.specs.Template.{is_template, field_head, field, HeadSays}
use Rattle.template_walk.specs.declared.Fault.{Fault}
use Rattle.template_walk.specs.declared.Fault.TheVariants.{Malformed, TooDeep}
use Rattle.laws_walk.specs.Trees.{Trees, encode, Lawful, deepest, Shallow}

-- s is a value that fields are read from, at depth d; its first fault is f, in the field whose tag is k bytes from the start of s
pub data FaultAt : ℕ → List ℕ → Fault → ℕ → Type 0 where
  -- the field begins s, and no tag with a form of a length does: the head is malformed or cut
  head : {d : ℕ} {s : List ℕ} → 1 ≤ length s → HeadSays s None → FaultAt d s Malformed 0
  -- the field begins s, and announces more bytes than follow: its end passes that of s
  over : {d : ℕ} (tag n : ℕ) (rest : List ℕ) → n < 256 → length rest < n → FaultAt d (field_head tag n ++ rest) Malformed 0
  -- the field begins s, ends within s, and is a template that is too deep
  deep : {d : ℕ} (tag : ℕ) (v rest : List ℕ) → length v < 256 → is_template tag ≡ true → deepest < d
      → FaultAt d (field tag v ++ rest) TooDeep 0
  -- the field is in the value of the template that begins s: its tag is after that one's head
  inside : {d : ℕ} {f : Fault} {k : ℕ} (tag : ℕ) (v rest : List ℕ) → length v < 256 → is_template tag ≡ true → d ≤ deepest
      → FaultAt (suc d) v f k → FaultAt d (field tag v ++ rest) f (length (field_head tag (length v)) + k)
  -- the field comes after whole trees without a fault
  after : {d : ℕ} {f : Fault} {k : ℕ} (trees : Trees) (rest : List ℕ) → Lawful trees → Shallow d trees → FaultAt d rest f k
      → FaultAt d (encode trees ++ rest) f (length (encode trees) + k)

-- the first fault of an input: its fields are at depth 1
abbrev pub FirstFault : List ℕ → Fault → ℕ → Type 0
FirstFault s f k = FaultAt 1 s f k
