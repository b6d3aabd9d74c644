-- What WALK reads (RULES 9.8): a list of trees of fields, written as bytes. A leaf is a field that is no template and has bytes as its content; a
-- template has a list of trees as its content.
-- Every length is a number of bytes; depth is counted in templates, a template at the top being at depth 1.
use Rattle.std.specs.Prelude.{◌≡◌, true, false, List, [], ◌++◌, ℕ, suc, ◌+◌, ◌≤◌, ◌<◌, length}
use Rattle.octets.specs.Bytes.{Bytes}
use Rattle.template_rules.specs.Template.{is_template, field}

-- a list of trees: none; or a leaf, and the trees after it; or a template that holds trees, and the trees after it
pub data Trees : Type 0 where
  none : Trees
  leaf : (tag : ℕ) (content : List ℕ) (after : Trees) → Trees
  template : (tag : ℕ) (inner after : Trees) → Trees

-- the bytes that they are written as: of each its tag, its length in the shortest form, its content
abbrev pub encode : Trees → List ℕ
encode none = []
encode (leaf tag content after) = field tag content ++ encode after
encode (template tag inner after) = field tag (encode inner) ++ encode after

-- how many leaves there are
abbrev pub leaves : Trees → ℕ
leaves none = 0
leaves (leaf tag content after) = 1 + leaves after
leaves (template tag inner after) = leaves inner + leaves after

-- the tag says which it is, and the length of each content has a form (RULES 9.1)
abbrev pub Lawful : Trees → Type 0
Lawful none = Unit {0}
Lawful (leaf tag content after) = (is_template tag ≡ false) × (length content < 256) × Lawful after
Lawful (template tag inner after) = (is_template tag ≡ true) × (length (encode inner) < 256) × Lawful inner × Lawful after

-- every tag and every byte of a content is a byte
abbrev pub Octets : Trees → Type 0
Octets none = Unit {0}
Octets (leaf tag content after) = (tag < 256) × Bytes content × Octets after
Octets (template tag inner after) = (tag < 256) × Octets inner × Octets after

-- the depth of the deepest templates that are read (RULES 9.2)
abbrev pub deepest : ℕ
deepest = 4

-- no template stands deeper, where the trees stand at depth d: those inside a template are one deeper than it
abbrev pub Shallow : ℕ → Trees → Type 0
Shallow d none = Unit {0}
Shallow d (leaf tag content after) = Shallow d after
Shallow d (template tag inner after) = (d ≤ deepest) × Shallow (suc d) inner × Shallow d after

-- s is the encoding of these trees, which have n leaves and stand at the top, at depth 1
pub record Encodes (trees : Trees) (s : List ℕ) (n : ℕ) : Type 0 where
  pub lawful : Lawful trees
  pub shallow : Shallow 1 trees
  pub encoded : encode trees ≡ s
  pub counted : leaves trees ≡ n

-- s is the encoding of some trees with n leaves
abbrev pub Holds : List ℕ → ℕ → Type 0
Holds s n = (trees : Trees) × Encodes trees s n
