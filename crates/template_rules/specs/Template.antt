-- Fields of templates (RULES 9.1): one-byte tag, length to 127 in one byte or 128 to 255 as 81 and a byte, value.
-- Every length is a number of bytes. From 256 on a length has no form: reading takes none, and the laws of proofs/ ask for less.
use Rattle.std.specs.Prelude.{Bool, false, cond, ◌&&◌, List, [], ◌∷◌, ◌++◌, ◌≡◌, ℕ, ◌+◌, ◌<◌, ltb, leb, eqb, length, get_or, drop}
use Rattle.std.specs.Int.Bits.{bit_and}
use Rattle.template_rules.specs.declared.Head.{Head}
use Rattle.std.specs.Prelude.{Option, Some, None}

-- ---- reading
-- a head of h bytes that announces n bytes of value
abbrev pub head_of : ℕ → ℕ → Option Head
head_of h n = Some (record { head_bytes = h; value_bytes = n })

-- the byte of a length from 128 to 255, after 81
abbrev pub read_second : List ℕ → Option Head
read_second [] = None
read_second (n ∷ s) = cond (leb 128 n && ltb n 256) (head_of 3 n) None

-- the head of the field that begins a list: how many bytes tag and length take, and how many bytes of value they announce
abbrev pub read_head : List ℕ → Option Head
read_head [] = None
read_head (tag ∷ []) = None
read_head (tag ∷ n ∷ s) = cond (ltb n 128) (head_of 2 n) (cond (eqb n 0x81) (read_second s) None)

-- the tag of the field that begins s
abbrev pub tag_of : List ℕ → ℕ
tag_of s = get_or s 0 0

-- whether a tag marks a template, a field whose value is a sequence of fields: bit 20 (RULES 9.2)
abbrev pub is_template : ℕ → Bool
is_template tag = eqb (bit_and tag 0x20) 0x20

-- whether the head h is that of a field with this tag, with n bytes of value, that ends within s
abbrev pub announces : ℕ → ℕ → List ℕ → Option Head → Bool
announces tag n s None = false
announces tag n s (Some h) = eqb (tag_of s) tag && eqb h.value_bytes n && leb (h.head_bytes + h.value_bytes) (length s)

-- whether s begins with a field of this tag that has n bytes of value
abbrev pub begins_with : ℕ → ℕ → List ℕ → Bool
begins_with tag n s = announces tag n s (read_head s)

-- ---- writing (RULES 9.1)
-- a length in its shortest form, for n below 256
abbrev pub length_field : ℕ → List ℕ
length_field n = cond (ltb n 128) (n ∷ []) (0x81 ∷ n ∷ [])

abbrev pub field_head : ℕ → ℕ → List ℕ
field_head tag n = tag ∷ length_field n

abbrev pub field : ℕ → List ℕ → List ℕ
field tag value = field_head tag (length value) ++ value

-- how many bytes a field with n bytes of value takes
abbrev pub field_bytes : ℕ → ℕ
field_bytes n = cond (ltb n 128) 2 3 + n

-- ---- what each answer of reading says
-- a head: s begins with a tag and the one form of n, h bytes together, and n is below 256. None: no tag and form of a length begins s, which
-- is malformed for WALK, number 4 of the refusals (`walk`), and 6A80 for LOAD (`keypair`)
abbrev pub HeadSays : List ℕ → Option Head → Type 0
HeadSays s (Some h) =
    (h.value_bytes < 256) × (h.head_bytes ≡ length (field_head (tag_of s) h.value_bytes))
    × (s ≡ field_head (tag_of s) h.value_bytes ++ drop h.head_bytes s)
HeadSays s None = (tag n : ℕ) (rest : List ℕ) → n < 256 → s ≡ field_head tag n ++ rest → ⊥
