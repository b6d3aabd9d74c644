-- WALK (RULES 9.3): how many fields that are not templates a sequence of fields holds, or the first fault from the left, with its place: how
-- many bytes come before the tag of its field.
-- Every length and place is a number of bytes.
use Rattle.std.specs.Prelude.{Option, Some, None, Result, Ok, Err, cond, List, ℕ, zero, suc, ◌+◌, ltb, eqb, length, take, drop}
use Rattle.refusals.specs.Refusals.{no_refusal, malformed, too_deep}
use Rattle.template_rules.specs.declared.Head.{Head}
use Rattle.template_rules.specs.Template.{read_head, tag_of, is_template}
use Rattle.template_walk.specs.declared.Fault.{Fault}
use Rattle.template_walk.specs.declared.Fault.TheVariants.{Malformed, TooDeep}
use Rattle.template_walk.specs.declared.Whole.{Whole}
use Rattle.template_walk.specs.declared.Refused.{Refused}

-- what a sequence of fields comes to, and what one field does
abbrev pub Walked : Type 0
Walked = Result ℕ Refused

abbrev pub Field : Type 0
Field = Result Whole Refused

-- c fields in b bytes; and a fault with its place, of a sequence and of one field
abbrev pub whole : ℕ → ℕ → Field
whole c b = Ok (record { fields = c; bytes = b })

abbrev pub refused : Fault → ℕ → Walked
refused f k = Err (record { fault = f; place = k })

abbrev pub faulty : Fault → ℕ → Field
faulty f k = Err (record { fault = f; place = k })

-- a template by its head, of h bytes, its value v, and what that came to; a place in the value is counted from the template's tag on
abbrev pub as_field : ℕ → List ℕ → Walked → Field
as_field h v (Ok n) = whole n (h + length v)
as_field h v (Err r) = faulty r.fault (h + r.place)

-- the field that begins s, whose head is h (RULES 9.3, the order of tests): the end within the parent, then depth and content by `inside`,
-- which takes a template by its head's length and its value
unfoldable pub field_with : (ℕ → List ℕ → Field) → List ℕ → Option Head → Field
field_with inside s None = faulty Malformed 0
field_with inside s (Some h) =
    cond (ltb (length s) (h.head_bytes + h.value_bytes)) (faulty Malformed 0)
    (cond (is_template (tag_of s)) (inside h.head_bytes (take h.value_bytes (drop h.head_bytes s))) (whole 1 (h.head_bytes + h.value_bytes)))

abbrev pub read_field : (ℕ → List ℕ → Field) → List ℕ → Field
read_field inside s = field_with inside s (read_head s)

-- c fields in b bytes, and then what follows them
abbrev pub plus : ℕ → ℕ → Walked → Walked
plus c b (Ok n) = Ok (c + n)
plus c b (Err r) = refused r.fault (b + r.place)

-- a field, and then what follows it
abbrev pub and_then : Field → (ℕ → Walked) → Walked
and_then (Ok w) rest = plus w.fields w.bytes (rest w.bytes)
and_then (Err r) rest = Err r

-- the fields of s, one after the other; at most n of them, and there are never more than s has bytes
unfoldable pub fields_of : (ℕ → List ℕ → Field) → ℕ → List ℕ → Walked
fields_of inside zero s = Ok 0
fields_of inside (suc n) s =
    cond (eqb (length s) 0) (Ok 0) (and_then (read_field inside s) (λ (bytes : ℕ). fields_of inside n (drop bytes s)))

-- a template with a head of h bytes and the value v, where this many levels may be entered (RULES 9.2)
unfoldable pub template_of : ℕ → ℕ → List ℕ → Field
template_of zero h v = faulty TooDeep 0
template_of (suc levels) h v = as_field h v (fields_of (template_of levels) (length v) v)

-- a sequence of fields that may hold templates within templates to this many levels
abbrev pub sequence_of : ℕ → List ℕ → Walked
sequence_of levels s = fields_of (template_of levels) (length s) s

-- a template at the top is at depth 1, and depth 4 is the last that is read (RULES 9.2)
abbrev pub walk_of : List ℕ → Walked
walk_of s = sequence_of 4 s

-- the number of each refusal (RULES 3.2)
abbrev pub refusal_number : Fault → ℕ
refusal_number Malformed = malformed
refusal_number TooDeep = too_deep

-- what each answer says in those terms: the number of the refusal or of none, the count of fields, and the fault offset: how many bytes come
-- before the tag of the faulty field, 0 where nothing is refused
pub record WalkOut : Type 0 where
  pub refusal : ℕ
  pub count : ℕ
  pub offset : ℕ

abbrev pub report : Walked → WalkOut
report (Ok n) = record { refusal = no_refusal; count = n; offset = 0 }
report (Err r) = record { refusal = refusal_number r.fault; count = 0; offset = r.place }

-- WALK (RULES 9.3)
abbrev pub WALK : List ℕ → WalkOut
WALK s = report (walk_of s)
