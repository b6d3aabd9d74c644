-- The keypair templates that LOAD takes (RULES 9.4): A1 holding 80 (65, optional), 81 (32), and 82 (32) exactly for P1 02.
-- Every length is a number of bytes.
use Rattle.std.specs.Prelude.{Option, Some, None, Bool, true, false, ◌&&◌, ◌||◌, List, [], ◌∷◌, ℕ, ◌+◌, eqb, length, drop}
use Rattle.template_rules.specs.declared.Head.{Head}
use Rattle.template_rules.specs.Template.{read_head, tag_of, begins_with, field_bytes}

-- a field of a layout: its tag, and how many bytes of value it has
pub record Place : Type 0 where
  pub tag : ℕ
  pub bytes : ℕ

-- whether s is these fields in this order and nothing else
abbrev pub exactly : List Place → List ℕ → Bool
exactly [] s = eqb (length s) 0
exactly (f ∷ layout) s = begins_with f.tag f.bytes s && exactly layout (drop (field_bytes f.bytes) s)

abbrev pub public_key : Place
public_key = record { tag = 0x80; bytes = 65 }

abbrev pub private_key : Place
private_key = record { tag = 0x81; bytes = 32 }

abbrev pub chain_code : Place
chain_code = record { tag = 0x82; bytes = 32 }

-- the chain code is there exactly for P1 02
abbrev pub chain_fields : Bool → List Place
chain_fields false = []
chain_fields true = chain_code ∷ []

abbrev pub private_fields : Bool → List Place
private_fields chain = private_key ∷ chain_fields chain

-- the value of the template, with or without the public key
abbrev pub keypair_fields : Bool → List ℕ → Bool
keypair_fields chain s = exactly (public_key ∷ private_fields chain) s || exactly (private_fields chain) s

-- a template whose head is h: tag A1, nothing after its value, and the fields inside
abbrev pub keypair_with : Bool → List ℕ → Option Head → Bool
keypair_with chain s None = false
keypair_with chain s (Some h) =
    eqb (tag_of s) 0xA1 && eqb (h.head_bytes + h.value_bytes) (length s) && keypair_fields chain (drop h.head_bytes s)

abbrev pub keypair : Bool → List ℕ → Bool
keypair chain s = keypair_with chain s (read_head s)
