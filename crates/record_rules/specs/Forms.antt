-- The forms of the stored record that READ takes (RULES 10.4): which cards each can hold, and how a record in it is written today.
use Rattle.std.specs.Prelude.{ℕ, suc, ◌*◌, ◌≡◌, Bool, true, false, not, ◌&&◌, ◌||◌, cond, List, [], ◌∷◌, ◌++◌, drop, eqb}
use Rattle.octets.specs.Bytes.{same_bytes}
use Rattle.card.specs.declared.Card.{Card}
use Rattle.card.specs.Sizes.{slot_bytes, slot_count}
use Rattle.card.specs.Slots.{all_of, is_zero, is_free}
use Rattle.record_rules.specs.declared.Form.{Form}
use Rattle.record_rules.specs.Fields.{encode, encode_all, slots_tag, tap_tag, fields_in, written_form}
use Rattle.record_rules.specs.Parse.{field24, behind, before, content, fit}

-- ---- the four: all the slots or, as up to version 0.5.0, five; with field 34 or, as up to version 0.4.0, without it
abbrev pub slot_count_before : ℕ
slot_count_before = 5

abbrev pub forms : List Form
forms =
    written_form
    ∷ record { slots = slot_count; tapped = false }
    ∷ record { slots = slot_count_before; tapped = true }
    ∷ record { slots = slot_count_before; tapped = false }
    ∷ []

-- ---- which cards a form holds: the one that WRITE writes holds every card; another one the initialised cards of which it leaves nothing out:
-- the slots past its number are free and, where it has no field 34, there is no tap record
abbrev pub is_written : Form → Bool
is_written f = eqb f.slots slot_count && f.tapped

abbrev pub leaves_nothing : Form → Card → Bool
leaves_nothing f c = all_of is_free (drop f.slots c.pairing.slots) && (f.tapped || is_zero c.tap.len)

unfoldable pub holds : Form → Card → Bool
holds f c = is_written f || (not (is_zero c.initialised) && leaves_nothing f c)

-- ---- a record as WRITE writes it today
-- with all the slots: the fields before 24 as they are; 24 with zeros behind its content; the fields behind it as they are
unfoldable pub widened : List ℕ → List ℕ
widened s = before field24 s ++ (encode slots_tag (fit (slot_bytes * slot_count) (content s field24)) ++ behind (suc field24) s)

-- and with field 34: an empty one ends the record
abbrev pub ended : List ℕ → List ℕ
ended s = s ++ encode tap_tag []

abbrev pub unless : Bool → (List ℕ → List ℕ) → List ℕ → List ℕ
unless b change s = cond b s (change s)

abbrev pub renewed : Form → List ℕ → List ℕ
renewed f s = unless f.tapped ended (unless (eqb f.slots slot_count) widened s)

-- ---- the bytes are the record of this card in this form: as a test, and for some form of a list
abbrev pub is_in_form : List ℕ → Card → Form → Bool
is_in_form s c f = holds f c && same_bytes (encode_all (fields_in f c)) s

pub data Listed (f : Form) : List Form → Type 0 where
  first : (more : List Form) → Listed f (f ∷ more)
  later : (g : Form) (more : List Form) → Listed f more → Listed f (g ∷ more)

pub record InForm (s : List ℕ) (c : Card) (fs : List Form) : Type 0 where
  pub form : Form
  pub listed : Listed form fs
  pub held : holds form c ≡ true
  pub bytes : encode_all (fields_in form c) ≡ s
