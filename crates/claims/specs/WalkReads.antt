-- Demands 1 and 2: WALK by what it reads (RULES 9.8, 11.1, 11.2): trees and their encoding, and the first fault from the left, as crate `laws_walk`
-- has them. Every length and offset is in bytes; depth is counted in templates, a template at the top being at depth 1.
use Rattle.std.specs.Prelude.{ℕ, ◌≤◌, ◌<◌, ◌≡◌, Bool, true, List, [], ◌∷◌, ◌↔◌, ◌⊎◌, length, get_or}
use Rattle.octets.specs.Bytes.{Bytes}
use Rattle.template_rules.specs.Template.{is_template}
use Rattle.template_walk.specs.declared.Fault.{Fault}
use Rattle.template_walk.specs.declared.Fault.TheVariants.{Malformed, TooDeep}
use Rattle.template_walk.specs.Walk.{refused, walk_of, WALK}
use Rattle.template_answers.specs.Answers.{pre_initialised, application_info, status, signature, exported_public, exported_pair}
use Rattle.laws_walk.specs.Trees.{Trees, encode, Lawful, Octets, Encodes, Holds}
use Rattle.laws_walk.specs.Faults.{FirstFault}
use Rattle.laws_walk.specs.Answers.{pre_initialised_trees, application_trees, status_trees, signature_trees, exported_public_trees, exported_pair_trees}

-- ---- what is taken: the encodings of trees with no template deeper than 4, and no other bytes; each is the encoding of one list of trees
pub record WalkTakes : Type 0 where
  pub taken : (s : List ℕ) (n : ℕ) → WALK s ≡ record { refusal = 0; count = n; offset = 0 } ↔ Holds s n
  pub onelist : (ts us : Trees) → Lawful ts → Lawful us → encode ts ≡ encode us → ts ≡ us
  pub bytes : (ts : Trees) → Lawful ts → Bytes (encode ts) ↔ Octets ts

-- ---- what is refused: 4 and 5 by the first fault from the left, whose field has its tag at one place
pub record WalkFaults : Type 0 where
  pub malformed : (s : List ℕ) → (WALK s).refusal ≡ 4 ↔ ((k : ℕ) × FirstFault s Malformed k)
  pub toodeep : (s : List ℕ) → (WALK s).refusal ≡ 5 ↔ ((k : ℕ) × FirstFault s TooDeep k)
  -- every input is taken, or has a first fault of one of the two kinds; never more than one of the three
  pub onecase : (s : List ℕ) → ((n : ℕ) × Holds s n) ⊎ (((k : ℕ) × FirstFault s Malformed k) ⊎ ((k : ℕ) × FirstFault s TooDeep k))
  pub apart : (s : List ℕ) (n : ℕ) (f : Fault) (k : ℕ) → Holds s n → FirstFault s f k → ⊥
  pub oneplace : (s : List ℕ) (f g : Fault) (j k : ℕ) → FirstFault s f j → FirstFault s g k → (f ≡ g) × (j ≡ k)
  -- what WALK reports: the number of the fault's kind, and as fault offset the place of its field's tag; 0 where nothing is refused
  pub malformedat : (s : List ℕ) (k : ℕ) → (((WALK s).refusal ≡ 4) × ((WALK s).offset ≡ k)) ↔ FirstFault s Malformed k
  pub toodeepat : (s : List ℕ) (k : ℕ) → (((WALK s).refusal ≡ 5) × ((WALK s).offset ≡ k)) ↔ FirstFault s TooDeep k
  pub nooffset : (s : List ℕ) → (WALK s).refusal ≡ 0 → (WALK s).offset ≡ 0
  -- and its answer, an enum, has that fault and its place
  pub place : (s : List ℕ) (f : Fault) (k : ℕ) → walk_of s ≡ refused f k ↔ FirstFault s f k
  -- the place is that of a byte of the input; of a template that is too deep it is that of a template's tag
  pub atbyte : (s : List ℕ) (f : Fault) (k : ℕ) → FirstFault s f k → k < length s
  pub attemplate : (s : List ℕ) (k : ℕ) → FirstFault s TooDeep k → is_template (get_or s k 0) ≡ true

-- ---- the templates that commands answer, as trees
pub record WalkAnswers : Type 0 where
  pub preinitialised : (key : List ℕ) → length key < 256 → Encodes (pre_initialised_trees key) (pre_initialised key) 1
  pub application : (uid key : List ℕ) (free : ℕ) (key_uid : List ℕ) → length uid ≤ 16 → length key ≤ 65 → length key_uid ≤ 32
      → Encodes (application_trees uid key free key_uid) (application_info uid key free key_uid) 5
  pub status : (pin puk : ℕ) (key : Bool) → Encodes (status_trees pin puk key) (status pin puk key) 3
  pub signature : (key r s : List ℕ) → length key ≤ 65 → length r ≤ 32 → length s ≤ 32
      → Encodes (signature_trees key r s) (signature key r s) 3
  pub exportedpublic : (key : List ℕ) → length key ≤ 65 → Encodes (exported_public_trees key) (exported_public key) 1
  pub exportedpair : (key private : List ℕ) → length key ≤ 65 → length private ≤ 32
      → Encodes (exported_pair_trees key private) (exported_pair key private) 2

-- ---- examples. 80 01 FF, then A1 with 80 03 00, then 80 00: the field inside A1 ends after A1, though within the input, and its tag is 5 bytes
-- from the start. Four templates, one in the other, and in the last a fifth, or a field that is no template
pub record WalkExamples : Type 0 where
  pub pastparent : FirstFault (0x80 ∷ 0x01 ∷ 0xFF ∷ 0xA1 ∷ 0x03 ∷ 0x80 ∷ 0x03 ∷ 0x00 ∷ 0x80 ∷ 0x00 ∷ []) Malformed 5
  pub fifth : FirstFault (0xA1 ∷ 0x08 ∷ 0xA1 ∷ 0x06 ∷ 0xA1 ∷ 0x04 ∷ 0xA1 ∷ 0x02 ∷ 0xA1 ∷ 0x00 ∷ []) TooDeep 8
  pub leaffive : Holds (0xA1 ∷ 0x08 ∷ 0xA1 ∷ 0x06 ∷ 0xA1 ∷ 0x04 ∷ 0xA1 ∷ 0x02 ∷ 0x80 ∷ 0x00 ∷ []) 1

pub record WalkReads : Type 0 where
  pub takes : WalkTakes
  pub faults : WalkFaults
  pub answers : WalkAnswers
  pub examples : WalkExamples
