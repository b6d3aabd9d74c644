-- The templates that commands answer (RULES 9.5), as trees.
use Rattle.std.specs.Prelude.{Bool, List, [], ◌∷◌, ℕ}
use Rattle.template_rules.specs.Der.{der_content}
use Rattle.card.specs.State.{version}
use Rattle.template_answers.specs.Answers.{key_byte}
use Rattle.laws_walk.specs.Trees.{Trees, none, leaf, template}

-- SELECT before INIT: the public key
abbrev pub pre_initialised_trees : List ℕ → Trees
pre_initialised_trees key = leaf 0x80 key none

-- SELECT after INIT: UID, public key, version, free slots, key UID
abbrev pub application_trees : List ℕ → List ℕ → ℕ → List ℕ → Trees
application_trees uid key free key_uid =
    template 0xA4 (leaf 0x8F uid (leaf 0x80 key (leaf 0x02 version (leaf 0x02 (free ∷ []) (leaf 0x8E key_uid none))))) none

-- GET STATUS: PIN tries, PUK tries, key
abbrev pub status_trees : ℕ → ℕ → Bool → Trees
status_trees pin puk key = template 0xA3 (leaf 0x02 (pin ∷ []) (leaf 0x02 (puk ∷ []) (leaf 0x01 (key_byte key ∷ []) none))) none

-- SIGN: the public key, and a template with r and s
abbrev pub pair_trees : List ℕ → List ℕ → Trees
pair_trees r s = leaf 0x02 (der_content r) (leaf 0x02 (der_content s) none)

abbrev pub signature_trees : List ℕ → List ℕ → List ℕ → Trees
signature_trees key r s = template 0xA0 (leaf 0x80 key (template 0x30 (pair_trees r s) none)) none

-- EXPORT: the public key, or with it the private key
abbrev pub exported_public_trees : List ℕ → Trees
exported_public_trees key = template 0xA1 (leaf 0x80 key none) none

abbrev pub exported_pair_trees : List ℕ → List ℕ → Trees
exported_pair_trees key private = template 0xA1 (leaf 0x80 key (leaf 0x81 private none)) none
