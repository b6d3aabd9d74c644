-- INIT's content (RULES 6.5): what data and supply hold.
use Rattle.std.specs.Prelude.{ℕ, cond, List, Some, None}
use Rattle.std.specs.Prelude as code
use Rattle.std.proofs.Math.Option.{Option, none, some}
use Rattle.rules.specs.Supplies.{says_yes, init_key}
use Rattle.rules.specs.Commands.{init_content, is_content}

-- what the data hold under the supply's key: nothing where the flag says no
unfoldable pub brought_content : List ℕ → List ℕ → Option (List ℕ)
brought_content d s = cond (says_yes s) (init_content (init_key s) d) none

-- what is brought, where it is content that is right
abbrev pub right : Option (List ℕ) → code.Option (List ℕ)
right none = None
right (some x) = cond (is_content x) (Some x) None
