-- What the code's answers mean in the rulebook: the code's options for the rulebook's, and what a command's function writes. No rule is here.
use Rattle.std.specs.Prelude.{ℕ, List, ◌≡◌, length, None, Some}
use Rattle.std.proofs.Math.Option.{Option, none, some}
use Rattle.std.specs.Prelude as code
use Rattle.octets.specs.Bytes.{written}
use Rattle.card.specs.declared.Card.{Card}
use Rattle.rules.specs.declared.Command.{Command}
use Rattle.rules.specs.declared.Replied.{Replied}
use Rattle.rules.specs.Words.{Reply}

-- step 5: the command, or that its P1 and P2 are not listed
abbrev pub choice_of : Option Command → code.Option Command
choice_of (some k) = Some k
choice_of none = None

-- a reply from its parts
abbrev pub reply_with : ℕ → List ℕ → Card → Reply
reply_with w response c = record { status = w; response = response; card = c }

-- a reply: its status word, the count of its response data, and its card
abbrev pub replied_of : Reply → Replied
replied_of r = record { status = r.status; count = length r.response; card = r.card }

-- and what it leaves in the buffer: the response data from the start, the rest as it was
pub record Replies (r : Reply) (out : Replied) (before after : List ℕ) : Type 0 where
  pub told : out ≡ replied_of r
  pub left : after ≡ written r.response before
