-- What the data that step 2 (RULES 5.2) finds say of a command's bytes. Every length is in bytes.
use Rattle.std.specs.Prelude.{ℕ, ◌≤◌, ◌≡◌, List, length}
use Rattle.std.proofs.Math.Option.{some}
use Rattle.rules.specs.Steps.{data_of}

-- the header is there, and the data, 255 bytes at most, are the command's
pub record DataIn (cmd field : List ℕ) : Type 0 where
  pub header : 4 ≤ length cmd
  pub short : length field ≤ 255
  pub holds : data_of cmd ≡ some field
