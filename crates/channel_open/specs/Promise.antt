-- What the opening of a field (RULES 8.4) promises, as a record whose parts have names. Lengths are in bytes.
use Rattle.std.specs.Prelude.{ℕ, ◌≤◌, List, ◌≡◌, length, take}
use Rattle.std.specs.Prelude as rust
use Rattle.std.proofs.Math.Option.{Option, some}
use Rattle.refusals.specs.Refusals.{data_most}
use Rattle.channel_rules.specs.Message.{opening_of, field_out, opening_out}

-- an opening gives the length of the opened data, at most 223 bytes, which are at the start of `plain`; or that there is none. `says` has
-- the status word and the refusal that mean no data
pub record Opens (data' : Option (List ℕ)) (r : rust.Option ℕ) (plain : List ℕ) : Type 0 where
  pub told : r ≡ opening_of data'
  pub says : opening_out plain r ≡ field_out data'
  pub left : (x : List ℕ) → data' ≡ some x → x ≡ take (length x) plain
  pub short : (x : List ℕ) → data' ≡ some x → length x ≤ data_most
