-- Each field is read at its place, and the bytes of that session are those given, by `session-read`.
-- Assumes nothing.
use Rattle.std.proofs.Common.{rules}
use mathlib.Core.Path.{◌≡◌}
use mathlib.Core.List.{List}
use Prim.Native.Nat.{ℕ}
use lib.ListN.{length}
use Rattle.card.specs.Sizes.{session_bytes}
use Rattle.soft_card_bytes.specs.Places.{session_at}
use Rattle.soft_card_bytes.proofs.Trips.{session-read}
use Rattle.soft_card_bytes.proofs.session_of.Goals as goal

pub returns : goal.returns
unfolding session_at
returns c = let s : List ℕ = c.args.bytes in
    let l : length s ≡ session_bytes = search rules in
    session-read s l (rw (c.part.ensures, c.part-2.ensures, c.part-3.ensures))
