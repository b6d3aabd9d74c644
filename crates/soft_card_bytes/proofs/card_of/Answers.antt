-- Each part is read at its place, and the bytes of that card are those given, by `card-read`.
-- Assumes nothing.
use Rattle.std.proofs.Common.{rules}
use mathlib.Core.Path.{◌≡◌}
use mathlib.Core.List.{List}
use Prim.Native.Nat.{ℕ}
use lib.ListN.{length}
use Rattle.card.specs.Sizes.{card_bytes}
use Rattle.soft_card_bytes.specs.Places.{card_at}
use Rattle.soft_card_bytes.proofs.Trips.{card-read}
use Rattle.soft_card_bytes.proofs.card_of.Goals as goal

pub returns : goal.returns
unfolding card_at
returns c = let s : List ℕ = c.args.bytes in
    let l : length s ≡ card_bytes = search rules in
    card-read s l (rw (c.identity_of.ensures, c.pins_of.ensures, c.pairing_of.ensures, c.keys_of.ensures, c.channel_of.ensures, c.tap_of.ensures))
