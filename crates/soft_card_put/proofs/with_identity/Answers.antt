-- Two fields, each written after the one before it.
-- Assumes nothing.
use Rattle.std.proofs.Common.{rules}
use lib.ListN.{take}
use Rattle.card.specs.Sizes.{uid_bytes, public_key_bytes}
use Rattle.soft_card_bytes.specs.Offsets.{identity_offset, public_key_offset}
use Rattle.soft_card_bytes.proofs.Grown.{join}
use Rattle.soft_card_put.proofs.Wrote.{wrote-bytes}
use Rattle.soft_card_put.proofs.with_identity.Goals as goal

pub returns : goal.returns
returns c = let g = c.args in
    join (take identity_offset g.s) _ _
    (wrote-bytes g.s identity_offset uid_bytes g.x.uid (search rules) (search rules) c.put.ensures)
    (wrote-bytes c.put.new.buf public_key_offset public_key_bytes g.x.public_key (search rules) (search rules) c.put-2.ensures)
