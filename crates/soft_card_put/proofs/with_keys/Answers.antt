-- Four fields, each written after the one before it.
-- Assumes nothing.
use Rattle.std.proofs.Common.{rules}
use native.Mathlib.Omega.{arith}
use lib.ListN.{take, set, length-set}
use Rattle.card.specs.Sizes.{key_bytes}
use Rattle.soft_card_bytes.specs.Offsets.{keys_offset, key_uid_offset}
use Rattle.soft_card_bytes.specs.Flat.{path_flat}
use Rattle.soft_card_bytes.proofs.Grown.{join}
use Rattle.soft_card_put.proofs.Wrote.{wrote-byte, wrote-bytes}
use Rattle.soft_card_put.proofs.with_keys.Goals as goal

pub returns : goal.returns
returns c = let g = c.args in
    join (take keys_offset g.s) _ (path_flat g.x.pinless)
    (join (take keys_offset g.s) _ (path_flat g.x.current)
    (join (take keys_offset g.s) _ _
    (wrote-byte g.s keys_offset g.x.kind (omega (arith, length-set g.s keys_offset g.x.kind)))
    (wrote-bytes (set g.s keys_offset g.x.kind) key_uid_offset key_bytes g.x.uid (search rules) (search rules) c.put.ensures))
    c.with_path-a.ensures)
    c.with_path.ensures
