-- Four fields, each written after the one before it.
-- Assumes nothing.
use Rattle.std.proofs.Common.{rules}
use mathlib.Core.Path.{sym, ap, ◌∙◌}
use mathlib.Core.List.{List, ◌++◌}
use Prim.Native.Nat.{ℕ, ◌*◌}
use native.Mathlib.Omega.{arith}
use lib.ListN.{take, set, length-set}
use Rattle.card.specs.Sizes.{key_bytes, slot_bytes, slot_count}
use Rattle.soft_card_bytes.specs.Offsets.{pairing_offset, slots_offset, pending_offset, expected_offset}
use Rattle.soft_card_bytes.proofs.Grown.{join}
use Rattle.soft_card_put.proofs.Wrote.{wrote-byte, wrote-bytes}
use Rattle.soft_card_put.proofs.with_pairing.Goals as goal

pub returns : goal.returns
returns c = let g = c.args in
    join (take pairing_offset g.s) _ _
    (join (take pairing_offset g.s) _ _
    (wrote-bytes g.s pairing_offset key_bytes g.x.secret (search rules) (search rules) c.put.ensures)
    (ap (λ (x : List ℕ). take slots_offset c.put.new.buf ++ x) (sym c.slots_bytes-content.ensures)
    ∙ wrote-bytes c.put.new.buf slots_offset (slot_bytes * slot_count) c.slots_bytes-content.result (search rules) (search rules) c.put-2.ensures))
    (join (take pending_offset c.put-2.new.buf) _ _
    (wrote-byte c.put-2.new.buf pending_offset g.x.pending (omega (arith, length-set c.put-2.new.buf pending_offset g.x.pending)))
    (wrote-bytes (set c.put-2.new.buf pending_offset g.x.pending) expected_offset key_bytes g.x.expected (search rules) (search rules) c.put-3.ensures))
