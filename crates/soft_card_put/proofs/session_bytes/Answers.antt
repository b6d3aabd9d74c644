-- Three fields, each written after the one before it, and the last ends the bytes.
-- Assumes nothing.
use Rattle.std.proofs.Common.{rules}
use mathlib.Core.Path.{sym, ◌∙◌}
use mathlib.Core.List.{[]}
use lib.ListN.{replicate}
use lib.Seq.{take_all}
use Rattle.card.specs.Sizes.{key_bytes, iv_bytes, session_bytes}
use Rattle.soft_card_bytes.specs.Offsets.{session_mac_key_offset, session_iv_offset}
use Rattle.soft_card_bytes.proofs.Grown.{join}
use Rattle.soft_card_put.proofs.Wrote.{wrote-bytes}
use Rattle.soft_card_bytes.specs.Flat.{session_flat}
use Rattle.soft_card_put.proofs.session_bytes.Goals as goal

pub returns : goal.returns
unfolding session_flat
returns c = let g = c.args in
    sym (join [] _ _
    (join [] _ _
    (wrote-bytes (replicate session_bytes 0) 0 key_bytes g.x.enc_key (search rules) (search rules) c.put.ensures)
    (wrote-bytes c.put.new.buf session_mac_key_offset key_bytes g.x.mac_key (search rules) (search rules) c.put-2.ensures))
    (wrote-bytes c.put-2.new.buf session_iv_offset iv_bytes g.x.iv (search rules) (search rules) c.put-3.ensures)
    ∙ take_all session_bytes c.put-3.new.buf (search rules))
