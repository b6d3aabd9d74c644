-- Four fields, each written after the one before it.
-- Assumes nothing.
use Rattle.std.proofs.Common.{rules}
use native.Mathlib.Omega.{arith}
use lib.ListN.{take, set, length-set}
use Rattle.card.specs.Sizes.{key_bytes, iv_bytes}
use Rattle.soft_card_bytes.specs.Offsets.{channel_offset, enc_key_offset, mac_key_offset, iv_offset}
use Rattle.soft_card_bytes.proofs.Grown.{join}
use Rattle.soft_card_put.proofs.Wrote.{wrote-byte, wrote-bytes}
use Rattle.soft_card_put.proofs.with_channel.Goals as goal

pub returns : goal.returns
returns c = let g = c.args in
    join (take channel_offset g.s) _ _
    (join (take channel_offset g.s) _ _
    (join (take channel_offset g.s) _ _
    (wrote-byte g.s channel_offset g.x.stage (omega (arith, length-set g.s channel_offset g.x.stage)))
    (wrote-bytes (set g.s channel_offset g.x.stage) enc_key_offset key_bytes g.x.enc_key (search rules) (search rules) c.put.ensures))
    (wrote-bytes c.put.new.buf mac_key_offset key_bytes g.x.mac_key (search rules) (search rules) c.put-2.ensures))
    (wrote-bytes c.put-2.new.buf iv_offset iv_bytes g.x.iv (search rules) (search rules) c.put-3.ensures)
