-- Data and status word are put after the MAC's place, sealed there, and 9000 follows.
-- Assumes nothing.
use Rattle.std.proofs.Common.{rules}
use mathlib.Core.Path.{refl}
use mathlib.Core.List.{[], ◌∷◌}
use Prim.Native.Nat.{◌+◌}
use native.Mathlib.Omega.{arith}
use lib.ListN.{length}
use Rattle.channel_seal.proofs.Responses.{response-fits, response-sealed}
use Rattle.channel_seal.proofs.seal_response.Goals as goal

pub response_head-requires : goal.response_head-requires
response_head-requires c = omega (arith, c.padded_bytes-padded.ensures, response-fits (length c.args.response.now + 2) (omega (arith, c.requires)))

pub seal_field-mac-requires : goal.seal_field-mac-requires
seal_field-mac-requires c = omega (arith, c.put-2.auto.buf, c.put.auto.buf, c.requires, response-fits (length c.args.response.now + 2) (omega (arith, c.requires)))

pub overflow_add-end : goal.overflow_add-end
overflow_add-end c = omega (arith, c.padded_bytes-padded.ensures, response-fits (length c.args.response.now + 2) (omega (arith, c.requires)))

pub put-requires-3 : goal.put-requires-3
put-requires-3 c = omega (arith, c.seal_field-mac.auto.buf, c.put-2.auto.buf, c.put.auto.buf, c.padded_bytes-padded.ensures, c.requires, response-fits (length c.args.response.now + 2) (omega (arith, c.requires)))

pub returns : goal.returns
returns c = let g = c.args in
    let f = c.seal_field-mac in
    response-sealed g.s g.buf.now c.put.new.buf c.put-2.new.buf f.new.buf c.put-3.new.buf g.response.now (g.sw1 ∷ g.sw2 ∷ [])
    c.response_head.result f.result (length g.response.now + 2) c.padded_bytes-padded.result c.requires.1 c.requires.0 refl refl
    c.padded_bytes-padded.ensures c.put.ensures c.put-2.ensures c.response_head.ensures f.ensures (search rules) c.put-3.ensures
    _ refl c.after.ensures
