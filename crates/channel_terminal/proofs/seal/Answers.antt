-- Each refusal is the definition's; else the front, and the field sealed in the part after it, are the command.
-- Assumes nothing.
use Rattle.std.proofs.Common.{rules}
use mathlib.Core.Path.{refl, ap, ◌∙◌}
use mathlib.Core.List.{List, [], ◌∷◌}
use Prim.Native.Nat.{ℕ}
use native.Mathlib.Omega.{arith}
use lib.ListN.{length, length-drop}
use Rattle.channel_heads.proofs.Tails.{tail-is}
use Rattle.channel_seal.proofs.Responses.{response-fits}
use Rattle.channel_terminal.proofs.Commands.{did-seal}
use Rattle.channel_terminal.proofs.seal.Goals as goal

pub command_head-head-requires : goal.command_head-head-requires
command_head-head-requires c = omega (arith, c.padded_bytes-padded.ensures, response-fits (length c.args.plain.now) (omega arith))

pub seal_field-mac-requires : goal.seal_field-mac-requires
seal_field-mac-requires c = let B : List ℕ = c.put.new.buf in
    omega
    (arith, ap length (tail-is 5 B) ∙ length-drop 5 B, c.put.auto.buf, response-fits (length c.args.plain.now) (omega arith))

pub overflow_add-lc : goal.overflow_add-lc
overflow_add-lc c = omega (arith, c.padded_bytes-padded.ensures, response-fits (length c.args.plain.now) (omega arith))

pub overflow_cast-lc : goal.overflow_cast-lc
overflow_cast-lc c = omega (arith, c.padded_bytes-padded.ensures, response-fits (length c.args.plain.now) (omega arith))

pub overflow_add-result-2 : goal.overflow_add-result-2
overflow_add-result-2 c = omega (arith, c.padded_bytes-padded.ensures, response-fits (length c.args.plain.now) (omega arith))

pub returns : goal.returns
returns c = let g = c.args in
    let f = c.seal_field-mac in
    did-seal g.s g.buf.now c.put.new.buf f.new.buf c.put-2.new.buf (g.cla ∷ g.ins ∷ g.p1 ∷ g.p2 ∷ []) g.plain.now c.command_head-head.result f.result
    c.padded_bytes-padded.result (omega arith) (omega arith) refl c.padded_bytes-padded.ensures c.put.ensures c.command_head-head.ensures
    f.ensures (search rules) c.put-2.ensures _ refl refl c.after.ensures
