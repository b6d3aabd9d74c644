-- `xor_blocks` makes each byte of the exclusive-or.
-- Assumes nothing.
use Rattle.std.proofs.Common.{rules, tests}
use mathlib.Core.Path.{sym, ◌∙◌}
use mathlib.Core.List.{List}
use Prim.Native.Nat.{ℕ}
use lib.Bits.{bit_xor}
use lib.ListN.{get_or}
use Rattle.octets.proofs.Lists.{xored}
use Rattle.octets.proofs.Made.{made_by}
use Rattle.octets.proofs.xor_blocks.Goals as goal

pub returns : goal.returns
returns g c =
    let s : List ℕ = c.args.s in
    let k : List ℕ = c.args.k in
    made_by _ (λ i. bit_xor (get_or s i 0) (get_or k i 0)) _ c.from_fn.result _ c.from_fn.ensures.items (λ m r q l e. search (rules, tests))
    ∙ sym (xored s k _ (search rules) (search rules))
