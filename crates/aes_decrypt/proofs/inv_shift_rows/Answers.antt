-- Each byte is that of InvShiftRows.
-- Assumes nothing.
use Rattle.std.proofs.Common.{rules, tests}
use mathlib.Core.Path.{◌∙◌}
use mathlib.Core.List.{List}
use Prim.Native.Nat.{ℕ, ◌+◌, ◌*◌, ◌%◌}
use lib.ListN.{get_or}
use Rattle.octets.proofs.Made.{made_by}
use Rattle.aes_rules.proofs.Elements.{inv-shift-rows-made}
use Rattle.aes_decrypt.proofs.inv_shift_rows.Goals as goal

pub returns : goal.returns
returns c = let s : List ℕ = c.args.s in
    made_by _ (λ i. get_or s ((i + 12 * (i % 4)) % 16) 0) _ c.from_fn.result _ c.from_fn.ensures.items (λ m r q l e. search (rules, tests))
    ∙ inv-shift-rows-made s
