-- The products of the four bytes, summed row by row, are InvMixColumns' rows, by its definition.
-- Assumes nothing.
use mathlib.Core.Path.{refl}
use Rattle.aes_rules.specs.InvCipher.{inv_mix_row}
use Rattle.aes_decrypt.proofs.inv_mix_column.Goals as goal

pub returns : goal.returns
unfolding inv_mix_row
returns c =
    rw (
      c.products_of-p.ensures,
      c.products_of-q.ensures,
      c.products_of-r.ensures,
      c.products_of-s.ensures,
    )
    refl
