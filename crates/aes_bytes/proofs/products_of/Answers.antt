-- Three doublings give the four products.
-- Assumes nothing.
use Rattle.std.proofs.Common.{rules}
use mathlib.Core.Path.{refl}
use Rattle.aes_field.specs.Doublings.{ByDoublings}
use Rattle.aes_field.proofs.Doublings.{by-doublings}
use Rattle.aes_bytes.proofs.products_of.Goals as goal

pub returns : goal.returns
returns c = let d : ByDoublings c.args.b = by-doublings c.args.b (search rules) in
    rw (
      c.x_times-b8.ensures,
      c.x_times-b4.ensures,
      c.x_times-b2.ensures,
      d.nine,
      d.eleven,
      d.thirteen,
      d.fourteen,
    )
    refl
