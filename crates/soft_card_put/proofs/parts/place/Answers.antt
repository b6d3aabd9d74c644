-- What fits is written over the list, by `placed`.
-- Assumes nothing.
use Rattle.std.proofs.Common.{◌≡◌, ◌-◌, length, min, rules, ◌∙◌}
use Rattle.soft_card_put.proofs.Placed.{placed}
use Rattle.soft_card_put.proofs.parts.place.Goals as goal

pub returns : goal.returns
returns c = let g = c.args in
    let from : c.min-from.result ≡ min g.at (length g.dst.now) = search rules in
    let n : c.min-n.result ≡ min (length g.src.now) (length g.dst.now - c.min-from.result) = search rules in
    c.put.ensures ∙ placed g.dst.now g.src.now g.at from n
