-- A fresh card with the groups of fields in their places.
-- Assumes nothing.
use Rattle.record_rules.specs.Parse.{card_of}
use Rattle.record_card.proofs.AtFacts.{tap-at}
use mathlib.Core.Path.{◌∙◌}
use Rattle.record_card.proofs.card_of.Goals as goal

pub returns : goal.returns
unfolding card_of
returns c = let first = c.take_identity-first.ensures in
    let second = c.take_secrets-second.ensures in
    let third = c.take_keys-third.ensures in
    rw (c.fresh-card.ensures, first.flag, first.identity, second.pins, second.pairing, third.keys, c.take_tap-tap.ensures ∙ tap-at third.next)
