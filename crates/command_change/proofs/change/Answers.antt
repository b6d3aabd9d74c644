-- CHANGE: by cases on the secret; the check of the data gives their length.
-- Assumes nothing.
use native.Mathlib.Omega.{arith}
use Rattle.rules.specs.Commands.{change_reply}
use Rattle.command_parts.proofs.SupplyFacts.{within, part-rest}
use Rattle.command_change.proofs.CheckFacts.{change-long}
use Rattle.command_change.proofs.change.Goals as goal

pub part-requires : goal.part-requires
part-requires c =
    (omega arith, within (change-long _ _ _ c.args.«data».now c.in-Pin.is c.requires) (omega arith))

pub part-requires-in-Puk : goal.part-requires-in-Puk
part-requires-in-Puk c =
    (omega arith, within (change-long _ _ _ c.args.«data».now c.in-Puk.is c.requires) (omega arith))

pub part-requires-in-Pairing : goal.part-requires-in-Pairing
part-requires-in-Pairing c =
    (omega arith, within (change-long _ _ _ c.args.«data».now c.in-Pairing.is c.requires) (omega arith))

pub returns-in-Pin : goal.returns-in-Pin
unfolding change_reply
returns-in-Pin c =
    let d = c.args.«data».now in
    let k = c.in-Pin.is in
    rw (
      k,
      c.done.ensures,
      c.with_pins.ensures,
      c.with_pin-changed.ensures,
      c.part.ensures,
      part-rest 0 6 d (change-long _ _ _ d k c.requires),
    )

pub returns-in-Puk : goal.returns-in-Puk
unfolding change_reply
returns-in-Puk c =
    let d = c.args.«data».now in
    let k = c.in-Puk.is in
    rw (
      k,
      c.done-in-Puk.ensures,
      c.with_pins-in-Puk.ensures,
      c.with_puk-changed.ensures,
      c.part-in-Puk.ensures,
      part-rest 0 12 d (change-long _ _ _ d k c.requires),
    )

pub returns-in-Pairing : goal.returns-in-Pairing
unfolding change_reply
returns-in-Pairing c =
    let d = c.args.«data».now in
    let k = c.in-Pairing.is in
    rw (
      k,
      c.done-in-Pairing.ensures,
      c.with_pairing.ensures,
      c.with_secret-changed.ensures,
      c.part-in-Pairing.ensures,
      part-rest 0 32 d (change-long _ _ _ d k c.requires),
    )
