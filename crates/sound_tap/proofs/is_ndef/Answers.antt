-- Fewer than two bytes fail the definition's first line; else its other two lines are the tests of the code.
-- Assumes nothing.
use mathlib.Core.Path.{refl}
use native.Mathlib.Omega.{arith}
use Rattle.sound_tap.proofs.TapFacts.{ndef-short, ndef-told}
use Rattle.sound_tap.proofs.is_ndef.Goals as goal

pub returns-then-data-lt-LENGTH_BYTES : goal.returns-then-data-lt-LENGTH_BYTES
returns-then-data-lt-LENGTH_BYTES c = ndef-short c.args.«data».now (omega arith)

pub returns : goal.returns
returns c =
    ndef-told c.args.«data».now c.number_of-told.result _ c.if-data-lt-LENGTH_BYTES.false c.number_of-told.ensures refl
