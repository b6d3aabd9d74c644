-- The commands that are needed, one after the other.
-- Assumes nothing.
use mathlib.Core.List.{append_assoc}
use native.Mathlib.Omega.{arith}
use Rattle.template_rules.proofs.WritingFacts.{wrote-same, wrote-both}
use Rattle.plan_make.specs.Make.{wanted}
use Rattle.plan_make.proofs.Written.{length-wanted, wrote-length}
use Rattle.plan_make.proofs.put_plan.Goals as goal

pub put_command-second-requires : goal.put_command-second-requires
put_command-second-requires c =
    let w = c.put_command-first.ensures in
    let l = length-wanted c.args.needs.verify 0x20 c.args.pin.now in
    (omega (arith, w.place, wrote-length w, l, c.requires.0, c.requires.1, c.requires.3), omega (arith, c.requires.2, c.requires.3))

pub put_command-requires : goal.put_command-requires
put_command-requires c =
    let w = c.put_command-first.ensures in
    let x = c.put_command-second.ensures in
    let l = length-wanted c.args.needs.verify 0x20 c.args.pin.now in
    let m = length-wanted c.args.needs.set 0xC1 c.args.pinless.now in
    (omega (arith, w.place, x.place, wrote-length w, wrote-length x, l, m, c.requires.0, c.requires.1, c.requires.2, c.requires.3), omega (arith, c.requires.2, c.requires.3))

pub returns : goal.returns
returns c =
    let a = c.args in
    wrote-same (append_assoc (wanted a.needs.verify 0x20 a.pin.now) (wanted a.needs.set 0xC1 a.pinless.now) (wanted a.needs.derive 0xD1 a.current.now))
    (wrote-both (wrote-both c.put_command-first.ensures c.put_command-second.ensures) c.put_command.ensures)
