-- A head and the data after it are written as one command.
-- Assumes nothing.
use native.Mathlib.Omega.{arith}
use Rattle.template_rules.proofs.WritingFacts.{wrote_one, wrote-both}
use Rattle.plan_make.proofs.Written.{is-wanted, not-wanted, wrote-length}
use Rattle.plan_make.proofs.put_command.Goals as goal

pub returns-then-not-want : goal.returns-then-not-want
returns-then-not-want c = let a = c.args in
    not-wanted a.want a.ins a.«data».now a.at a.out.now (c.if-not-want.true) (omega (arith, c.requires.0))

pub returns : goal.returns
returns c =
    let a = c.args in
    let w = wrote_one {at = a.at} (omega (arith, c.requires.0)) c.put.ensures in
    is-wanted a.want a.ins a.«data».now (c.if-not-want.false)
    (wrote-both w (wrote_one (omega (arith, c.requires.0, wrote-length w)) c.put-2.ensures))
