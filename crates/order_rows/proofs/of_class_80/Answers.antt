-- Each instruction byte of class 80, and none of them (`unknown`).
-- Assumes nothing.
use mathlib.Core.Path.{sym}
use Rattle.rules.specs.Rows.{class80}
use Rattle.order_rows.proofs.Decoding.{unknown}
use Rattle.order_rows.proofs.of_class_80.Goals as goal

pub returns-in-254 : goal.returns-in-254
returns-in-254 c = rw c.in-254.is

pub returns-in-16 : goal.returns-in-16
returns-in-16 c = rw c.in-16.is

pub returns-in-17 : goal.returns-in-17
returns-in-17 c = rw c.in-17.is

pub returns-in-18 : goal.returns-in-18
returns-in-18 c = rw c.in-18.is

pub returns-in-19 : goal.returns-in-19
returns-in-19 c = rw c.in-19.is

pub returns-in-242 : goal.returns-in-242
returns-in-242 c = rw c.in-242.is

pub returns-in-32 : goal.returns-in-32
returns-in-32 c = rw c.in-32.is

pub returns-in-33 : goal.returns-in-33
returns-in-33 c = rw c.in-33.is

pub returns-in-34 : goal.returns-in-34
returns-in-34 c = rw c.in-34.is

pub returns-in-208 : goal.returns-in-208
returns-in-208 c = rw c.in-208.is

pub returns-in-209 : goal.returns-in-209
returns-in-209 c = rw c.in-209.is

pub returns-in-211 : goal.returns-in-211
returns-in-211 c = rw c.in-211.is

pub returns-in-193 : goal.returns-in-193
returns-in-193 c = rw c.in-193.is

pub returns-in-192 : goal.returns-in-192
returns-in-192 c = rw c.in-192.is

pub returns-in-194 : goal.returns-in-194
returns-in-194 c = rw c.in-194.is

pub returns-in-243 : goal.returns-in-243
returns-in-243 c = rw c.in-243.is

pub returns-in-210 : goal.returns-in-210
returns-in-210 c = rw c.in-210.is

pub returns-in_default : goal.returns-in_default
returns-in_default c = sym (unknown c.args.ins class80 _ c.in_default.in_default-own.rest).1
