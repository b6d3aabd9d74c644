-- The report's fields. Invariant: what is written is the fields of the numbers passed.
-- Assumes nothing.
use Rattle.std.proofs.Common.{rules}
use mathlib.Core.Path.{◌≡◌, refl, ap}
use native.Mathlib.Omega.{arith}
use lib.ListN.{length}
use Rattle.stock_rules.specs.Counts.{number_count}
use Rattle.stock_report.proofs.ReportedFacts.{put-none, put-more, put_all}
use Rattle.stock_report.proofs.put_report.Goals as goal

pub loop-n-init : goal.loop-n-init
loop-n-init c = let a = c.args in
    let l : length a.c ≡ number_count = search rules in
    (l, refl, c.requires, refl, refl, put-none a.c a.buf.now)

pub put_field-at-requires : goal.put_field-at-requires
put_field-at-requires c = omega (arith, ap length c.bytes_of-number.ensures)

pub loop-n-preserved : goal.loop-n-preserved
loop-n-preserved c = let w = c.loop-n in
    let l = c.loop-n.invariant in
    let x = c.bytes_of-number.ensures in
    let s = ap length x in
    (l.0, omega (arith, l.1, c.put_field-at.auto.buf), l.2, omega (arith, l.3, c.put_field-at.ensures.1, s), omega arith, put-more c.args.c w.n-index w.tag c.bytes_of-number.result (omega arith) l.4 x l.5 c.put_field-at.ensures.0 (omega (arith, l.3, c.put_field-at.ensures.1, s)))

pub returns : goal.returns
returns c = put_all c.args.c c.loop-n.n-index (omega arith) c.loop-n.invariant.5
