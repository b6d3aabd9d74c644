-- `put_digits` writes the digits as they are, or head, zero and digits one after the other.
use mathlib.Core.Path.{sym, ◌∙◌}
use Prim.Native.Nat.{◌+◌}
use native.Mathlib.Omega.{arith}
use lib.ListN.{length}
use Rattle.template_rules.proofs.WritingFacts.{wrote_one, wrote-both, wrote-same}
use Rattle.template_rules.proofs.HeadFacts.{head-length-le}
use Rattle.template_rules.proofs.DerFacts.{zero_field}
use Rattle.template_der.proofs.put_digits.Goals as goal

pub returns : goal.returns
returns c =
    let d = c.args.digits.now in
    wrote-same (zero_field d (sym c.needs_zero.ensures ∙ c.if-not-needs_zero.false))
    (wrote-both (wrote-both c.put_head-behind.ensures (wrote_one ((let h = c.put_head-behind in let d = c.args.digits.now in
    omega (arith, h.ensures.place, h.auto.buf, c.requires, head-length-le 0x02 (length d + 1)))) c.put.ensures))
    (wrote_one ((let h = c.put_head-behind in let d = c.args.digits.now in
    omega (arith, h.ensures.place, h.auto.buf, c.put.auto.buf, c.requires, head-length-le 0x02 (length d + 1)))) c.put-2.ensures))
