-- `put_field` writes a head and then the value after it, which is the field.
-- Assumes nothing.
use native.Mathlib.Omega.{arith}
use lib.ListN.{length}
use Rattle.template_rules.proofs.WritingFacts.{wrote_one, wrote-both}
use Rattle.template_rules.proofs.HeadFacts.{head-length-le}
use Rattle.template_write.proofs.put_field.Goals as goal

pub returns : goal.returns
returns c =
    let h = c.put_head-behind in let a = c.args in
    wrote-both h.ensures (wrote_one (omega (arith, h.ensures.place, h.auto.buf, head-length-le a.tag (length a.value.now))) c.put.ensures)
