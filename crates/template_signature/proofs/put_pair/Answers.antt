-- `put_pair` writes head, r and s one after the other; there is room for each, since no DER integer is longer than 35 bytes.
use native.Mathlib.Omega.{arith}
use Rattle.template_rules.proofs.HeadFacts.{short-head}
use Rattle.template_rules.proofs.WritingFacts.{wrote-both, wrote-same}
use Rattle.template_answers.proofs.AnswerFacts.{integer-length, pair-length-le, pair_parts}
use Rattle.template_signature.proofs.put_pair.Goals as goal

pub put_integer-requires : goal.put_integer-requires
put_integer-requires c =
    let a = c.args in let p = c.requires in let n = c.pair_bytes in
    let h = c.put_head-inner in let r = c.put_integer-after_r in
    let small = pair-length-le a.r.now a.s.now p.0 p.1 in
    let two = short-head 0x30 n.result (omega (arith, n.ensures, small)) in
    let most = integer-length a.r.now p.0 in
    (omega (arith, p.1), omega (arith, p.1, p.2, h.ensures.place, h.auto.buf, two, r.ensures.place, r.auto.buf, most))

pub returns : goal.returns
returns c =
    let a = c.args in
    wrote-same (pair_parts a.r.now a.s.now _ c.pair_bytes.ensures)
    (wrote-both (wrote-both c.put_head-inner.ensures c.put_integer-after_r.ensures) c.put_integer.ensures)
