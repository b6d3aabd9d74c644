-- `put_signature` writes head, key and pair one after the other; there is room for each.
use mathlib.Core.Path.{ap, ap₂, ◌∙◌}
use Prim.Native.Nat.{◌+◌}
use native.Mathlib.Omega.{arith}
use lib.ListN.{length}
use Rattle.template_rules.specs.Template.{field_bytes}
use Rattle.template_rules.proofs.WritingFacts.{wrote-both, wrote-same}
use Rattle.template_answers.proofs.AnswerFacts.{pair-length-le, signature-bytes-le, signature-parts}
use Rattle.template_signature.proofs.put_signature.Goals as goal

pub overflow_add-inner_bytes : goal.overflow_add-inner_bytes
overflow_add-inner_bytes c =
    let a = c.args in let p = c.requires in let n = c.pair_bytes in
    let small = pair-length-le a.r.now a.s.now p.1 p.2 in
    let all = signature-bytes-le (length a.key.now) n.result p.0 (omega (arith, n.ensures, small)) in
    omega (arith, c.field_bytes.ensures, c.field_bytes-2.ensures, all)

pub put_head-inner-requires : goal.put_head-inner-requires
put_head-inner-requires c =
    let a = c.args in let p = c.requires in let n = c.pair_bytes in
    let small = pair-length-le a.r.now a.s.now p.1 p.2 in
    let all = signature-bytes-le (length a.key.now) n.result p.0 (omega (arith, n.ensures, small)) in
    (omega (arith, c.field_bytes.ensures, c.field_bytes-2.ensures, all), omega (arith, p.3))

pub returns : goal.returns
returns c =
    let a = c.args in
    wrote-same
    (signature-parts a.key.now a.r.now a.s.now _
    (ap₂ ◌+◌ c.field_bytes.ensures (c.field_bytes-2.ensures ∙ ap field_bytes c.pair_bytes.ensures)))
    (wrote-both (wrote-both c.put_head-inner.ensures c.put_field-after_key.ensures) c.put_pair.ensures)
