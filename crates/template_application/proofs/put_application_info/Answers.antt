-- `put_application_info` writes the head for the length of the fields, and the fields after it.
use mathlib.Core.Path.{sym, ap, ◌∙◌}
use mathlib.Core.List.{◌++◌}
use Prim.Native.Nat.{ℕ}
use Rattle.template_rules.specs.Template.{field_head}
use Rattle.template_rules.proofs.WritingFacts.{wrote-both, wrote-same}
use Rattle.template_answers.specs.Answers.{application_fields}
use Rattle.template_answers.proofs.AnswerFacts.{application-length}
use Rattle.template_application.proofs.put_application_info.Goals as goal

pub returns : goal.returns
returns c =
    let a = c.args in let n = c.application_bytes-inner_bytes in
    let fields = application_fields a.uid.now a.key.now a.free_slots a.key_uid.now in
    wrote-same
    (ap (λ (k : ℕ). field_head 0xA4 k ++ fields)
    (n.ensures ∙ sym (application-length a.uid.now a.key.now a.free_slots a.key_uid.now)))
    (wrote-both {u = fields} c.put_head-behind.ensures c.put_application_fields.ensures)
