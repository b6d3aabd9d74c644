-- `put_exported_pair` writes head, public key and private key one after the other; there is room for each.
use mathlib.Core.Path.{ap₂}
use Prim.Native.Nat.{◌+◌}
use Rattle.template_rules.proofs.WritingFacts.{wrote-both, wrote-same}
use Rattle.template_answers.proofs.AnswerFacts.{exported-pair-parts}
use Rattle.template_export.proofs.put_exported_pair.Goals as goal

pub returns : goal.returns
returns c =
    let a = c.args in
    wrote-same
    (exported-pair-parts a.key.now a.private.now _ (ap₂ ◌+◌ c.field_bytes.ensures c.field_bytes-2.ensures))
    (wrote-both (wrote-both c.put_head-inner.ensures c.put_field-after_key.ensures) c.put_field.ensures)
