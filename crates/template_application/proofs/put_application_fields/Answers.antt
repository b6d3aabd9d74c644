-- `put_application_fields` writes the five fields one after the other; there is room for each.
use Rattle.template_rules.proofs.WritingFacts.{wrote-both}
use Rattle.template_application.proofs.put_application_fields.Goals as goal

pub returns : goal.returns
returns c =
    wrote-both
    (wrote-both (wrote-both (wrote-both c.put_field-after_uid.ensures c.put_field-after_key.ensures) c.put_field-after_version.ensures)
    c.put_field-after_free.ensures) c.put_field.ensures
