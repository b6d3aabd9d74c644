-- With the public key the value is the private part behind it.
-- Assumes nothing.
use mathlib.Core.Path.{sym, ◌∙◌}
use Rattle.template_keypair.proofs.KeypairFacts.{keypair-with}
use Rattle.template_keypair.proofs.is_keypair.Goals as goal

pub returns-then-begins_with : goal.returns-then-begins_with
returns-then-begins_with c =
    keypair-with c.args.chain c.args.s.now _ c.read_head.ensures.0 _ _ c.in-Some.is c.if-s.false
    c.if-head-s.false _ (sym c.begins_with.ensures ∙ c.if-begins_with.true) c.is_private.ensures
