-- `is_private` tests the private key, and then the chain code or the end, as the layout has them.
use mathlib.Core.Path.{sym, ◌∙◌}
use Rattle.template_rules.proofs.HeadFacts.{begins-facts}
use Rattle.template_keypair.proofs.KeypairFacts.{not-private, private-alone, not-chain, private-and-chain}
use Rattle.template_keypair.proofs.is_private.Goals as goal

pub returns-then-not-begins_with : goal.returns-then-not-begins_with
returns-then-not-begins_with c =
    not-private c.args.s.now c.args.chain (sym c.begins_with.ensures ∙ c.if-not-begins_with.true)

pub slice_bounds-rest-count : goal.slice_bounds-rest-count
slice_bounds-rest-count c =
    (begins-facts 0x81 32 c.args.s.now (sym c.begins_with.ensures ∙ c.if-not-begins_with.false)).2

pub slice_bounds-rest-start : goal.slice_bounds-rest-start
slice_bounds-rest-start c =
    (begins-facts 0x81 32 c.args.s.now (sym c.begins_with.ensures ∙ c.if-not-begins_with.false)).2

pub returns-then-not-chain : goal.returns-then-not-chain
returns-then-not-chain c =
    private-alone c.args.s.now c.args.chain (sym c.begins_with.ensures ∙ c.if-not-begins_with.false)
    (c.if-not-chain.true)

pub returns-then-not-begins_with-2 : goal.returns-then-not-begins_with-2
returns-then-not-begins_with-2 c =
    not-chain c.args.s.now c.args.chain (sym c.begins_with.ensures ∙ c.if-not-begins_with.false)
    (c.if-not-chain.false) (sym c.begins_with-2.ensures ∙ c.if-not-begins_with-2.true)

pub returns : goal.returns
returns c =
    private-and-chain c.args.s.now c.args.chain (sym c.begins_with.ensures ∙ c.if-not-begins_with.false)
    (c.if-not-chain.false) (sym c.begins_with-2.ensures ∙ c.if-not-begins_with-2.false)
