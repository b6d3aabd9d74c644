-- Not read, a wrong length, no flag, or the flag.
-- Assumes nothing.
use mathlib.Core.Path.{◌∙◌}
use Rattle.engine_reports.proofs.Suits.{suits-unread, suits-length, suits-unflagged, suits-flagged, no_flag}
use Rattle.engine_reports.proofs.supply_suits.Goals as goal

pub returns-then-k-eq0 : goal.returns-then-k-eq0
returns-then-k-eq0 c = suits-unread c.args.k c.args.s.now c.if-k-eq0.true

pub returns-then-s-k : goal.returns-then-s-k
returns-then-s-k c = suits-length c.args.k c.args.s.now c.if-k-eq0.false c.if-s-k.true

pub returns-then-not-k : goal.returns-then-not-k
returns-then-not-k c = suits-unflagged c.args.k c.args.s.now c.if-k-eq0.false c.if-s-k.false c.if-not-k.true

pub returns-then-s-eq0 : goal.returns-then-s-eq0
returns-then-s-eq0 c = no_flag c.args.s.now c.if-s-eq0.true ∙ suits-flagged c.args.k c.args.s.now c.if-k-eq0.false c.if-s-k.false c.if-not-k.false

pub returns : goal.returns
returns c = suits-flagged c.args.k c.args.s.now c.if-k-eq0.false c.if-s-k.false c.if-not-k.false
