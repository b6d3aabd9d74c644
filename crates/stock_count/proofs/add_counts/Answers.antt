-- The sum of two counts: by cases on soundness and on the records fed, each from the laws of `add_counts`.
-- Assumes nothing.
use Rattle.std.proofs.Common.{rules}
use mathlib.Core.Path.{◌≡◌, sym, ap, ◌∙◌}
use native.Mathlib.Omega.{arith}
use lib.ListN.{length}
use Rattle.stock_rules.specs.Counts.{number_count, counted}
use Rattle.stock_rules.proofs.BatchFacts.{sum-unsound, sum-full, sum_fits}
use Rattle.stock_count.proofs.SumFacts.{one-unsound, both-sound, sums-fit}
use Rattle.stock_count.proofs.add_counts.Goals as goal

pub returns-then-not-both : goal.returns-then-not-both
returns-then-not-both c = let a = c.args in
    c.refused.ensures ∙ sym (sum-unsound a.c a.d (one-unsound a.c a.d c.sound.ensures c.sound-2.ensures c.if-not-both.true))

pub returns-then-fed_of-gt-FED_MAX : goal.returns-then-fed_of-gt-FED_MAX
returns-then-fed_of-gt-FED_MAX c = let a = c.args in
    let h = both-sound a.c a.d c.sound.ensures c.sound-2.ensures c.if-not-both.false in
    c.refused-then-fed_of-gt-FED_MAX.ensures ∙ sym (sum-full a.c a.d h.0 h.1 (omega (arith, c.fed_of.ensures.0, c.fed_of-2.ensures.0)))

pub plus-sum-requires : goal.plus-sum-requires
plus-sum-requires c = let a = c.args in
    let l : length a.c ≡ number_count = search rules in
    let m : length a.d ≡ number_count = search rules in
    let h = both-sound a.c a.d c.sound.ensures c.sound-2.ensures c.if-not-both.false in
    sums-fit a.c a.d l m h

pub returns : goal.returns
returns c = let a = c.args in
    let h = both-sound a.c a.d c.sound.ensures c.sound-2.ensures c.if-not-both.false in
    ap counted c.plus-sum.ensures
    ∙ sym (sum_fits a.c a.d h.0 h.1 (omega (arith, c.fed_of.ensures.0, c.fed_of-2.ensures.0)))
