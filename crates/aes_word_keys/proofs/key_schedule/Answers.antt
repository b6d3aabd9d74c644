-- The key's words come first; after each turn of the second loop the words so far are the schedule so far, and the last turn completes it.
-- Assumes nothing.
use Rattle.std.proofs.Common.{rules}
use mathlib.Core.Path.{refl, subst, ◌∙◌}
use Prim.Native.Nat.{◌+◌, ◌*◌}
use native.Mathlib.Omega.{arith}
use lib.ListN.{length-set}
use Rattle.aes_word_keys.proofs.Growth.{Grown, key-word, key-grown, grown-four, grown-all}
use Rattle.aes_word_keys.proofs.key_schedule.Goals as goal

pub loop-n-init : goal.loop-n-init
loop-n-init c = (refl, search rules)

pub loop-n-preserved : goal.loop-n-preserved
loop-n-preserved c = let l = c.loop-n in
    (key-word c.args.key.now l.w l.n c.word_at.result l.invariant.0 (omega (arith, l.invariant.1)) c.word_at.ensures, length-set l.w l.n c.word_at.result ∙ l.invariant.1)

pub loop-k-init : goal.loop-k-init
loop-k-init c = let l = c.loop-n in
    subst (Grown c.args.key.now l.w) {x = l.n} {y = 8} (omega arith) (key-grown c.args.key.now l.w l.n l.invariant.0 (search rules) l.invariant.1 (omega arith))

pub loop-k-preserved : goal.loop-k-preserved
loop-k-preserved c = let l = c.loop-k in
    subst (Grown c.args.key.now _) {x = l.k * 4 + 4} {y = (l.k + 1) * 4} (omega arith)
    (grown-four c.args.key.now l.w (l.k * 4) c.changed_word-g.result _ _ _ _ l.invariant (omega arith) (omega arith) (omega arith) c.changed_word-g.ensures refl refl refl refl)

pub returns : goal.returns
returns c = grown-all c.args.key.now c.loop-k.w (c.loop-k.k * 4) c.loop-k.invariant (omega arith)
