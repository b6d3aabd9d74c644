-- `pieces` meets its contract. The loop's invariant: the pieces passed are put, and the pieces left decide.
-- Assumes nothing.
use Rattle.std.proofs.Common.{rules, ◌≡◌, refl, arith, Err}
use Rattle.std.proofs.lemmas.Grind.{common_steps}
use Rattle.std.proofs.lemmas.List.{length_push}
use Rattle.std.proofs.lemmas.Iterator.Splits.{YieldsList-from_slice_split}
use Rattle.std.proofs.lemmas.Iterator.Consumers.{YieldsList-turn, YieldsList-end}
use Rattle.soft_word_bytes.proofs.WordFacts.{is_dot, joining-none, refused, ended, joining-more}
use Rattle.soft_word_bytes.proofs.pieces.Goals as goal

pub loop-p-init : goal.loop-p-init
loop-p-init c = joining-none _ _ _

pub returns-in_err-len : goal.returns-in_err-len
returns-in_err-len c =
    let t = YieldsList-turn (YieldsList-from_slice_split _ is_dot c.args.w.now (cc) (cc) refl (λ x r q k. search rules)) c.loop-p.yielded _ c.loop-p.yielded_by _ _ c.in-Some.p c.in-Some.is c.next.ensures.steps in
    let q = refused c.loop-p.invariant t c.piece.ensures _ c.in_err-len.was in
    let k : c.from_residual.result ≡ Err c.in_err-len.field-0.0 = grind (arith, common_steps) in
    rw k q

pub loop-p-preserved : goal.loop-p-preserved
loop-p-preserved c =
    let t = YieldsList-turn (YieldsList-from_slice_split _ is_dot c.args.w.now (cc) (cc) refl (λ x r q k. search rules)) c.loop-p.yielded _ c.loop-p.yielded_by _ _ c.in-Some.p c.in-Some.is c.next.ensures.steps in
    rw (length_push c.loop-p.yielded c.in-Some.p) (joining-more c.loop-p.invariant t c.piece.ensures _ c.in_ok-len.was)

pub returns : goal.returns
returns c =
    let t = YieldsList-end (YieldsList-from_slice_split _ is_dot c.args.w.now (cc) (cc) refl (λ x r q k. search rules)) c.loop-p.yielded _ c.loop-p.yielded_by _ _ c.in-None.is c.next.ensures.steps in
    ended c.loop-p.invariant t.1
