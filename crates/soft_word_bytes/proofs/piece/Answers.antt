-- `piece` meets its contract: each test of the code is the definition's.
-- Assumes nothing.
use mathlib.Core.Path.{sym, ◌∙◌}
use Prim.Native.Nat.{◌-◌}
use native.Mathlib.Omega.{arith}
use lib.ListN.{length}
use Rattle.soft_word_bytes.proofs.PieceFacts.{put_as, piece-last, piece-short, piece-star, piece-plus, piece-pairs}
use Rattle.soft_word_bytes.proofs.piece.Goals as goal

pub returns-then-same : goal.returns-then-same
returns-then-same c = let a = c.args in
    let is = sym c.same.ensures ∙ c.if-same.true in
    put_as (length a.out.now - a.len) (sym (piece-last a.last.now a.p.now is)) c.append.ensures

pub returns-then-p-lt3 : goal.returns-then-p-lt3
returns-then-p-lt3 c = let a = c.args in
    let other = sym c.same.ensures ∙ c.if-same.false in
    put_as (length a.out.now - a.len) (sym (piece-short a.last.now a.p.now other (omega arith))) c.digits.ensures

pub returns-then-p-eq42 : goal.returns-then-p-eq42
returns-then-p-eq42 c = let a = c.args in
    let other = sym c.same.ensures ∙ c.if-same.false in
    put_as (length a.out.now - a.len) (sym (piece-star a.last.now a.p.now other c.if-p-eq42.true)) c.counted.ensures

pub returns-then-p-eq43 : goal.returns-then-p-eq43
returns-then-p-eq43 c = let a = c.args in
    let other = sym c.same.ensures ∙ c.if-same.false in
    put_as (length a.out.now - a.len) (sym (piece-plus a.last.now a.p.now other c.if-p-eq43.true)) c.counted-then-p-eq43.ensures

pub returns : goal.returns
returns c = let a = c.args in
    let other = sym c.same.ensures ∙ c.if-same.false in
    put_as (length a.out.now - a.len) (sym (piece-pairs a.last.now a.p.now other c.if-p-eq42.false c.if-p-eq43.false)) c.digits-2.ensures
