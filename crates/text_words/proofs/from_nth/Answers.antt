-- `from_nth` meets its contract: one word less is left to pass over, and what is left is the line's end still.
-- Assumes nothing.
use Rattle.std.proofs.Common.{rules, ◌≡◌, ℕ, List, suc, ◌+◌, ◌-◌, ap, subst, ◌∙◌, drop, arith}
use Rattle.text_words.specs.Words.{blanks, letters, from_word, word_from, IsEnd}
use Rattle.text_words.proofs.Ends.{end-whole, end-drop}
use Rattle.text_words.proofs.from_nth.Goals as goal

pub loop-i-init : goal.loop-i-init
loop-i-init c = let s : List ℕ = c.args.s.now in
    let first : from_word s ≡ c.from_word-rest.result.now = cc in
    (subst (λ (r : List ℕ). IsEnd s r) first (end-drop s s (blanks s) (end-whole s)), search rules)

pub loop-i-preserved : goal.loop-i-preserved
loop-i-preserved c = let k : ℕ = c.args.k in
    let i : ℕ = c.loop-i._i in
    let s : List ℕ = c.args.s.now in
    let rest : List ℕ = c.loop-i.rest.now in
    let one : k - i ≡ suc (k - (i + 1)) = omega arith in
    let behind : from_word (drop (letters rest) rest) ≡ c.from_word-rest-in-loop-i.result.now = cc in
    let left : List ℕ = drop (letters rest) rest in (
      subst (λ (r : List ℕ). IsEnd s r) behind (end-drop s left (blanks left) (end-drop s rest (letters rest) c.loop-i.invariant.0)),
      c.loop-i.invariant.1 ∙ ap (λ (m : ℕ). word_from m rest) one ∙ ap (word_from (k - (i + 1))) behind,
    )
