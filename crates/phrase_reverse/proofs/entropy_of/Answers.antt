-- The reverse: by cases on its checks, each from `Answers`.
-- Assumes nothing.
use mathlib.Core.Path.{sym, ap, ◌∙◌}
use native.Mathlib.Omega.{arith}
use lib.ListN.{length}
use Rattle.octets.specs.Bytes.{overwrite}
use Rattle.phrase_rules.proofs.Reverse.{count_of, length-entropy_in}
use Rattle.phrase_reverse.proofs.Answers.{reversed-room, reversed-count, reversed-words, reversed-entropy}
use Rattle.phrase_reverse.proofs.entropy_of.Goals as goal

pub returns-then-buf-lt-ENTROPY_ROOM_BYTES : goal.returns-then-buf-lt-ENTROPY_ROOM_BYTES
returns-then-buf-lt-ENTROPY_ROOM_BYTES c = rw c.refused.ensures (reversed-room c.args.words.now c.args.buf.now c.if-buf-lt-ENTROPY_ROOM_BYTES.true)

pub returns-then-not-is_word_count : goal.returns-then-not-is_word_count
returns-then-not-is_word_count c = rw c.refused-then-not-is_word_count.ensures (reversed-count c.args.words.now c.args.buf.now c.if-buf-lt-ENTROPY_ROOM_BYTES.false (sym c.is_word_count.ensures ∙ c.if-not-is_word_count.true))

pub entropy_in-entropy-requires : goal.entropy_in-entropy-requires
entropy_in-entropy-requires c = count_of c.args.words.now (sym c.is_word_count.ensures ∙ c.if-not-is_word_count.false)

pub slice_bounds-entropy-end : goal.slice_bounds-entropy-end
slice_bounds-entropy-end c = let counted = count_of c.args.words.now (sym c.is_word_count.ensures ∙ c.if-not-is_word_count.false) in
    omega arith

pub slice_bounds-judged-end : goal.slice_bounds-judged-end
slice_bounds-judged-end c = sym (ap length c.entropy_in-entropy.ensures ∙ length-entropy_in c.args.words.now)

pub judged-refusal-requires : goal.judged-refusal-requires
judged-refusal-requires c = record { counted = count_of c.args.words.now (sym c.is_word_count.ensures ∙ c.if-not-is_word_count.false); entropy_value = c.entropy_in-entropy.ensures }

pub returns-then-refusal-ne-REFUSAL_NONE : goal.returns-then-refusal-ne-REFUSAL_NONE
returns-then-refusal-ne-REFUSAL_NONE c = rw c.refused-then-refusal-ne-REFUSAL_NONE.ensures (reversed-words c.args.words.now c.args.buf.now c.if-buf-lt-ENTROPY_ROOM_BYTES.false c.judged-refusal.result (sym c.is_word_count.ensures ∙ c.if-not-is_word_count.false) c.judged-refusal.ensures c.if-refusal-ne-REFUSAL_NONE.true)

pub slice_bounds-entropy-end-2 : goal.slice_bounds-entropy-end-2
slice_bounds-entropy-end-2 c = let counted = count_of c.args.words.now (sym c.is_word_count.ensures ∙ c.if-not-is_word_count.false) in
    omega arith

pub slice_bounds-put-end : goal.slice_bounds-put-end
slice_bounds-put-end c = sym (ap length c.entropy_in-entropy.ensures ∙ length-entropy_in c.args.words.now)

pub put-requires : goal.put-requires
put-requires c = let counted = count_of c.args.words.now (sym c.is_word_count.ensures ∙ c.if-not-is_word_count.false) in
    omega (arith, ap length c.entropy_in-entropy.ensures ∙ length-entropy_in c.args.words.now)

pub returns : goal.returns
returns c = reversed-entropy c.args.words.now c.args.buf.now c.if-buf-lt-ENTROPY_ROOM_BYTES.false c.put.new.buf _
    (sym c.is_word_count.ensures ∙ c.if-not-is_word_count.false) (sym c.if-refusal-ne-REFUSAL_NONE.false ∙ c.judged-refusal.ensures)
    (sym (length-entropy_in c.args.words.now)) (c.put.ensures ∙ ap (overwrite c.args.buf.now 0) c.entropy_in-entropy.ensures)
