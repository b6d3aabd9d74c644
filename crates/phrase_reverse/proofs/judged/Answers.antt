-- The two checks in their order (`in_order`).
-- Assumes nothing.
use mathlib.Core.Path.{ap, ap₂, ◌∙◌}
use mathlib.Core.Bool.{Bool, cond}
use Prim.Native.Nat.{ℕ}
use lib.Dec.{eqb}
use Rattle.refusals.specs.Refusals.{no_refusal, number_too_large, wrong_checksum}
use Rattle.phrase_rules.specs.Reverse.{from_two_bytes, in_eleven_bits, is_checked, must}
use Rattle.phrase_reverse.proofs.Answers.{in_order}
use Rattle.phrase_reverse.proofs.judged.Goals as goal

pub returns : goal.returns
returns c = let words = c.args.words.now in
    c.first_of.ensures
    ∙ ap₂ (λ (x y : ℕ). cond (eqb x no_refusal) y x)
    (c.refusal_unless-number.ensures ∙ ap (λ (h : Bool). must h number_too_large no_refusal) c.in_eleven_bits.ensures)
    (c.refusal_unless-checksum.ensures ∙ ap (λ (h : Bool). must h wrong_checksum no_refusal) c.is_checked.ensures)
    ∙ in_order (in_eleven_bits (from_two_bytes words)) (is_checked words)
