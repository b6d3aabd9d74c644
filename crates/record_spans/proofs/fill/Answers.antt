-- What there is is copied, and the rest is zero: these are the parts of `fit`.
-- Assumes nothing.
use Rattle.std.proofs.Common.{arith, ◌≡◌, refl, ap, ◌∙◌, length, ℕ, List, take, drop, replicate, ◌++◌, ◌-◌, length-append}
use lib.ListN.{length-drop}
use lib.Seq.{length-take-le}
use Rattle.record_spans.proofs.PlaceFacts.{filled_parts}
use Rattle.record_spans.proofs.fill.Goals as goal

pub returns : goal.returns
returns c =
    let dst : List ℕ = c.args.dst.now in
    let src : List ℕ = c.args.src.now in
    let t : ℕ = c.min-taken.result in
    let a : List ℕ = c.copy_from_slice.new.self in
    let copied : a ≡ take t src = c.copy_from_slice.ensures.after in
    let long : length a ≡ t = ap length copied ∙ length-take-le t src (omega (arith, c.min-taken.ensures)) in
    let back : List ℕ = a ++ drop t dst in
    let whole : length back ≡ length dst = length-append a (drop t dst) ∙ omega (arith, length-drop t dst, c.min-taken.ensures) in
    let room : length (take (length back - t) (drop t back)) ≡ length dst - t =
    length-take-le (length back - t) (drop t back) (omega (arith, length-drop t back)) ∙ ap (λ (n : ℕ). n - t) whole in
    filled_parts (length dst) t _ dst src a c.fill.new.self refl c.min-taken.ensures copied
    (c.fill.ensures.after (λ y e. e) ∙ ap (λ (k : ℕ). replicate k 0) room) (omega (arith, whole))
