-- The padding that was found and the test of what is before it decide as the definition does.
-- Assumes nothing.
use mathlib.Core.List.{List}
use Prim.Native.Nat.{ℕ}
use mathlib.Core.Path.{sym, ap, ◌∙◌}
use lib.Seq.{length-take-le}
use Rattle.aes_padding.specs.Padding.{unpad}
use Rattle.command_init.specs.Content.{right}
use Rattle.command_init.proofs.InitFacts.{data-within, kept, left-out}
use Rattle.command_init.proofs.decipher.Goals as goal

pub slice_bounds-is_content-end : goal.slice_bounds-is_content-end
slice_bounds-is_content-end c = let p = c.cbc_decrypt.new.buf in
    sym (length-take-le c.in_ok-n.n p (data-within p c.in_ok-n.n c.in_ok-n.ensures))

pub slice_bounds-bytes-end : goal.slice_bounds-bytes-end
slice_bounds-bytes-end c = data-within c.cbc_decrypt.new.buf c.in_ok-n.n c.in_ok-n.ensures

pub returns-then-is_content : goal.returns-then-is_content
returns-then-is_content c =
    kept c.cbc_decrypt.new.buf c.in_ok-n.n c.in_ok-n.ensures (sym c.if-is_content.ensures) c.part.ensures
    ∙ ap (λ (x : List ℕ). right (unpad x)) c.cbc_decrypt.ensures

pub returns-else-is_content : goal.returns-else-is_content
returns-else-is_content c =
    left-out c.cbc_decrypt.new.buf c.in_ok-n.n c.in_ok-n.ensures (sym c.if-is_content.ensures)
    ∙ ap (λ (x : List ℕ). right (unpad x)) c.cbc_decrypt.ensures
