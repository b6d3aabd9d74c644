-- The bytes of the four words are the slice's bytes, in their order.
-- Assumes nothing.
use mathlib.Core.Path.{refl, sym, ap₂, ◌∙◌}
use mathlib.Core.List.{List, ◌++◌}
use Prim.Native.Nat.{ℕ}
use Rattle.octets.proofs.Lists.{tabulated}
use Rattle.aes_words.proofs.slice_words.Goals as goal

pub returns : goal.returns
returns c = ap₂ (λ (p q : List ℕ). p ++ q) c.word_of.ensures
    (ap₂ (λ (p q : List ℕ). p ++ q) c.word_of-2.ensures
    (ap₂ (λ (p q : List ℕ). p ++ q) c.word_of-3.ensures (ap₂ (λ (p q : List ℕ). p ++ q) c.word_of-4.ensures refl)))
    ∙ sym (tabulated 16 c.args.s.now c.requires)
