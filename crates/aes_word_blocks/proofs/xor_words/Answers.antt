-- Four words, each exclusive-or the other's in its place.
-- Assumes nothing.
use Rattle.std.proofs.Common.{rules}
use mathlib.Core.Path.{refl, sym, ap₂, ◌∙◌}
use mathlib.Core.List.{List, ◌++◌}
use Prim.Native.Nat.{ℕ}
use lib.ListN.{get_or}
use Rattle.octets.specs.Bytes.{xor_bytes}
use Rattle.octets.proofs.Lists.{tabulated}
use Rattle.aes_words.specs.Words.{bytes_of}
use Rattle.aes_words.proofs.Words.{xor-word-bytes}
use Rattle.aes_word_blocks.proofs.xor_words.Goals as goal

pub returns : goal.returns
returns c = let a : List ℕ = c.args.a in
    let b : List ℕ = c.args.b in
    ap₂ (λ (p q : List ℕ). p ++ q) (xor-word-bytes (get_or a 0 0) (get_or b 0 0))
    (ap₂ (λ (p q : List ℕ). p ++ q) (xor-word-bytes (get_or a 1 0) (get_or b 1 0))
    (ap₂ (λ (p q : List ℕ). p ++ q) (xor-word-bytes (get_or a 2 0) (get_or b 2 0))
    (ap₂ (λ (p q : List ℕ). p ++ q) (xor-word-bytes (get_or a 3 0) (get_or b 3 0)) refl)))
    ∙ sym (ap₂ (λ (p q : List ℕ). xor_bytes (bytes_of p) (bytes_of q)) (tabulated 4 a (search rules)) (tabulated 4 b (search rules)))
