-- Both checksums are read as numbers, and the definition compares their bits (`checked`).
-- Assumes nothing.
use mathlib.Core.Path.{ap, ap₂, sym, ◌∙◌}
use Prim.Native.Nat.{ℕ, ◌/◌, ◌%◌, ◌^◌}
use lib.Dec.{eqb}
use lib.ListN.{length}
use Rattle.sha_rules.specs.Hash.{sha256}
use Rattle.phrase_checks.proofs.Checks.{checked}
use Rattle.phrase_checks.proofs.is_checked.Goals as goal

pub returns : goal.returns
returns c = let words = c.args.words.now in
    let d = c.sha256-digest.result in
    ap₂ eqb
    (c.bits_at.ensures ∙ ap (λ (x : ℕ). x / 2 ^ 0 % 2 ^ (length words / 6)) c.low_bits_in-last.ensures.0)
    c.first_bits.ensures.0
    ∙ sym (checked words c.requires.counted d (c.sha256-digest.ensures ∙ ap sha256 c.requires.entropy_value) c.first_bits.ensures.1)
