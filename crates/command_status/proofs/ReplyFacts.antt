-- A path's bytes in use, as they were written into the buffer.
-- Assumes nothing.
use mathlib.Core.Path.{◌≡◌, sym, ap, ◌∙◌}
use mathlib.Core.List.{List}
use Prim.Native.Nat.{ℕ, ◌≤◌}
use native.Mathlib.Nat.{zero-add}
use lib.ListN.{length, take}
use lib.Seq.{length-take-le}
use Rattle.octets.specs.Bytes.{overwrite}
use Rattle.template_rules.specs.Writing.{Wrote}
use Rattle.card.specs.declared.Path.{Path}
use Rattle.card.specs.State.{path_bytes}

-- ---- Wrote: a path
pub path-wrote : (p : Path) (n : ℕ) (a b : List ℕ) → n ≡ p.len → n ≤ length p.bytes → n ≤ length a
    → b ≡ overwrite a 0 (take n p.bytes) → Wrote (path_bytes p) 0 n a b
path-wrote p n a b e h l w = record {
  place = sym (length-take-le n p.bytes h) ∙ ap (λ (k : ℕ). length (take k p.bytes)) e ∙ sym (zero-add (length (path_bytes p)));
  fits = l;
  buffer = w ∙ ap (λ (k : ℕ). overwrite a 0 (take k p.bytes)) e;
}
