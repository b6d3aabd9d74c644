-- The word turned by a byte, written out.
-- Assumes nothing.
use Rattle.std.proofs.Common.{rules}
use mathlib.Core.Path.{sym, ap}
use mathlib.Core.List.{List, ◌++◌}
use Prim.Native.Nat.{ℕ}
use lib.ListN.{drop, take}
use Rattle.octets.proofs.Lists.{tabulated}
use Rattle.aes_rules.specs.Schedule.{rot_word}
use Rattle.aes_keys.proofs.rot_word.Goals as goal

pub returns : goal.returns
unfolding rot_word
returns c = sym (ap (λ (t : List ℕ). drop 1 t ++ take 1 t) (tabulated 4 c.args.t (search rules)))
