-- The entropy is put from the start, and one byte after it (`stream-starts`).
-- Assumes nothing.
use mathlib.Core.Path.{ap, ◌∙◌}
use mathlib.Core.List.{List, [], ◌∷◌, ◌++◌}
use Prim.Native.Nat.{ℕ}
use native.Mathlib.Omega.{arith}
use lib.ListN.{get_or, replicate}
use Rattle.phrase_numbers.proofs.Streams.{stream-starts}
use Rattle.phrase_numbers.proofs.joined.Goals as goal

pub returns : goal.returns
returns c = let e = c.args.entropy.now in
    stream-starts e (replicate 35 0) c.put.new.buf (get_or c.sha256-digest.result 0 0) (omega arith) c.put.ensures
    ∙ ap (λ (d : List ℕ). e ++ (get_or d 0 0 ∷ [])) c.sha256-digest.ensures
