-- The message is filled whole: the secret, then the 32 bytes after it.
-- Assumes nothing.
use Rattle.std.proofs.Common.{rules}
use mathlib.Core.Path.{◌≡◌, ap, ◌∙◌}
use native.Mathlib.Omega.{arith}
use lib.ListN.{length, replicate, length-append}
use Rattle.sha_rules.specs.Hash.{sha256}
use Rattle.command_pair_first.proofs.ReplyFacts.{wrote-whole}
use Rattle.command_pair_first.proofs.with_secret.Goals as goal

pub returns : goal.returns
returns c = let g = c.args in
    let ls : length g.secret ≡ 32 = search rules in
    let lx : length g.x ≡ 32 = search rules in
    c.sha256.ensures ∙ ap sha256 (wrote-whole {a = replicate 64 0} (omega (arith, length-append g.secret g.x)) c.put_both.ensures)
