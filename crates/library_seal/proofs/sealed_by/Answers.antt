-- SEAL by value: the header's four bytes are read one by one.
-- Assumes nothing.
use Rattle.std.proofs.Common.{rules}
use lib.ListN.{length}
use Rattle.library_seal.proofs.Header.{seal-by}
use Rattle.library_seal.proofs.sealed_by.Goals as goal

pub returns : goal.returns
returns c = let a = c.args in
    seal-by a.s a.plain.now (length a.buf.now) a.header (search rules) c.seal.ensures
