-- EXPORT, claim by claim.
-- Assumes nothing.
use Rattle.claims.specs.Export.{Export}
use Rattle.claims.proofs.Elsewhere.{elsewhere}
use Rattle.claims.proofs.Exporting.{ended, there, node-reads, beside-public, beside-reads}

pub export : Export
export = record {
  elsewhere = λ c cmd s t room l m e not. elsewhere c cmd s t l m e not room;
  there = there;
  moves = ended;
  node = node-reads;
  besidepublic = beside-public;
  beside = beside-reads;
}
