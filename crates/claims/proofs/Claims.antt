-- The claims, proved.
-- Assumes nothing.
use Rattle.laws_exchange.proofs.Exchanges.{together}
use Rattle.claims.specs.Claims.{Claims}
use Rattle.claims.proofs.Refusals.{refusals}
use Rattle.claims.proofs.WalkReads.{walk-reads}
use Rattle.claims.proofs.Ciphers.{ciphers}
use Rattle.claims.proofs.Templates.{templates}
use Rattle.claims.proofs.Trips.{trips}
use Rattle.claims.proofs.TapReads.{tap-reads}
use Rattle.claims.proofs.Verified.{verified}
use Rattle.claims.proofs.Export.{export}
use Rattle.claims.proofs.TapRecord.{tap-record}
use Rattle.claims.proofs.Slots.{slots}
use Rattle.claims.proofs.Hashing.{hashing}
use Rattle.claims.proofs.Faults.{faults}
use Rattle.claims.proofs.Phrases.{phrases}
use Rattle.claims.proofs.Mnemonic.{mnemonic}
use Rattle.claims.proofs.Rows.{rows}
use Rattle.claims.proofs.RowsMet.{rows-met}
use Rattle.claims.proofs.WrongEngines.{wrong-engines}
use Rattle.claims.proofs.Secrecy.{secrecy}

pub claims : Claims
claims = record {
  refusals = refusals;
  walkreads = walk-reads;
  ciphers = ciphers;
  phrases = phrases;
  templates = templates;
  trips = trips;
  together = together;
  tapreads = tap-reads;
  verified = verified;
  export = export;
  taprecord = tap-record;
  slots = slots;
  hashing = hashing;
  faults = faults;
  mnemonic = mnemonic;
  rows = rows;
  rowsmet = rows-met;
  wrongengines = wrong-engines;
  secrecy = secrecy;
}
