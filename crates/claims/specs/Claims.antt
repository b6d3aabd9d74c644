-- The claims, to be read first: what RULES 11 demands of the card, the terminal's end and the stored record, as one statement, in the order of the
-- three demands. Each field names a statement of this crate, in the file of its name, or of crate `laws_exchange`; those cite nothing but
-- definitions and contracts, and the code's contracts cite the same definitions. The proof is `claims` of proofs/Claims.
use Rattle.laws_exchange.specs.Exchange.{Together}
use Rattle.claims.specs.Refusals.{Refusals}
use Rattle.claims.specs.WalkReads.{WalkReads}
use Rattle.claims.specs.Ciphers.{Ciphers}
use Rattle.claims.specs.Templates.{Templates}
use Rattle.claims.specs.Trips.{Trips}
use Rattle.claims.specs.TapReads.{TapReads}
use Rattle.claims.specs.Verified.{Verified}
use Rattle.claims.specs.Export.{Export}
use Rattle.claims.specs.TapRecord.{TapRecord}
use Rattle.claims.specs.Slots.{Slots}
use Rattle.claims.specs.Hashing.{Hashing}
use Rattle.claims.specs.Faults.{Faults}
use Rattle.claims.specs.Phrases.{Phrases}
use Rattle.claims.specs.Mnemonic.{Mnemonic}
use Rattle.claims.specs.Rows.{Rows}
use Rattle.claims.specs.RowsMet.{RowsMet}
use Rattle.claims.specs.WrongEngines.{WrongEngines}
use Rattle.claims.specs.Secrecy.{Secrecy}

pub record Claims : Type 0 where
  -- demand 1 (RULES 11.1): refusals, exactly when, and what a refusal leaves
  pub refusals : Refusals
  -- WALK by what it reads (RULES 9.8): what it takes, and exactly when it refuses
  pub walkreads : WalkReads
  -- demand 2 (RULES 11.2): AES, CBC and padding; word numbers and entropy, which undo each other; lengths of fields and DER integers; round trips, agreement of ASK and ANSWER, soundness, RESET
  -- twice; terminal and card together
  pub ciphers : Ciphers
  pub phrases : Phrases
  pub templates : Templates
  pub trips : Trips
  pub together : Together
  -- the tap read (RULES 10.7)
  pub tapreads : TapReads
  -- verification ends with the channel (RULES 6.2)
  pub verified : Verified
  -- a private key goes out of EIP-1581's subtree alone (RULES 6.19)
  pub export : Export
  -- SET NDEF alone changes the tap record (RULES 6.20)
  pub taprecord : TapRecord
  -- there are eight pairing slots (RULES 2.2)
  pub slots : Slots
  -- what the card hashes (RULES 6.8, 6.14), and where LOAD's data are at fault (RULES 5.9)
  pub hashing : Hashing
  pub faults : Faults
  -- GENERATE MNEMONIC (RULES 6.22)
  pub mnemonic : Mnemonic
  -- the rows to settle and that what they suppose is met (RULES 11.4); and the wrong engines that the rules shut out (RULES 11.5)
  pub rows : Rows
  pub rowsmet : RowsMet
  pub wrongengines : WrongEngines
  -- demand 3 (RULES 11.3): the two runs
  pub secrecy : Secrecy
