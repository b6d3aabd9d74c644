-- Each instruction's row, by the case of its name.
-- Assumes nothing.

use Rattle.order_rows.proofs.row_of.Goals as goal

pub returns-in-Select : goal.returns-in-Select
returns-in-Select c = rw c.in-Select.is c.entry.ensures

pub returns-in-Init : goal.returns-in-Init
returns-in-Init c = rw c.in-Init.is c.entry-in-Init.ensures

pub returns-in-Open : goal.returns-in-Open
returns-in-Open c = rw c.in-Open.is c.entry-in-Open.ensures

pub returns-in-Mutual : goal.returns-in-Mutual
returns-in-Mutual c = rw c.in-Mutual.is c.entry-in-Mutual.ensures

pub returns-in-Pair : goal.returns-in-Pair
returns-in-Pair c = rw c.in-Pair.is c.entry-in-Pair.ensures

pub returns-in-Unpair : goal.returns-in-Unpair
returns-in-Unpair c = rw c.in-Unpair.is c.entry-in-Unpair.ensures

pub returns-in-Status : goal.returns-in-Status
returns-in-Status c = rw c.in-Status.is c.entry-in-Status.ensures

pub returns-in-Verify : goal.returns-in-Verify
returns-in-Verify c = rw c.in-Verify.is c.entry-in-Verify.ensures

pub returns-in-Change : goal.returns-in-Change
returns-in-Change c = rw c.in-Change.is c.entry-in-Change.ensures

pub returns-in-Unblock : goal.returns-in-Unblock
returns-in-Unblock c = rw c.in-Unblock.is c.entry-in-Unblock.ensures

pub returns-in-Load : goal.returns-in-Load
returns-in-Load c = rw c.in-Load.is c.entry-in-Load.ensures

pub returns-in-Derive : goal.returns-in-Derive
returns-in-Derive c = rw c.in-Derive.is c.entry-in-Derive.ensures

pub returns-in-Remove : goal.returns-in-Remove
returns-in-Remove c = rw c.in-Remove.is c.entry-in-Remove.ensures

pub returns-in-SetPinless : goal.returns-in-SetPinless
returns-in-SetPinless c = rw c.in-SetPinless.is c.entry-in-SetPinless.ensures

pub returns-in-Sign : goal.returns-in-Sign
returns-in-Sign c = rw c.in-Sign.is c.entry-in-Sign.ensures

pub returns-in-Export : goal.returns-in-Export
returns-in-Export c = rw c.in-Export.is c.entry-in-Export.ensures

pub returns-in-SetNdef : goal.returns-in-SetNdef
returns-in-SetNdef c = rw c.in-SetNdef.is c.entry-in-SetNdef.ensures

pub returns-in-Mnemonic : goal.returns-in-Mnemonic
returns-in-Mnemonic c = rw c.in-Mnemonic.is c.entry-in-Mnemonic.ensures
