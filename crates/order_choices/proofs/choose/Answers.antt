-- Each instruction with its own list of P1 and P2.
-- Assumes nothing.

use Rattle.order_choices.proofs.choose.Goals as goal

pub returns-in-Select : goal.returns-in-Select
returns-in-Select c = rw (c.in-Select.is, c.only.ensures)

pub returns-in-Init : goal.returns-in-Init
returns-in-Init c = rw (c.in-Init.is, c.only-in-Init.ensures)

pub returns-in-Open : goal.returns-in-Open
returns-in-Open c = rw (c.in-Open.is, c.open.ensures)

pub returns-in-Mutual : goal.returns-in-Mutual
returns-in-Mutual c = rw (c.in-Mutual.is, c.only-in-Mutual.ensures)

pub returns-in-Pair : goal.returns-in-Pair
returns-in-Pair c = rw (c.in-Pair.is, c.pair.ensures)

pub returns-in-Unpair : goal.returns-in-Unpair
returns-in-Unpair c = rw (c.in-Unpair.is, c.unpair.ensures)

pub returns-in-Status : goal.returns-in-Status
returns-in-Status c = rw (c.in-Status.is, c.status.ensures)

pub returns-in-Verify : goal.returns-in-Verify
returns-in-Verify c = rw (c.in-Verify.is, c.only-in-Verify.ensures)

pub returns-in-Change : goal.returns-in-Change
returns-in-Change c = rw (c.in-Change.is, c.change.ensures)

pub returns-in-Unblock : goal.returns-in-Unblock
returns-in-Unblock c = rw (c.in-Unblock.is, c.only-in-Unblock.ensures)

pub returns-in-Load : goal.returns-in-Load
returns-in-Load c = rw (c.in-Load.is, c.load.ensures)

pub returns-in-Derive : goal.returns-in-Derive
returns-in-Derive c = rw (c.in-Derive.is, c.only-in-Derive.ensures)

pub returns-in-Remove : goal.returns-in-Remove
returns-in-Remove c = rw (c.in-Remove.is, c.only-in-Remove.ensures)

pub returns-in-SetPinless : goal.returns-in-SetPinless
returns-in-SetPinless c = rw (c.in-SetPinless.is, c.only-in-SetPinless.ensures)

pub returns-in-Sign : goal.returns-in-Sign
returns-in-Sign c = rw (c.in-Sign.is, c.only-in-Sign.ensures)

pub returns-in-Export : goal.returns-in-Export
returns-in-Export c = rw (c.in-Export.is, c.export.ensures)

pub returns-in-SetNdef : goal.returns-in-SetNdef
returns-in-SetNdef c = rw (c.in-SetNdef.is, c.only-in-SetNdef.ensures)

pub returns-in-Mnemonic : goal.returns-in-Mnemonic
returns-in-Mnemonic c = rw (c.in-Mnemonic.is, c.mnemonic.ensures)
