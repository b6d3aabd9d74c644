-- Each command with its own checks and supply.
-- Assumes nothing.
use Rattle.rules.specs.Commands.{rule_of}
use Rattle.command_table.proofs.judge.Goals as goal

pub returns-in-Select : goal.returns-in-Select
unfolding rule_of
returns-in-Select c = rw (c.in-Select.is, c.select_verdict.ensures)

pub returns-in-Init : goal.returns-in-Init
unfolding rule_of
returns-in-Init c = rw (c.in-Init.is, c.init_verdict.ensures)

pub returns-in-Open : goal.returns-in-Open
unfolding rule_of
returns-in-Open c = rw (c.in-Open.is, c.open_verdict.ensures)

pub returns-in-Mutual : goal.returns-in-Mutual
unfolding rule_of
returns-in-Mutual c = rw (c.in-Mutual.is, c.mutual_verdict.ensures)

pub returns-in-PairFirst : goal.returns-in-PairFirst
unfolding rule_of
returns-in-PairFirst c = rw (c.in-PairFirst.is, c.pair_first_verdict.ensures)

pub returns-in-PairFinal : goal.returns-in-PairFinal
unfolding rule_of
returns-in-PairFinal c = rw (c.in-PairFinal.is, c.pair_final_verdict.ensures)

pub returns-in-Unpair : goal.returns-in-Unpair
unfolding rule_of
returns-in-Unpair c = rw (c.in-Unpair.is, c.unpair_verdict.ensures)

pub returns-in-Status : goal.returns-in-Status
unfolding rule_of
returns-in-Status c = rw (c.in-Status.is, c.status_verdict.ensures)

pub returns-in-Verify : goal.returns-in-Verify
unfolding rule_of
returns-in-Verify c = rw (c.in-Verify.is, c.verify_verdict.ensures)

pub returns-in-Change : goal.returns-in-Change
unfolding rule_of
returns-in-Change c = rw (c.in-Change.is, c.change_verdict.ensures)

pub returns-in-Unblock : goal.returns-in-Unblock
unfolding rule_of
returns-in-Unblock c = rw (c.in-Unblock.is, c.unblock_verdict.ensures)

pub returns-in-Load : goal.returns-in-Load
unfolding rule_of
returns-in-Load c = rw (c.in-Load.is, c.load_verdict.ensures)

pub returns-in-Derive : goal.returns-in-Derive
unfolding rule_of
returns-in-Derive c = rw (c.in-Derive.is, c.derive_verdict.ensures)

pub returns-in-Remove : goal.returns-in-Remove
unfolding rule_of
returns-in-Remove c = rw (c.in-Remove.is, c.remove_verdict.ensures)

pub returns-in-SetPinless : goal.returns-in-SetPinless
unfolding rule_of
returns-in-SetPinless c = rw (c.in-SetPinless.is, c.pinless_verdict.ensures)

pub returns-in-Sign : goal.returns-in-Sign
unfolding rule_of
returns-in-Sign c = rw (c.in-Sign.is, c.sign_verdict.ensures)

pub returns-in-Export : goal.returns-in-Export
unfolding rule_of
returns-in-Export c = rw (c.in-Export.is, c.export_verdict.ensures)

pub returns-in-SetNdef : goal.returns-in-SetNdef
unfolding rule_of
returns-in-SetNdef c = rw (c.in-SetNdef.is, c.ndef_verdict.ensures)

pub returns-in-Mnemonic : goal.returns-in-Mnemonic
unfolding rule_of
returns-in-Mnemonic c = rw (c.in-Mnemonic.is, c.mnemonic_verdict.ensures)
