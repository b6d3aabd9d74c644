-- Each command with its own reply, by what is known of its checks and its supply.
-- Assumes nothing.
use Rattle.command_parts.proofs.ReplyFacts.{silent}
use Rattle.command_load.proofs.Responses.{remove-response}
use Rattle.command_paths.proofs.Responses.{derive-response, pinless-response}
use Rattle.command_ndef.proofs.Responses.{ndef-response}
use Rattle.command_verify.proofs.Laws.{verify-empty}
use Rattle.command_change.proofs.Laws.{change-empty}
use Rattle.command_unblock.proofs.Laws.{unblock-empty}
use Rattle.command_unpair.proofs.Laws.{unpair-empty}
use Rattle.command_init.proofs.Laws.{init-empty}
use Rattle.command_pair.proofs.Laws.{first-data}
use Rattle.rules.specs.Commands.{rule_of}
use Rattle.command_table.proofs.Facts.{checked, suited}
use Rattle.command_table.proofs.act.Goals as goal

pub select-requires : goal.select-requires
unfolding rule_of
select-requires c =
    c.requires.paths_fit.1

pub init-requires : goal.init-requires
unfolding rule_of
init-requires c =
    (checked _ _ c.in-Init.is _ _ c.requires.hold.0, suited _ _ c.in-Init.is _ c.requires.hold.1)

pub open-requires : goal.open-requires
unfolding rule_of
open-requires c =
    (suited _ _ c.in-Open.is _ c.requires.hold.1, c.requires.paths_fit.1)

pub mutual-requires : goal.mutual-requires
unfolding rule_of
mutual-requires c =
    (suited _ _ c.in-Mutual.is _ c.requires.hold.1, c.requires.paths_fit.1)

pub pair_first-requires : goal.pair_first-requires
unfolding rule_of
pair_first-requires c = let k = c.in-PairFirst.is in
    record { data_len = first-data _ _ _ (checked _ _ k _ _ c.requires.hold.0); supply_value = (suited _ _ k _ c.requires.hold.1, c.requires.paths_fit.1) }

pub pair_final-requires : goal.pair_final-requires
unfolding rule_of
pair_final-requires c =
    (suited _ _ c.in-PairFinal.is _ c.requires.hold.1, c.requires.paths_fit.1)

pub status-requires : goal.status-requires
unfolding rule_of
status-requires c =
    (c.requires.paths_fit.1, c.requires.paths_fit.0.0)

pub verify-requires : goal.verify-requires
unfolding rule_of
verify-requires c =
    checked _ _ c.in-Verify.is _ _ c.requires.hold.0

pub change-requires : goal.change-requires
unfolding rule_of
change-requires c =
    checked _ _ c.in-Change.is _ _ c.requires.hold.0

pub unblock-requires : goal.unblock-requires
unfolding rule_of
unblock-requires c =
    checked _ _ c.in-Unblock.is _ _ c.requires.hold.0

pub load-requires : goal.load-requires
unfolding rule_of
load-requires c =
    (suited _ _ c.in-Load.is _ c.requires.hold.1, c.requires.paths_fit.1)

pub derive-requires : goal.derive-requires
unfolding rule_of
derive-requires c =
    (checked _ _ c.in-Derive.is _ _ c.requires.hold.0, suited _ _ c.in-Derive.is _ c.requires.hold.1)

pub pinless-requires : goal.pinless-requires
unfolding rule_of
pinless-requires c =
    checked _ _ c.in-SetPinless.is _ _ c.requires.hold.0

pub sign-requires : goal.sign-requires
unfolding rule_of
sign-requires c =
    (suited _ _ c.in-Sign.is _ c.requires.hold.1, c.requires.paths_fit.1)

pub export-requires : goal.export-requires
unfolding rule_of
export-requires c = let k = c.in-Export.is in
    record { hold = (checked _ _ k _ _ c.requires.hold.0, suited _ _ k _ c.requires.hold.1); in_bounds = c.requires.paths_fit.1 }

pub ndef-requires : goal.ndef-requires
unfolding rule_of
ndef-requires c =
    checked _ _ c.in-SetNdef.is _ _ c.requires.hold.0

pub mnemonic-requires : goal.mnemonic-requires
unfolding rule_of
mnemonic-requires c =
    (suited _ _ c.in-Mnemonic.is _ c.requires.hold.1, c.requires.paths_fit.1)

pub returns-in-Select : goal.returns-in-Select
unfolding rule_of
returns-in-Select c =
    rw c.in-Select.is c.select.ensures

pub returns-in-Init : goal.returns-in-Init
unfolding rule_of
returns-in-Init c = rw c.in-Init.is (silent _ (init-empty _ _ _) c.init.ensures)

pub returns-in-Open : goal.returns-in-Open
unfolding rule_of
returns-in-Open c =
    rw c.in-Open.is c.open.ensures

pub returns-in-Mutual : goal.returns-in-Mutual
unfolding rule_of
returns-in-Mutual c =
    rw c.in-Mutual.is c.mutual.ensures

pub returns-in-PairFirst : goal.returns-in-PairFirst
unfolding rule_of
returns-in-PairFirst c =
    rw c.in-PairFirst.is c.pair_first.ensures

pub returns-in-PairFinal : goal.returns-in-PairFinal
unfolding rule_of
returns-in-PairFinal c =
    rw c.in-PairFinal.is c.pair_final.ensures

pub returns-in-Unpair : goal.returns-in-Unpair
unfolding rule_of
returns-in-Unpair c = rw c.in-Unpair.is (silent _ (unpair-empty _ _) c.unpair.ensures)

pub returns-in-Status : goal.returns-in-Status
unfolding rule_of
returns-in-Status c =
    rw c.in-Status.is c.status.ensures

pub returns-in-Verify : goal.returns-in-Verify
unfolding rule_of
returns-in-Verify c = rw c.in-Verify.is (silent _ (verify-empty _ _) c.verify.ensures)

pub returns-in-Change : goal.returns-in-Change
unfolding rule_of
returns-in-Change c = rw c.in-Change.is (silent _ (change-empty _ _ _) c.change.ensures)

pub returns-in-Unblock : goal.returns-in-Unblock
unfolding rule_of
returns-in-Unblock c = rw c.in-Unblock.is (silent _ (unblock-empty _ _ _) c.unblock.ensures)

pub returns-in-Load : goal.returns-in-Load
unfolding rule_of
returns-in-Load c =
    rw c.in-Load.is c.load.ensures

pub returns-in-Derive : goal.returns-in-Derive
unfolding rule_of
returns-in-Derive c = rw c.in-Derive.is (silent _ (derive-response _ _ _) c.derive.ensures)

pub returns-in-Remove : goal.returns-in-Remove
unfolding rule_of
returns-in-Remove c = rw c.in-Remove.is (silent _ (remove-response _) c.remove.ensures)

pub returns-in-SetPinless : goal.returns-in-SetPinless
unfolding rule_of
returns-in-SetPinless c = rw c.in-SetPinless.is (silent _ (pinless-response _ _) c.pinless.ensures)

pub returns-in-Sign : goal.returns-in-Sign
unfolding rule_of
returns-in-Sign c =
    rw c.in-Sign.is c.sign.ensures

pub returns-in-Export : goal.returns-in-Export
unfolding rule_of
returns-in-Export c =
    rw c.in-Export.is c.export.ensures

pub returns-in-SetNdef : goal.returns-in-SetNdef
unfolding rule_of
returns-in-SetNdef c = rw c.in-SetNdef.is (silent _ (ndef-response _ _) c.ndef.ensures)

pub returns-in-Mnemonic : goal.returns-in-Mnemonic
unfolding rule_of
returns-in-Mnemonic c =
    rw c.in-Mnemonic.is c.mnemonic.ensures
