-- The eighteen instructions, one row each (RULES 6.1): the byte, where the instruction is offered, the stage of
-- the channel that it needs, the P1 and P2 that it lists with the command that each names, and what it gives up.
use Rattle.std.specs.Prelude.{ℕ, Bool, true, not, cond, List, [], ◌∷◌, ltb, eqb}
use Rattle.std.proofs.Math.Option.{Option, none, some}
use Rattle.card.specs.State.{slot_count}
use Rattle.card.specs.Slots.{is_zero}
use Rattle.rules.specs.declared.Instruction.{Instruction}
use Rattle.rules.specs.declared.Instruction.TheVariants as ins
use Rattle.rules.specs.declared.Offer.{Offer}
use Rattle.rules.specs.declared.Offer.TheVariants as offer
use Rattle.rules.specs.declared.Loss.{Loss}
use Rattle.rules.specs.declared.Loss.TheVariants as loss
use Rattle.rules.specs.declared.StatusKind.TheVariants as status
use Rattle.rules.specs.declared.SecretKind.TheVariants as secret
use Rattle.rules.specs.declared.KeyForm.TheVariants as key
use Rattle.rules.specs.declared.ExportPath.TheVariants as export_path
use Rattle.rules.specs.declared.ExportPart.{ExportPart}
use Rattle.rules.specs.declared.ExportPart.TheVariants as export_part
use Rattle.rules.specs.declared.Phrase.{Phrase}
use Rattle.rules.specs.declared.Phrase.TheVariants as phrase
use Rattle.rules.specs.declared.Command.{Command}
use Rattle.rules.specs.declared.Command.TheVariants as command

-- ---- the P1 and P2 that an instruction lists (RULES 5.5, 6.1): the command that they name, if any
abbrev pub Listing : Type 0
Listing = ℕ → ℕ → Option Command

-- the command of a P1 in this list
abbrev pub at_p1 : List (ℕ × Command) → ℕ → Option Command
at_p1 [] p1 = none
at_p1 (x ∷ more) p1 = cond (eqb p1 x.0) (some x.1) (at_p1 more p1)

-- P1 is one of these, P2 is 00
abbrev pub one_of : List (ℕ × Command) → Listing
one_of choices p1 p2 = cond (is_zero p2) (at_p1 choices p1) none

-- P1 is this one alone
abbrev pub only : ℕ → Command → Listing
only n k = one_of ((n, k) ∷ [])

-- P1 is a slot's index, P2 is 00
abbrev pub slot : (ℕ → Command) → Listing
slot k p1 p2 = cond (is_zero p2) (cond (ltb p1 slot_count) (some (k p1)) none) none

-- P2 is 00 and P1 one of the first list, or P2 is 01 and P1 one of the second
abbrev pub one_of_each : List (ℕ × Command) → List (ℕ × Command) → Listing
one_of_each with00 with01 p1 p2 = cond (is_zero p2) (at_p1 with00 p1) (cond (eqb p2 0x01) (at_p1 with01 p1) none)

-- the three P1 of EXPORT, for what its P2 lets out
abbrev pub exports : ExportPart → List (ℕ × Command)
exports what =
    (0x00, command.Export export_path.Current what)
    ∷ (0x01, command.Export export_path.Given what)
    ∷ (0x02, command.Export export_path.MakeCurrent what)
    ∷ []

-- P1 of GENERATE MNEMONIC: the size of the phrase's checksum in bits, one for each 3 words
abbrev pub checksum_bits : Phrase → ℕ
checksum_bits phrase.Words12 = 4
checksum_bits phrase.Words15 = 5
checksum_bits phrase.Words18 = 6
checksum_bits phrase.Words21 = 7
checksum_bits phrase.Words24 = 8

abbrev pub of_phrase : Phrase → ℕ × Command
of_phrase x = (checksum_bits x, command.Mnemonic x)

-- ---- the rows (RULES 6.1). Stage 0 is said of SELECT, INIT, OPEN and PAIR, which are plain in every stage; MUTUAL goes in stage 1 or 2, the
-- others in stage 2
pub record Row : Type 0 where
  pub byte : ℕ
  pub offer : Offer
  pub stage : ℕ
  pub lists : Listing
  pub loss : Loss

abbrev pub row : ℕ → Offer → ℕ → Listing → Loss → Row
row b o n l x = record { byte = b; offer = o; stage = n; lists = l; loss = x }

-- over the channel, after INIT, with nothing to lose
abbrev pub sealed_row : ℕ → Listing → Row
sealed_row b l = row b offer.AfterInit 2 l loss.Nothing

abbrev pub row_of : Instruction → Row
row_of ins.Select = row 0xA4 offer.Always 0 (only 0x04 command.Select) loss.Nothing
row_of ins.Init = row 0xFE offer.BeforeInit 0 (only 0x00 command.Init) loss.Nothing
row_of ins.Open = row 0x10 offer.AfterInit 0 (slot command.Open) loss.Channel
row_of ins.Mutual = row 0x11 offer.AfterInit 1 (only 0x00 command.Mutual) loss.HalfOpen
row_of ins.Pair = row 0x12 offer.AfterInit 0 (one_of ((0x00, command.PairFirst) ∷ (0x01, command.PairFinal) ∷ [])) loss.Pending
row_of ins.Unpair = sealed_row 0x13 (slot command.Unpair)
row_of ins.Status = sealed_row 0xF2 (one_of ((0x00, command.Status status.Application) ∷ (0x01, command.Status status.Path) ∷ []))
row_of ins.Verify = sealed_row 0x20 (only 0x00 command.Verify)
row_of ins.Change =
    sealed_row 0x21
    (one_of ((0x00, command.Change secret.Pin) ∷ (0x01, command.Change secret.Puk) ∷ (0x02, command.Change secret.Pairing) ∷ []))
row_of ins.Unblock = sealed_row 0x22 (only 0x00 command.Unblock)
row_of ins.Load =
    sealed_row 0xD0 (one_of ((0x01, command.Load key.Keypair) ∷ (0x02, command.Load key.Extended) ∷ (0x03, command.Load key.Seed) ∷ []))
row_of ins.Derive = sealed_row 0xD1 (only 0x00 command.Derive)
row_of ins.Remove = sealed_row 0xD3 (only 0x00 command.Remove)
row_of ins.SetPinless = sealed_row 0xC1 (only 0x00 command.SetPinless)
row_of ins.Sign = sealed_row 0xC0 (only 0x00 command.Sign)
row_of ins.Export = sealed_row 0xC2 (one_of_each (exports export_part.PrivateAndPublic) (exports export_part.PublicOnly))
row_of ins.SetNdef = sealed_row 0xF3 (only 0x00 command.SetNdef)
row_of ins.Mnemonic =
    sealed_row 0xD2
    (one_of (of_phrase phrase.Words12 ∷ of_phrase phrase.Words15 ∷ of_phrase phrase.Words18 ∷ of_phrase phrase.Words21 ∷ of_phrase phrase.Words24 ∷ []))

-- those of class 80 (RULES 5.3): all but SELECT
abbrev pub class80 : List Instruction
class80 =
    ins.Init
    ∷ ins.Open
    ∷ ins.Mutual
    ∷ ins.Pair
    ∷ ins.Unpair
    ∷ ins.Status
    ∷ ins.Verify
    ∷ ins.Change
    ∷ ins.Unblock
    ∷ ins.Load
    ∷ ins.Derive
    ∷ ins.Remove
    ∷ ins.SetPinless
    ∷ ins.Sign
    ∷ ins.Export
    ∷ ins.SetNdef
    ∷ ins.Mnemonic
    ∷ []

-- ---- what a row says
-- whether a card has the instruction, by whether it is initialised (RULES 5.3)
abbrev pub offered : Offer → Bool → Bool
offered offer.Always initialised = true
offered offer.BeforeInit initialised = not initialised
offered offer.AfterInit initialised = initialised

-- whether the command and its answer are plain in every stage (RULES 5.4)
abbrev pub is_plain : Instruction → Bool
is_plain i = is_zero (row_of i).stage
