-- A command that the terminal sealed for a card in stage 2 gets past step 5 with its data, and VERIFY and UNBLOCK then compare. The field
-- opens by the law of sealed messages; nothing of AES is computed.
-- Assumes nothing.
use Rattle.std.specs.Prelude.{Ok}
use mathlib.Core.Path.{◌≡◌, refl, ap, ◌∙◌}
use mathlib.Core.Bool.{Bool, true, false, ◌&&◌, not, cond}
use mathlib.Core.List.{List, [], ◌∷◌}
use mathlib.Core.Option.{some}
use Prim.Native.Nat.{ℕ, ◌+◌, ◌≤◌, ◌<◌}
use native.Mathlib.Omega.{arith}
use borrow.Author.Tests.{le-ltb, lt-leb, eq-eqb, ne_eqb}
use lib.Dec.{eqb}
use lib.ListN.{length, take}
use lib.Seq.{take-length}
use Rattle.octets.specs.Bytes.{Bytes}
use Rattle.refusals.specs.Refusals.{answer_room}
use Rattle.channel_rules.specs.declared.Session.{Session}
use Rattle.channel_rules.specs.Message.{Keyed, lc, command_head, ciphertext, seal_field}
use Rattle.channel_rules.specs.Terminal.{sealed_command}
use Rattle.channel_rules.proofs.Trips.{Header, lc-counts, command-opens}
use Rattle.card.specs.declared.Pins.{Pins}
use Rattle.card.specs.declared.Card.{Card}
use Rattle.card.specs.State.{closed, forgotten}
use Rattle.card.specs.Slots.{is_zero}
use Rattle.card.specs.Sound.{is_sound}
use Rattle.rules.specs.declared.Instruction.{Instruction}
use Rattle.rules.specs.declared.Instruction.TheVariants as ins
use Rattle.rules.specs.declared.Command.{Command}
use Rattle.rules.specs.declared.Command.TheVariants as command
use Rattle.rules.specs.Rules.{Secret, pin, puk, right_by}
use Rattle.rules.specs.Rows.{row_of, is_plain}
use Rattle.rules.specs.Commands.{is_unblocking}
use Rattle.rules.specs.Channel.{session_of, with_mac}
use Rattle.rules.specs.Steps.{goes, begins, forgetting, step1, data_of, cla_of, ins_of, p1_of, p2_of, is_initialised, name_of, in_stage, opened_by, step4, step5, past_step1, arrival}
use Rattle.rules.specs.Comparison.{Comparison, comparison}
use Rattle.laws_commands.proofs.Arrival.{arrived_at}
use Rattle.laws_two_runs.specs.Comparisons.{pin_comparison, puk_comparison}
use Rattle.laws_two_runs.specs.Runs.{answer, comparison_at}
use Rattle.laws_two_runs.proofs.Comparisons.{comparisons}
use Rattle.laws_two_runs.proofs.Compared.{one_at}

-- ---- a command whose data fill it: Lc and then as many bytes
pub data-filled : (a b p1 p2 : ℕ) (f : List ℕ) → 1 ≤ length f → data_of (a ∷ b ∷ p1 ∷ p2 ∷ length f ∷ f) ≡ some f
unfolding data_of
data-filled a b p1 p2 f h =
    rw (
      le-ltb (length (a ∷ b ∷ p1 ∷ p2 ∷ length f ∷ f)) 4 (omega arith),
      lt-leb (length (a ∷ b ∷ p1 ∷ p2 ∷ length f ∷ f)) 5 (omega arith),
      ne_eqb (length f) 0 (λ e. omega arith),
      eq-eqb (length (a ∷ b ∷ p1 ∷ p2 ∷ length f ∷ f)) (5 + length f) (omega arith),
      take-length f,
    )

-- ---- steps 1 to 5 on a command that opens to d, in a stage that it goes in, where step 1 leaves the card x
pub sealed-arrives : (c x : Card) (cmd field d : List ℕ) (i : Instruction) (k : Command) → step1 cmd c ≡ x → data_of cmd ≡ some field
    → name_of (is_initialised x) (cla_of cmd) (ins_of cmd) ≡ Ok i → is_plain i ≡ false → in_stage i x.channel.stage ≡ true
    → opened_by x cmd field ≡ some d → (row_of i).lists (p1_of cmd) (p2_of cmd) ≡ some k
    → arrival c cmd ≡ goes (arrived_at i cmd (record { card = with_mac x (take 16 field); data' = d }) k)
unfolding arrival past_step1 step4 step5
sealed-arrives c x cmd field d i k a f n p t o l = ap (past_step1 cmd) a ∙ rw (f, n, p, t, o, l)

-- in stage 2 step 1 forgets a pending pairing at most
pub step1-stage2 : (c : Card) (cmd : List ℕ) → c.channel.stage ≡ 2 → step1 cmd c ≡ forgetting cmd c
unfolding step1
step1-stage2 c cmd e =
    ap (λ (b : Bool). forgetting cmd (cond b (closed c) c)) (ap (λ (n : ℕ). eqb n 1 && not (begins 0x11 cmd)) e)

-- a comparison of this secret with these data, by the card's PIN and PUK
abbrev pub made : Secret → Pins → List ℕ → Comparison
made s p d = record { of = s; right = right_by s p d }

-- ---- a card in stage 2
pub record InStage2 (c : Card) : Type 0 where
  pub sound : is_sound c ≡ true
  pub initialised : c.initialised ≡ 1
  pub stage : c.channel.stage ≡ 2
  pub keyed : Keyed (session_of c.channel)

-- the command 80 b 00 00 with this data, sealed under the card's session
abbrev pub header_with : ℕ → List ℕ
header_with b = 0x80 ∷ b ∷ 0 ∷ 0 ∷ []

abbrev pub sealed_for : Card → ℕ → List ℕ → List ℕ
sealed_for c b d = sealed_command (session_of c.channel) (header_with b) d

-- the instruction byte b names a command that is sealed in stage 2 and lists P1 00
record Names (b : ℕ) (i : Instruction) (k : Command) : Type 0 where
  pub byte : b < 256
  pub name : name_of true 0x80 b ≡ Ok i
  pub plain : is_plain i ≡ false
  pub staged : in_stage i 2 ≡ true
  pub listed : (row_of i).lists 0 0 ≡ some k
  pub forgets : (c : Card) → forgetting (header_with b) c ≡ forgotten c

verify-named : Names 0x20 ins.Verify command.Verify
unfolding name_of
verify-named = record { byte = omega arith; name = refl; plain = refl; staged = refl; listed = refl; forgets = λ c. refl }

unblock-named : Names 0x22 ins.Unblock command.Unblock
unfolding name_of
unblock-named = record { byte = omega arith; name = refl; plain = refl; staged = refl; listed = refl; forgets = λ c. refl }

pub header_is : (b p1 : ℕ) → b < 256 → p1 < 256 → Header (0x80 ∷ b ∷ p1 ∷ 0 ∷ [])
header_is b p1 l m = record { long = refl; bytes = (omega arith, (l, (m, (omega arith, tt)))) }

-- the data of a sealed command are its field
pub sealed-data : (s : Session) → Keyed s → (b p1 : ℕ) → b < 256 → p1 < 256 → (d : List ℕ) → Bytes d → length d ≤ 223
    → data_of (sealed_command s (0x80 ∷ b ∷ p1 ∷ 0 ∷ []) d) ≡ some (seal_field s (command_head (0x80 ∷ b ∷ p1 ∷ 0 ∷ [])) d)
sealed-data s k b p1 l m d bytes fits =
    ap (λ (n : ℕ). data_of (0x80 ∷ b ∷ p1 ∷ 0 ∷ n ∷ field)) counts ∙ data-filled 0x80 b p1 0 field (omega (arith, counts))
  where
    field : List ℕ
    field = seal_field s (command_head (0x80 ∷ b ∷ p1 ∷ 0 ∷ [])) d

    counts : lc (length (ciphertext s d)) ≡ length field
    counts = lc-counts s k (0x80 ∷ b ∷ p1 ∷ 0 ∷ []) d (header_is b p1 l m) bytes fits

module _ (c : Card) (in2 : InStage2 c) (d : List ℕ) (bytes : Bytes d) (fits : length d ≤ 223) where
  abbrev s : Session
  s = session_of c.channel

  module _ (b : ℕ) (i : Instruction) (k : Command) (names : Names b i k) where
    abbrev field : List ℕ
    field = seal_field s (command_head (header_with b)) d

    sealed-form : data_of (sealed_for c b d) ≡ some field
    sealed-form = sealed-data s in2.keyed b 0 names.byte (omega arith) d bytes fits

    sealed-at : arrival c (sealed_for c b d)
        ≡ goes (arrived_at i (sealed_for c b d) (record { card = with_mac (forgotten c) (take 16 field); data' = d }) k)
    sealed-at =
        sealed-arrives c (forgotten c) (sealed_for c b d) field d i k (step1-stage2 c (sealed_for c b d) in2.stage ∙ names.forgets c) sealed-form
        (ap (λ (n : ℕ). name_of (not (is_zero n)) 0x80 b) in2.initialised ∙ names.name)
        names.plain
        (ap (λ (n : ℕ). in_stage i n) in2.stage ∙ names.staged)
        (command-opens s in2.keyed (header_with b) d (header_is b 0 names.byte (omega arith)) bytes fits)
        names.listed

  -- ---- VERIFY compares its data with the card's PIN where tries are left
  pub verify-form : data_of (sealed_for c 0x20 d) ≡ some (seal_field s (command_head (header_with 0x20)) d)
  verify-form = sealed-form 0x20 ins.Verify command.Verify verify-named

  pub verify-compares : is_zero c.pins.pin_tries ≡ false → comparison c (sealed_for c 0x20 d) ≡ some (made pin c.pins d)
  unfolding pin_comparison
  verify-compares z = (comparisons c (sealed_for c 0x20 d)).verify _ (sealed-at 0x20 ins.Verify command.Verify verify-named) refl ∙ rw z

  -- UNBLOCK compares its first 12 bytes with the card's PUK where no PIN tries are left, PUK tries are, and the form is right
  pub unblock-compares : is_zero c.pins.pin_tries ≡ true → is_zero c.pins.puk_tries ≡ false → is_unblocking d ≡ true
      → comparison c (sealed_for c 0x22 d) ≡ some (made puk c.pins d)
  unfolding puk_comparison
  unblock-compares z y f =
      (comparisons c (sealed_for c 0x22 d)).unblock _ (sealed-at 0x22 ins.Unblock command.Unblock unblock-named) refl ∙ rw (z, y, f)

  module _ (supply buf : List ℕ) (room : answer_room ≤ length buf) where
    pub verify-at : is_zero c.pins.pin_tries ≡ false
        → comparison_at c (answer (sealed_for c 0x20 d) supply buf) ≡ some (made pin c.pins d)
    verify-at z = one_at c (sealed_for c 0x20 d) supply buf (made pin c.pins d) in2.sound room (verify-compares z)

    pub unblock-at : is_zero c.pins.pin_tries ≡ true → is_zero c.pins.puk_tries ≡ false → is_unblocking d ≡ true
        → comparison_at c (answer (sealed_for c 0x22 d) supply buf) ≡ some (made puk c.pins d)
    unblock-at z y f = one_at c (sealed_for c 0x22 d) supply buf (made puk c.pins d) in2.sound room (unblock-compares z y f)
