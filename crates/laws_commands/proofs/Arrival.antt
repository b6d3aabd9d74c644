-- Steps 1 to 5 by cases: where they stop and with what, and what they have established where a command comes to its own checks; and that a sealed
-- command which each of them passes comes there.
-- Assumes nothing.
use Rattle.std.specs.Prelude.{Err, Ok}
use mathlib.Core.Path.{◌≡◌, refl, sym, ap, ◌∙◌, subst}
use mathlib.Core.Bool.{Bool, true, false, ◌&&◌, not, false≢true}
use mathlib.Core.List.{List, [], ◌∷◌, ◌++◌}
use mathlib.Core.Option.{Option, none, some}
use Prim.Native.Nat.{ℕ, ◌+◌, ◌≤◌}
use native.Mathlib.Omega.{arith}
use lib.Dec.{eqb}
use lib.ListN.{length, take}
use lib.Seq.{take-length}
use borrow.Author.Tests.{le-ltb, lt-leb, eq-eqb, ne_eqb, eqb-true}
use Rattle.octets.specs.Bytes.{same_bytes}
use Rattle.template_rules.proofs.HeadFacts.{by-test}
use Rattle.card.specs.declared.Card.{Card}
use Rattle.card.specs.State.{closed}
use Rattle.card.proofs.Tests.{both}
use Rattle.rules.specs.declared.Instruction.{Instruction}
use Rattle.rules.specs.declared.Instruction.TheVariants as ins
use Rattle.rules.specs.Results.{Named}
use Rattle.rules.specs.declared.Unnamed.TheVariants as unnamed
use Rattle.rules.specs.declared.Command.{Command}
use Rattle.rules.specs.Words.{wrong_length, security_not_met, conditions_not_met, wrong_parameters, unknown_instruction, unknown_class, fails}
use Rattle.rules.specs.Rows.{row_of, class80, offered, is_plain}
use Rattle.rules.specs.Channel.{with_mac, tell}
use Rattle.rules.specs.Steps.{Step, goes, stops, then, stops_with, begins, dropping, step1, data_of, by_form, cla_of, ins_of, p1_of, p2_of, with_byte, by_class, on_card, name_of, is_initialised, by_name, Opened, by_opening, in_stage, opened_by, step4, begun, failed, Arrived, by_choice, step5, past_step1, arrival}
use Rattle.laws_commands.specs.Lawful.{Ready}

-- ---- what steps 2 to 4 found, on the card that step 1 leaves
pub record At (cmd : List ℕ) (c : Card) : Type 0 where
  pub field : List ℕ
  pub instruction : Instruction
  pub opened : Opened
  pub form : data_of cmd ≡ some field
  pub name : name_of (is_initialised c) (cla_of cmd) (ins_of cmd) ≡ Ok instruction
  pub opens : step4 instruction cmd c field ≡ goes opened

-- ---- step 5 by cases
abbrev pub card_at : Instruction → Opened → Card
card_at i o = begun (row_of i).loss o.card

abbrev pub lost_at : Instruction → List ℕ → Opened → Card
lost_at i cmd o = failed (row_of i).loss (p1_of cmd) (card_at i o)

abbrev pub arrived_at : Instruction → List ℕ → Opened → Command → Arrived
arrived_at i cmd o k = record { command = k; data' = o.data'; card = card_at i o; lost = lost_at i cmd o; over = not (is_plain i) }

module _ (P : Step Arrived → Type 0) (i : Instruction) (cmd : List ℕ) (o : Opened) where
  by-choice : (l : Option Command) → (row_of i).lists (p1_of cmd) (p2_of cmd) ≡ l
      → P (stops (tell (not (is_plain i)) (fails (lost_at i cmd o) wrong_parameters)))
      → ((k : Command) → (row_of i).lists (p1_of cmd) (p2_of cmd) ≡ some k → P (goes (arrived_at i cmd o k)))
      → P (by_choice (not (is_plain i)) o.data' (card_at i o) (lost_at i cmd o) l)
  by-choice none e stop go = stop
  by-choice (some k) e stop go = go k e

  pub by-step5 : P (stops (tell (not (is_plain i)) (fails (lost_at i cmd o) wrong_parameters)))
      → ((k : Command) → (row_of i).lists (p1_of cmd) (p2_of cmd) ≡ some k → P (goes (arrived_at i cmd o k)))
      → P (step5 i cmd o)
  unfolding step5
  by-step5 stop go = by-choice ((row_of i).lists (p1_of cmd) (p2_of cmd)) refl stop go

-- ---- step 4 by cases: 6985, 6982 with the channel closed, or what it opened; a later step is `next`
module _ {A : Type 0} (P : Step A → Type 0) (i : Instruction) (cmd : List ℕ) (c : Card) (field : List ℕ) (next : Opened → Step A) where
  -- where step 4 stops
  abbrev Stop : Step Opened → Type 0
  Stop (goes o) = Unit {0}
  Stop (stops t) = P (stops t)

  by-opening : (x : Option (List ℕ)) → P (stops_with (closed c) security_not_met) → Stop (by_opening c field x)
  by-opening none lost = lost
  by-opening (some d) lost = tt

  step4-stops : ((w : ℕ) → P (stops_with c w)) → P (stops_with (closed c) security_not_met) → Stop (step4 i cmd c field)
  unfolding step4
  step4-stops stop lost = by-test Stop (is_plain i) (λ e. tt)
      (λ e. by-test Stop (in_stage i c.channel.stage) (λ t. by-opening (opened_by c cmd field) lost) (λ t. stop conditions_not_met))

  goes_on : (x : Step Opened) → step4 i cmd c field ≡ x → Stop x → ((o : Opened) → step4 i cmd c field ≡ goes o → P (next o))
      → P (then x next)
  goes_on (goes o) e t go = go o e
  goes_on (stops t) e h go = h

  pub by-step4 : ((w : ℕ) → P (stops_with c w)) → P (stops_with (closed c) security_not_met)
      → ((o : Opened) → step4 i cmd c field ≡ goes o → P (next o)) → P (then (step4 i cmd c field) next)
  by-step4 stop lost go = goes_on (step4 i cmd c field) refl (step4-stops stop lost) go

-- what step 4 goes on with: the data of a plain command as they are, or what the field opens to
module _ (Q : Opened → Type 0) (i : Instruction) (cmd : List ℕ) (c : Card) (field : List ℕ) where
  abbrev Went : Step Opened → Type 0
  Went (goes o) = Q o
  Went (stops t) = Unit {0}

  pub by-opened : (is_plain i ≡ true → Q (record { card = c; data' = field }))
      → (is_plain i ≡ false → in_stage i c.channel.stage ≡ true → (d : List ℕ) → opened_by c cmd field ≡ some d
      → Q (record { card = with_mac c (take 16 field); data' = d }))
      → (o : Opened) → step4 i cmd c field ≡ goes o → Q o
  unfolding step4
  by-opened plain opens o e = subst Went e (by-test Went (is_plain i) plain
      (λ p. by-test Went (in_stage i c.channel.stage) (λ t. opening (opened_by c cmd field) (opens p t)) (λ t. tt)))
    where
      opening : (x : Option (List ℕ)) → ((d : List ℕ) → x ≡ some d → Q (record { card = with_mac c (take 16 field); data' = d }))
          → Went (by_opening c field x)
      opening none f = tt
      opening (some d) f = f d refl

-- ---- steps 2 to 5 by cases
module _ (P : Step Arrived → Type 0) (cmd : List ℕ) (c : Card) where
  pub by-past_step1 : ((w : ℕ) → P (stops_with c w)) → P (stops_with (closed c) security_not_met)
      → ((x : At cmd c) → P (step5 x.instruction cmd x.opened)) → P (past_step1 cmd c)
  unfolding past_step1
  by-past_step1 stop lost go = by (data_of cmd) (name_of (is_initialised c) (cla_of cmd) (ins_of cmd)) refl refl
    where
      by : (o : Option (List ℕ)) (n : Named) → data_of cmd ≡ o → name_of (is_initialised c) (cla_of cmd) (ins_of cmd) ≡ n
          → P (then (by_form c o) (λ field. then (by_name c n) (λ i. then (step4 i cmd c field) (λ y. step5 i cmd y))))
      by none n e f = stop wrong_length
      by (some field) (Err unnamed.WrongClass) e f = stop unknown_class
      by (some field) (Err unnamed.Unknown) e f = stop unknown_instruction
      by (some field) (Ok i) e f = by-step4 P i cmd c field (λ y. step5 i cmd y) stop lost
          (λ o h. go (record { field = field; instruction = i; opened = o; form = e; name = f; opens = h }))

-- ---- a command that begins with 80 and this byte has it as its instruction byte
pub begins-byte : (n : ℕ) (cmd : List ℕ) → begins n cmd ≡ true → ins_of cmd ≡ n
begins-byte n [] e = absurd (false≢true e)
begins-byte n (x ∷ []) e = absurd (false≢true (both (eqb x 0x80) false e).1)
begins-byte n (x ∷ y ∷ more) e =
    let h = both (eqb x 0x80) (eqb y n && same_bytes (take 0 more) []) e in
    eqb-true y n (both (eqb y n) (same_bytes (take 0 more) []) h.1).0

-- ---- what a name says: the card offers the instruction, and the byte is its own
abbrev pub Says : Bool → ℕ → Named → Type 0
Says t b (Ok i) = (offered (row_of i).offer t ≡ true) × (b ≡ (row_of i).byte)
Says t b (Err unnamed.WrongClass) = Unit {0}
Says t b (Err unnamed.Unknown) = Unit {0}

abbrev Bears : ℕ → Named → Type 0
Bears b (Ok i) = b ≡ (row_of i).byte
Bears b (Err unnamed.WrongClass) = Unit {0}
Bears b (Err unnamed.Unknown) = Unit {0}

with-byte : (b : ℕ) (l : List Instruction) → Bears b (with_byte b l)
with-byte b [] = tt
with-byte b (i ∷ more) =
    by-test (Bears b) (eqb b (row_of i).byte) (λ e. eqb-true b (row_of i).byte e) (λ e. with-byte b more)

by-class : (cla b : ℕ) → Bears b (by_class cla b)
by-class cla b = by-test (Bears b) (eqb cla 0x80)
    (λ e. with-byte b class80)
    (λ e. by-test (Bears b) (eqb cla 0 && eqb b (row_of ins.Select).byte)
    (λ t. eqb-true b (row_of ins.Select).byte (both (eqb cla 0) (eqb b (row_of ins.Select).byte) t).1) (λ t. tt))

on-card : (t : Bool) (b : ℕ) (n : Named) → Bears b n → Says t b (on_card t n)
on-card t b (Ok i) h = by-test (Says t b) (offered (row_of i).offer t) (λ e. (e, h)) (λ e. tt)
on-card t b (Err unnamed.WrongClass) h = tt
on-card t b (Err unnamed.Unknown) h = tt

pub name-says : (t : Bool) (cla b : ℕ) → Says t b (name_of t cla b)
unfolding name_of
name-says t cla b = on-card t b (by_class cla b) (by-class cla b)

-- ---- step 1: without 80 12 no pairing is pending, without 80 11 the channel is not in stage 1
pub step1-pending : (cmd : List ℕ) (c : Card) → begins 0x12 cmd ≡ false → (step1 cmd c).pairing.pending ≡ 0
unfolding step1
step1-pending cmd c e = rw e

pub step1-stage : (cmd : List ℕ) (c : Card) → begins 0x11 cmd ≡ false → (step1 cmd c).channel.stage ≡ 1 → ⊥
unfolding step1
step1-stage cmd c e = by-test (λ (k : Card). k.channel.stage ≡ 1 → ⊥) (begins 0x12 cmd) (λ t. not-one) (λ t. not-one)
  where
    not-one : (dropping cmd c).channel.stage ≡ 1 → ⊥
    not-one = by-test (λ (k : Card). k.channel.stage ≡ 1 → ⊥) (eqb c.channel.stage 1 && not (begins 0x11 cmd))
        (λ t z. omega arith) (λ t z. false≢true (sym (rw (z, e) at t)))

-- ---- what `Ready` says is so after steps 1 to 4
module _ (cmd : List ℕ) (c : Card) (x : At cmd (step1 cmd c)) where
  abbrev behind : Card
  behind = step1 cmd c

  said : Says (is_initialised behind) (ins_of cmd) (Ok x.instruction)
  said = subst (Says (is_initialised behind) (ins_of cmd)) x.name (name-says (is_initialised behind) (cla_of cmd) (ins_of cmd))

  not-begun : (n : ℕ) → ((row_of x.instruction).byte ≡ n → ⊥) → (b : Bool) → begins n cmd ≡ b → b ≡ false
  not-begun n f true e = absurd (f (sym said.1 ∙ begins-byte n cmd e))
  not-begun n f false e = refl

  first-ready : (stage : is_plain x.instruction ≡ false → in_stage x.instruction behind.channel.stage ≡ true)
      → Ready x.instruction behind
  first-ready t = record {
    offer = said.0;
    pending = λ f. step1-pending cmd c (not-begun 0x12 f (begins 0x12 cmd) refl);
    half = λ f. step1-stage cmd c (not-begun 0x11 f (begins 0x11 cmd) refl);
    stage = t;
  }

  pub ready : Ready x.instruction x.opened.card
  ready = by-opened (λ (o : Opened). Ready x.instruction o.card) x.instruction cmd behind x.field
      (λ p. first-ready (λ e. absurd (false≢true (sym e ∙ p))))
      (λ p t d e.
      let r = first-ready (λ _. t) in
      record { offer = r.offer; pending = r.pending; half = r.half; stage = r.stage })
      x.opened x.opens

-- ---- a command that is filled: Lc and then as many bytes
pub data-filled : (h : List ℕ) → length h ≡ 4 → (n : ℕ) (f : List ℕ) → n ≡ length f → 1 ≤ n → data_of (h ++ (n ∷ f)) ≡ some f
unfolding data_of
data-filled [] l n f e p = absurd (omega arith)
data-filled (a ∷ []) l n f e p = absurd (omega arith)
data-filled (a ∷ b ∷ []) l n f e p = absurd (omega arith)
data-filled (a ∷ b ∷ c ∷ []) l n f e p = absurd (omega arith)
data-filled (a ∷ b ∷ c ∷ d ∷ []) l n f e p =
    rw (
      le-ltb (length (a ∷ b ∷ c ∷ d ∷ n ∷ f)) 4 (omega arith),
      lt-leb (length (a ∷ b ∷ c ∷ d ∷ n ∷ f)) 5 (omega arith),
      ne_eqb n 0 (λ z. omega arith),
      eq-eqb (length (a ∷ b ∷ c ∷ d ∷ n ∷ f)) (5 + n) (omega arith),
      e,
      take-length f,
    )
data-filled (a ∷ b ∷ c ∷ d ∷ x ∷ more) l n f e p = absurd (omega arith)

-- ---- a sealed command that opens to d, in a stage that it goes in, where step 1 leaves the card x
pub sealed-arrives : (c x : Card) (cmd field d : List ℕ) (i : Instruction) (k : Command) → step1 cmd c ≡ x → data_of cmd ≡ some field
    → name_of (is_initialised x) (cla_of cmd) (ins_of cmd) ≡ Ok i → is_plain i ≡ false → in_stage i x.channel.stage ≡ true
    → opened_by x cmd field ≡ some d → (row_of i).lists (p1_of cmd) (p2_of cmd) ≡ some k
    → arrival c cmd ≡ goes (arrived_at i cmd (record { card = with_mac x (take 16 field); data' = d }) k)
unfolding arrival past_step1 step4 step5
sealed-arrives c x cmd field d i k a f n p t o l = ap (past_step1 cmd) a ∙ rw (f, n, p, t, o, l)
