-- No claim is empty: three wrong PINs and then five wrong PUKs, what is no comparison there, and calls with 9000 that the guard is about.
-- Assumes nothing.
use mathlib.Core.Path.{◌≡◌, refl, sym, ap, ◌∙◌, subst}
use mathlib.Core.Bool.{true, false}
use mathlib.Core.List.{List, [], ◌∷◌}
use mathlib.Core.Option.{none, some}
use Prim.Native.Nat.{ℕ, ◌+◌, ◌≤◌}
use native.Mathlib.Omega.{arith}
use borrow.Author.Tests.{leb-true}
use lib.Dec.{leb}
use lib.ListN.{length, replicate}
use Rattle.octets.specs.Bytes.{Bytes}
use Rattle.octets.proofs.Lists.{bytes-replicate}
use Rattle.card.specs.declared.Pins.{Pins}
use Rattle.card.specs.declared.Keys.{Keys}
use Rattle.card.specs.declared.Card.{Card}
use Rattle.card.specs.State.{zeros, no_keys, path_bytes, path_of}
use Rattle.card.specs.Slots.{all_of}
use Rattle.rules.specs.declared.Instruction.{Instruction}
use Rattle.rules.specs.declared.Instruction.TheVariants as ins
use Rattle.rules.specs.declared.ExportPath.TheVariants as export_path
use Rattle.rules.specs.declared.ExportPart.TheVariants as export_part
use Rattle.rules.specs.declared.Command.{Command}
use Rattle.rules.specs.declared.Command.TheVariants as command
use Rattle.rules.specs.Words.{success, Hold}
use Rattle.rules.specs.Supplies.{suits}
use Rattle.rules.specs.Commands.{is_verified, verify_checks, verify_reply, unblock_checks, unblock_reply, key_with, derive_checks, derive_reply, with_current, with_pinless, pinless_checks, pinless_reply, sign_checks, sign_reply, eip1581_node, export_checks, export_reply, rule_of}
use Rattle.rules.specs.Rows.{row_of, is_plain}
use Rattle.rules.specs.Steps.{begun, arrival, checks_of, supply_of, reply_of}
use Rattle.laws_exchange.specs.Opens.{outcome}
use Rattle.laws_two_runs.proofs.Reached.{key_hash}
use Rattle.laws_two_runs.specs.Runs.{Call, answer}
use Rattle.laws_allowance.specs.Events.{succeeded_at, event_at}
use Rattle.laws_allowance.specs.History.{History, card_after}
use Rattle.laws_allowance.specs.Examples.{Guessed, Uncompared, Succeeds, SignsUnguarded}
use Rattle.laws_allowance.proofs.Counts.{allowance}
use Rattle.laws_allowance.proofs.Verified.{verified-guarded}
use Rattle.laws_allowance.proofs.NotCompared.{not-compared}
use Rattle.laws_allowance.proofs.Turns.{cmd, call, arrived, arrives, gives-9000}
use Rattle.laws_allowance.proofs.Reached.{pins_with, card_of, Reached, opened-reached, loaded-reached, header-bytes, moves}

digits : (n d : ℕ) → leb d 255 ≡ true → Bytes (replicate n d)
digits n d e = bytes-replicate n d (omega (arith, leb-true d 255 e))

-- ---- VERIFY with 222222
wrong-pin : (p p' : Pins) (keys : Keys) → ((iv : List ℕ) → (outcome command.Verify (card_of iv p keys) (replicate 6 0x32) []).card ≡ card_of iv p' keys)
    → Reached p keys → Reached p' keys
unfolding rule_of suits
wrong-pin p p' keys h = moves p p' keys keys ins.Verify refl 0 command.Verify refl (header-bytes 0x20 0 refl refl) (replicate 6 0x32) []
    (digits 6 0x32 refl) tt (omega arith) (λ iv _. refl) h

-- UNBLOCK with the PUK 111111111111 and the new PIN 111111
wrong-puk : (p p' : Pins) → ((iv : List ℕ) → (outcome command.Unblock (card_of iv p no_keys) (replicate 18 0x31) []).card ≡ card_of iv p' no_keys)
    → Reached p no_keys → Reached p' no_keys
unfolding rule_of suits
wrong-puk p p' h = moves p p' no_keys no_keys ins.Unblock refl 0 command.Unblock refl (header-bytes 0x22 0 refl refl) (replicate 18 0x31) []
    (digits 18 0x31 refl) tt (omega arith) (λ iv _. refl) h

pub pin-spent : Reached (pins_with 0 5 0) no_keys
unfolding rule_of verify_checks verify_reply
pin-spent =
    wrong-pin (pins_with 1 5 0) (pins_with 0 5 0) no_keys (λ iv. refl)
    (wrong-pin (pins_with 2 5 0) (pins_with 1 5 0) no_keys (λ iv. refl)
    (wrong-pin (pins_with 3 5 0) (pins_with 2 5 0) no_keys (λ iv. refl) opened-reached))

pub all-spent : Reached (pins_with 0 0 0) no_keys
unfolding rule_of unblock_checks unblock_reply all_of
all-spent =
    wrong-puk (pins_with 0 1 0) (pins_with 0 0 0) (λ iv. refl)
    (wrong-puk (pins_with 0 2 0) (pins_with 0 1 0) (λ iv. refl)
    (wrong-puk (pins_with 0 3 0) (pins_with 0 2 0) (λ iv. refl)
    (wrong-puk (pins_with 0 4 0) (pins_with 0 3 0) (λ iv. refl)
    (wrong-puk (pins_with 0 5 0) (pins_with 0 4 0) (λ iv. refl) pin-spent))))

-- ---- the counts there, from the tries that are left
guessed : (a b v n m : ℕ) (keys : Keys) → n + a ≡ 3 → m + b ≡ 5 → Reached (pins_with a b v) keys → Guessed n m
guessed a b v n m keys i j r =
    let h : History = r.historic.history in
    let e = r.historic.ends in
    record {
      history = h;
      pins' = omega (arith, (allowance h).pins, ap (λ (x : Card). x.pins.pin_tries) e, i);
      puks' = omega (arith, (allowance h).puks, ap (λ (x : Card). x.pins.puk_tries) e, j);
    }

pub three-wrong : Guessed 3 0
three-wrong = guessed 0 5 0 3 0 no_keys refl refl pin-spent

pub all-wrong : Guessed 3 5
all-wrong = guessed 0 0 0 3 5 no_keys refl refl all-spent

-- ---- what is no comparison: VERIFY with the right PIN and no tries left; UNBLOCK with the right PUK and one byte too few
module _ (r : Reached (pins_with 0 5 0) no_keys) (i : Instruction) (over : is_plain i ≡ false) (k : Command) (listed : (row_of i).lists 0 0 ≡ some k)
    (header : Bytes (0x80 ∷ (row_of i).byte ∷ 0 ∷ 0 ∷ [])) (d : List ℕ) (data-bytes : Bytes d) (fits : length d ≤ 223) where
  abbrev here : Card
  here = card_of r.iv (pins_with 0 5 0) no_keys

  abbrev bytes : List ℕ
  bytes = cmd here r.live i over 0 0 k listed d [] header data-bytes tt fits

  uncompared : (event_at here (answer bytes [] (zeros 258))).compared ≡ none → Uncompared 3 0 k d
  unfolding guessed
  uncompared e = record {
    guessed = guessed 0 5 0 3 0 no_keys refl refl r;
    bytes = bytes;
    supply = [];
    buffer = zeros 258;
    arrived = arrived here r.live i over 0 0 k listed d [] header data-bytes tt fits;
    arrives = ap (λ (x : Card). arrival x bytes) r.historic.ends ∙ arrives here r.live i over 0 0 k listed d [] header data-bytes tt fits;
    names = refl;
    entered = refl;
    unmade = ap (λ (x : Card). (event_at x (answer bytes [] (zeros 258))).compared) r.historic.ends ∙ e;
  }

pub verify-spent : Uncompared 3 0 command.Verify (replicate 6 0x30)
verify-spent =
    uncompared pin-spent ins.Verify refl command.Verify refl (header-bytes 0x20 0 refl refl) (replicate 6 0x30) (digits 6 0x30 refl) (omega arith)
    ((not-compared _ _ [] (zeros 258) _
    (arrives _ pin-spent.live ins.Verify refl 0 0 command.Verify refl (replicate 6 0x30) [] (header-bytes 0x20 0 refl refl) (digits 6 0x30 refl) tt (omega arith))
    ).verify refl refl)

pub unblock-short : Uncompared 3 0 command.Unblock (replicate 17 0x30)
unblock-short =
    uncompared pin-spent ins.Unblock refl command.Unblock refl (header-bytes 0x22 0 refl refl) (replicate 17 0x30) (digits 17 0x30 refl) (omega arith)
    ((not-compared _ _ [] (zeros 258) _
    (arrives _ pin-spent.live ins.Unblock refl 0 0 command.Unblock refl (replicate 17 0x30) [] (header-bytes 0x22 0 refl refl) (digits 17 0x30 refl) tt (omega arith))
    ).form refl refl)

-- ---- SIGN, and EXPORT of the private key of EIP-1581's node, with an extended key and a verified PIN
abbrev extended : Keys
extended = key_with 2 key_hash

-- a call after a history with these pins and keys that gives 9000
record Gives (p : Pins) (keys : Keys) (k : Command) : Type 0 where
  pub history : History
  pub call' : Call
  pub gives : succeeded_at (card_after history) call' ≡ some k
  pub pins : (card_after history).pins ≡ p
  pub keys' : (card_after history).keys ≡ keys

module _ (p : Pins) (keys : Keys) (i : Instruction) (over : is_plain i ≡ false) (p1 : ℕ) (k : Command) (listed : (row_of i).lists p1 0 ≡ some k)
    (header : Bytes (0x80 ∷ (row_of i).byte ∷ p1 ∷ 0 ∷ [])) (d u : List ℕ) (data-bytes : Bytes d) (supply-bytes : Bytes u) (fits : length d ≤ 223)
    (suited : suits (supply_of k) u ≡ true) (kept : begun (row_of i).loss ≡ (λ c. c))
    (checks : (iv : List ℕ) → Hold (checks_of k (card_of iv p keys) d))
    (replies : (iv : List ℕ) → (reply_of k (card_of iv p keys) d u).status ≡ success) where
  sent-gives : Reached p keys → Gives p keys k
  sent-gives r =
      let c : Card = card_of r.iv p keys in
      record {
        history = r.historic.history;
        call' = call c r.live i over p1 0 k listed d u header data-bytes supply-bytes fits;
        gives = ap (λ (x : Card). succeeded_at x (call c r.live i over p1 0 k listed d u header data-bytes supply-bytes fits)) r.historic.ends
            ∙ gives-9000 c r.live i over p1 0 k listed d u header data-bytes supply-bytes fits (λ _. suited)
            (rw kept (checks _)) (rw kept (replies _));
        pins = ap (λ (x : Card). x.pins) r.historic.ends;
        keys' = ap (λ (x : Card). x.keys) r.historic.ends;
      }

succeeds : (p : Pins) (keys : Keys) (k : Command) → keys.pinless.len ≡ 0 → Gives p keys k → Succeeds k
succeeds p keys k z g = record {
  history = g.history;
  call = g.call';
  gives = g.gives;
  off = λ o. o.0 (ap (λ (x : Keys). x.pinless.len) g.keys' ∙ z);
}

pub signs : Succeeds command.Sign
unfolding rule_of suits sign_checks sign_reply
signs = succeeds (pins_with 3 5 1) extended command.Sign refl
    (sent-gives (pins_with 3 5 1) extended ins.Sign refl 0 command.Sign refl (header-bytes 0xC0 0 refl refl) (zeros 32) (zeros 129) (digits 32 0 refl)
    (digits 129 0 refl) (omega arith) refl refl (λ iv. (refl, (refl, tt))) (λ iv. refl) loaded-reached)

node-bytes : Bytes eip1581_node
node-bytes = (omega arith, (omega arith, (omega arith, (omega arith, (omega arith, (omega arith, (omega arith, (omega arith, (omega arith, (omega arith, (omega arith, (omega arith, tt))))))))))))

pub exports : Succeeds (command.Export export_path.Given export_part.PrivateAndPublic)
unfolding rule_of suits export_checks export_reply
exports = succeeds (pins_with 3 5 1) extended (command.Export export_path.Given export_part.PrivateAndPublic) refl
    (sent-gives (pins_with 3 5 1) extended ins.Export refl 1 (command.Export export_path.Given export_part.PrivateAndPublic) refl
    (header-bytes 0xC2 1 refl refl) eip1581_node (1 ∷ zeros 97) node-bytes (omega arith, digits 97 0 refl) (omega arith) refl refl
    (λ iv. (refl, (refl, (refl, tt)))) (λ iv. refl) loaded-reached)

-- ---- on a PIN-less path: SET PIN-LESS PATH and DERIVE with 00000001, then 222222 as PIN, then SIGN
abbrev path : List ℕ
path = 0 ∷ 0 ∷ 0 ∷ 1 ∷ []

path-bytes : Bytes path
path-bytes = (omega arith, (omega arith, (omega arith, (omega arith, tt))))

abbrev pinless_keys : Keys
pinless_keys = with_pinless extended (path_of path)

abbrev on_pinless : Keys
on_pinless = with_current pinless_keys (path_of path)

pinless-reached : Reached (pins_with 3 5 1) pinless_keys
unfolding rule_of suits pinless_checks pinless_reply
pinless-reached = moves (pins_with 3 5 1) (pins_with 3 5 1) extended pinless_keys ins.SetPinless refl 0 command.SetPinless refl
    (header-bytes 0xC1 0 refl refl) path [] path-bytes tt (omega arith) (λ iv _. refl) (λ iv. refl) loaded-reached

derived-reached : Reached (pins_with 3 5 1) on_pinless
unfolding rule_of suits derive_checks derive_reply
derived-reached = moves (pins_with 3 5 1) (pins_with 3 5 1) pinless_keys on_pinless ins.Derive refl 0 command.Derive refl (header-bytes 0xD1 0 refl refl)
    path (1 ∷ []) path-bytes (omega arith, tt) (omega arith) (λ iv _. refl) (λ iv. refl) pinless-reached

wronged-reached : Reached (pins_with 2 5 0) on_pinless
unfolding rule_of verify_checks verify_reply
wronged-reached = wrong-pin (pins_with 3 5 1) (pins_with 2 5 0) on_pinless (λ iv. refl) derived-reached

pub signs-unguarded : SignsUnguarded
unfolding rule_of suits sign_checks sign_reply
signs-unguarded =
    let g : Gives (pins_with 2 5 0) on_pinless command.Sign =
    sent-gives (pins_with 2 5 0) on_pinless ins.Sign refl 0 command.Sign refl (header-bytes 0xC0 0 refl refl) (zeros 32) (zeros 129) (digits 32 0 refl)
    (digits 129 0 refl) (omega arith) refl refl (λ iv. (refl, (refl, tt))) (λ iv. refl) wronged-reached in
    record {
      history = g.history;
      call = g.call';
      gives = g.gives;
      on = subst (λ (k : Keys). (k.pinless.len ≡ 0 → ⊥) × (path_bytes k.current ≡ path_bytes k.pinless)) (sym g.keys')
          (λ z. omega (arith, z), refl);
      unguarded = sym (verified-guarded g.history) ∙ ap is_verified g.pins;
    }
