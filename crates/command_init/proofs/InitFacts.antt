-- INIT: what its check says of the data, what was opened, and the reply.
-- Assumes nothing.
use mathlib.Core.Path.{◌≡◌, refl, sym, ap, ap₂, ◌∙◌}
use mathlib.Core.Bool.{Bool, true, false, cond}
use mathlib.Core.List.{List, []}
use mathlib.Core.Option.{Option, none, some}
use Prim.Native.Nat.{ℕ, ◌≤◌}
use native.Mathlib.Omega.{arith}
use lib.ListN.{length, take, drop}
use lib.Seq.{length-take-le}
use borrow.Author.Tests.{eqb-true}
use Rattle.aes_rules.specs.Aes.{inv_aes256}
use Rattle.aes_cbc.specs.Mode.{cbc_decrypt}
use Rattle.aes_padding.specs.Padding.{unpad, answer}
use Rattle.std.specs.Prelude as rust
use Rattle.aes_padding.proofs.Laws.{unpad-front, unpad-shorter, padded-larger}
use Rattle.card.specs.declared.Pins.{Pins}
use Rattle.card.specs.declared.Card.{Card}
use Rattle.card.specs.State.{most_pin_tries, most_puk_tries}
use Rattle.card.proofs.Tests.{both}
use Rattle.rules.specs.declared.Replied.{Replied}
use Rattle.rules.specs.Words.{wrong_data, Hold, succeeds, fails}
use Rattle.rules.specs.Code.{replied_of}
use Rattle.rules.specs.Supplies.{says_yes, part, init_key}
use Rattle.rules.specs.Commands.{init_checks, init_content, is_content, pins_with, initialised_with, init_with, init_reply}
use Rattle.command_init.specs.Content.{brought_content, right}

-- ---- init_checks
pub formed-long : (d : List ℕ) → Hold (init_checks d) → length d ≡ 146
unfolding init_checks
formed-long d h = eqb-true (length d) 146 (both _ _ (both _ _ h.0).0).0

-- ---- what is found in deciphered bytes
pub data-within : (p : List ℕ) (n : ℕ) → rust.Some n ≡ answer (unpad p) → n ≤ length p
data-within p n e = by-option (unpad p) refl e
  where
    by-option : (o : Option (List ℕ)) → unpad p ≡ o → rust.Some n ≡ answer o → n ≤ length p
    by-option none q f = let z : ◌≡◌ {A = ℕ} 0 1 = cc in absurd (omega arith)
    by-option (some x) q f = let l : n ≡ length x = cc in omega (arith, unpad-shorter x p q, padded-larger (length x))

-- the answer of the padding, n, and the test of the n bytes before it decide
module _ (p : List ℕ) (n : ℕ) (e : rust.Some n ≡ answer (unpad p)) where
  by-data : (o : Option (List ℕ)) → unpad p ≡ o → rust.Some n ≡ answer o → right o ≡ cond (is_content (take n p)) (rust.Some (take n p)) rust.None
  by-data none q f = let z : ◌≡◌ {A = ℕ} 0 1 = cc in absurd (omega arith)
  by-data (some x) q f =
      let k : n ≡ length x = cc in
      ap right (ap some (unpad-front x p q ∙ ap (λ (i : ℕ). take i p) (sym k)))

  pub kept : {x : List ℕ} → is_content (take n p) ≡ true → x ≡ take 50 (drop 0 p) → rust.Some x ≡ right (unpad p)
  kept {x} c ex =
      let l : length (take n p) ≡ 50 = eqb-true (length (take n p)) 50 (both _ _ c).0 in
      let h : n ≡ 50 = omega (arith, l, length-take-le n p (data-within p n e)) in
      let m : take 50 p ≡ take n p = ap (λ (i : ℕ). take i p) (sym h) in
      ap (λ (y : List ℕ). rust.Some y) (ex ∙ m) ∙ sym (by-data (unpad p) refl e ∙ rw (c))

  pub left-out : is_content (take n p) ≡ false → rust.None ≡ right (unpad p)
  left-out c = sym (by-data (unpad p) refl e ∙ rw (c))

pub nothing : (o : Option (List ℕ)) → rust.None ≡ answer o → rust.None ≡ right o
nothing none e = refl
nothing (some x) e = let z : ◌≡◌ {A = ℕ} 0 1 = cc in absurd (omega arith)

-- ---- brought_content: the bytes deciphered are the ciphertext
module _ (d s : List ℕ) where
  pub brought_content-yes : (key iv b : List ℕ) → says_yes s ≡ true → key ≡ init_key s → iv ≡ part 66 16 d → b ≡ part 82 64 d
      → unpad (cbc_decrypt (inv_aes256 key) iv b) ≡ brought_content d s
  unfolding brought_content init_content
  brought_content-yes key iv b f ek ei eb = rw (f, ek, ei, eb)

  pub brought_content-no : says_yes s ≡ false → rust.None ≡ right (brought_content d s)
  unfolding brought_content
  brought_content-no f = rw (f)

-- ---- pins_with
pub pins-are : (x pin puk : List ℕ) → pin ≡ part 0 6 x → puk ≡ part 6 12 x
    → ◌≡◌ {A = Pins} (record { pin = pin; puk = puk; pin_tries = most_pin_tries; puk_tries = most_puk_tries; verified = 0 }) (pins_with x)
pins-are x pin puk e f =
    ap₂ {C = Pins} (λ p q. record { pin = p; puk = q; pin_tries = most_pin_tries; puk_tries = most_puk_tries; verified = 0 }) e f

-- ---- init_reply
flag-inside : (c : Card) (o : Option (List ℕ)) (b : Bool) → cond b (init_with c o) (fails c wrong_data) ≡ init_with c (cond b o none)
unfolding init_with
flag-inside c o true = refl
flag-inside c o false = refl

pub init-is : (c : Card) (d s : List ℕ) → init_reply c d s ≡ init_with c (brought_content d s)
unfolding init_reply brought_content
init-is c d s = flag-inside c (init_content (init_key s) d) (says_yes s)

module _ (c : Card) where
  done-with : (o : Option (List ℕ)) (x : List ℕ) → rust.Some x ≡ right o → init_with c o ≡ succeeds (initialised_with c x) []
  unfolding init_with
  done-with none x e = let z : ◌≡◌ {A = ℕ} 0 1 = cc in absurd (omega arith)
  done-with (some y) x e = by (is_content y) refl e
    where
      by : (b : Bool) → is_content y ≡ b → rust.Some x ≡ cond b (rust.Some y) rust.None
          → init_with c (some y) ≡ succeeds (initialised_with c x) []
      by true f g = let k : y ≡ x = cc in rw (f, k)
      by false f g = let z : ◌≡◌ {A = ℕ} 0 1 = cc in absurd (omega arith)

  failed-with : (o : Option (List ℕ)) → rust.None ≡ right o → init_with c o ≡ fails c wrong_data
  unfolding init_with
  failed-with none e = refl
  failed-with (some y) e = by (is_content y) refl e
    where
      by : (b : Bool) → is_content y ≡ b → rust.None ≡ cond b (rust.Some y) rust.None → init_with c (some y) ≡ fails c wrong_data
      by true f g = let z : ◌≡◌ {A = ℕ} 0 1 = cc in absurd (omega arith)
      by false f g = rw (f)

  module _ (d s : List ℕ) {x : Replied} where
    pub init-replied : (content : List ℕ) (next : Card) → rust.Some content ≡ right (brought_content d s) → next ≡ initialised_with c content
        → x ≡ replied_of (succeeds next []) → x ≡ replied_of (init_reply c d s)
    init-replied content next e en ex =
        ex
        ∙ ap (λ (k : Card). replied_of (succeeds k [])) en
        ∙ ap replied_of (sym (done-with (brought_content d s) content e))
        ∙ ap replied_of (sym (init-is c d s))

    pub init-refused : rust.None ≡ right (brought_content d s) → x ≡ replied_of (fails c wrong_data) → x ≡ replied_of (init_reply c d s)
    init-refused e ex = ex ∙ ap replied_of (sym (failed-with (brought_content d s) e)) ∙ ap replied_of (sym (init-is c d s))
