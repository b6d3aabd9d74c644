-- The plan in its buffer: what was written is the plan, and zeros are after it. Lengths are in bytes.
-- Assumes nothing.
use mathlib.Core.Path.{◌≡◌, refl, sym, ap, ◌∙◌}
use mathlib.Core.Bool.{Bool, true, false, not, cond, false≢true}
use mathlib.Core.Logic.{⊎_elim}
use mathlib.Core.List.{List, [], ◌++◌, append-nil}
use Prim.Native.Nat.{ℕ, ◌+◌, ◌≤◌, ◌<◌}
use native.Mathlib.Nat.{add-zero}
use native.Mathlib.Omega.{arith}
use lib.ListN.{length, take, drop, take-append-drop}
use borrow.Author.Tests.{leb-true}
use Rattle.octets.specs.Bytes.{overwrite}
use Rattle.octets.proofs.Lists.{length-overwrite, take-overwrite, drop-overwrite}
use Rattle.template_rules.specs.Writing.{Wrote}
use Rattle.card.specs.declared.Card.{Card}
use Rattle.card.specs.Slots.{is_zero}
use Rattle.card.specs.Sound.{is_sound}
use Rattle.card.proofs.Rules.{pins-rules, parts-rules, sound-cases}
use Rattle.rules.specs.Steps.{is_initialised}
use Rattle.plan_rules.specs.Plan.{can_plan, plan_refusal}
use Rattle.plan_make.specs.Make.{command_bytes, wanted}

-- ---- wanted
pub length-wanted : (w : Bool) (b : ℕ) (d : List ℕ) → length (wanted w b d) ≤ 5 + length d
length-wanted true b d = omega arith
length-wanted false b d = omega arith

-- nothing is written where nothing is wanted
overwrite-none : (a : List ℕ) (at : ℕ) → overwrite a at [] ≡ a
overwrite-none a at =
    ap (λ (k : ℕ). take at a ++ [] ++ drop k a) (add-zero at)
    ∙ ap (λ (r : List ℕ). r ++ drop at a) (append-nil (take at a))
    ∙ take-append-drop at a

pub not-wanted : (w : Bool) (b : ℕ) (d : List ℕ) (at : ℕ) (a : List ℕ) → w ≡ false → at ≤ length a → Wrote (wanted w b d) at at a a
not-wanted true b d at a e h = absurd (false≢true (sym e))
not-wanted false b d at a e h = record { place = sym (add-zero at); fits = h; buffer = sym (overwrite-none a at) }

-- a head and the data after it are a command
pub is-wanted : {at n : ℕ} {a z : List ℕ} (w : Bool) (b : ℕ) (d : List ℕ) → w ≡ true → Wrote (command_bytes b d) at n a z → Wrote (wanted w b d) at n a z
is-wanted true b d e h = h
is-wanted false b d e h = absurd (false≢true e)

-- ---- Wrote
pub wrote-length : {t : List ℕ} {at n : ℕ} {a b : List ℕ} → Wrote t at n a b → length b ≡ length a
wrote-length {t} {at} {n} {a} w = ap length w.buffer ∙ length-overwrite a at t (omega (arith, w.place, w.fits))

-- from the buffer's start
module _ {t : List ℕ} {n : ℕ} {a b : List ℕ} (w : Wrote t 0 n a b) where
  within : 0 + length t ≤ length a
  within = omega (arith, w.place, w.fits)

  pub wrote-taken : take n b ≡ t
  wrote-taken = ap (λ (m : ℕ). take m b) w.place ∙ ap (take (0 + length t)) w.buffer ∙ take-overwrite a 0 t within

  pub wrote-left : drop n b ≡ drop n a
  wrote-left =
      ap (λ (m : ℕ). drop m b) w.place
      ∙ ap (drop (0 + length t)) w.buffer
      ∙ drop-overwrite a 0 t within
      ∙ ap (λ (m : ℕ). drop m a) (sym w.place)

-- ---- plan_refusal: none where the card is sound and a plan can be made
pub not-refused : (c : Card) (pin current pinless : List ℕ) → plan_refusal c pin current pinless ≡ 0
    → (is_sound c ≡ true) × (can_plan c pin current pinless ≡ true)
unfolding plan_refusal
not-refused c pin current pinless e = by_tests (is_sound c) (can_plan c pin current pinless) e
  where
    by_tests : (s p : Bool) → ◌≡◌ {A = ℕ} (cond s (cond p 0 12) 1) 0 → (s ≡ true) × (p ≡ true)
    by_tests true true e = (refl, refl)
    by_tests true false e = absurd (omega (arith, e))
    by_tests false p e = absurd (omega (arith, e))

-- the tries of a sound card are few
pub tries-byte : (c : Card) → is_sound c ≡ true → is_initialised c ≡ true → c.pins.pin_tries < 256
tries-byte c e i = ⊎_elim
    (λ b. absurd (false≢true (ap (λ (n : ℕ). not (is_zero n)) (sym b.flag) ∙ i)))
    (λ a. omega (arith, leb-true c.pins.pin_tries 3 (pins-rules c.pins (parts-rules c a.parts).pins).pintries))
    (sound-cases c e)
