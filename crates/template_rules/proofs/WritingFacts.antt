-- Bytes that are written one part after the other are written as one.
-- Assumes nothing.
use mathlib.Core.Path.{◌≡◌, refl, ap, ◌∙◌}
use mathlib.Core.List.{List, ◌++◌}
use Prim.Native.Nat.{ℕ, ◌+◌, ◌≤◌}
use native.Mathlib.Omega.{arith}
use lib.ListN.{length, length-append}
use Rattle.octets.specs.Bytes.{overwrite}
use Rattle.octets.proofs.Lists.{overwrite-next, length-overwrite}
use Rattle.template_rules.specs.Writing.{Wrote}

-- what one call of put does
pub wrote_one : {t : List ℕ} {at : ℕ} {a b : List ℕ} → at + length t ≤ length a → b ≡ overwrite a at t
    → Wrote t at (at + length t) a b
wrote_one h e = record { place = refl; fits = h; buffer = e }

module _ {t u : List ℕ} {at mid end : ℕ} {a b c : List ℕ} where
  pub wrote-both : Wrote t at mid a b → Wrote u mid end b c → Wrote (t ++ u) at end a c
  wrote-both p q =
      let same : length b ≡ length a = ap length p.buffer ∙ length-overwrite a at t (omega (arith, p.place, p.fits)) in
      record {
        place = omega (arith, p.place, q.place, length-append t u);
        fits = omega (arith, q.fits);
        buffer =
            q.buffer
            ∙ ap (λ (x : List ℕ). overwrite x mid u) p.buffer
            ∙ overwrite-next a at mid t u p.place (omega (arith, q.place, q.fits));
      }

-- the same bytes by another definition
pub wrote-same : {t u : List ℕ} {at next : ℕ} {a b : List ℕ} → t ≡ u → Wrote t at next a b → Wrote u at next a b
wrote-same e w = rw e at w
