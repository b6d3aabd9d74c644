-- The form: too short, without data, or by Lc.
-- Assumes nothing.
use native.Mathlib.Omega.{arith}
use mathlib.Core.Path.{◌≡◌, sym, ap, ◌∙◌}
use Prim.Native.Nat.{ℕ, ◌+◌, ◌-◌}
use lib.ListN.{length, take, drop, length-take}
use Rattle.order_form.proofs.Decoding.{form-short, form-bare, form-data, form-wrong}
use Rattle.order_form.proofs.find_data.Goals as goal

pub returns-then-n-lt-HEADER_BYTES-clause-none : goal.returns-then-n-lt-HEADER_BYTES-clause-none
returns-then-n-lt-HEADER_BYTES-clause-none c = form-short c.args.cmd.now c.if-n-lt-HEADER_BYTES.true

pub returns-then-n-le-FRONT_BYTES-clause-some : goal.returns-then-n-le-FRONT_BYTES-clause-some
returns-then-n-le-FRONT_BYTES-clause-some c = let s = c.args.cmd.now in
    form-bare s _ c.if-n-lt-HEADER_BYTES.false c.if-n-le-FRONT_BYTES.true (omega (arith, length-take (length s - length s) (drop (length s) s)))

pub returns-then-lc_fits-clause-some : goal.returns-then-lc_fits-clause-some
returns-then-lc_fits-clause-some c = let lc : ℕ = c.wide-lc.result in
    form-data c.args.cmd.now _ c.if-n-lt-HEADER_BYTES.false c.if-n-le-FRONT_BYTES.false lc c.wide-lc.ensures (omega (arith, c.wide-lc.ensures, c.type_inv.cmd 4)) (sym c.lc_fits.ensures ∙ c.if-lc_fits.true)
    (ap (λ (n : ℕ). take n (drop 5 c.args.cmd.now)) (less lc))
  where
    less : (n : ℕ) → 5 + n - 5 ≡ n
    less n = omega arith

pub returns-clause-none : goal.returns-clause-none
returns-clause-none c = form-wrong c.args.cmd.now c.if-n-lt-HEADER_BYTES.false c.if-n-le-FRONT_BYTES.false c.wide-lc.result c.wide-lc.ensures (sym c.lc_fits.ensures ∙ c.if-lc_fits.false)
