-- `hex::decode` meets its contract: one more byte is put, which its two digits spell.
-- Assumes nothing.
use Rattle.std.proofs.Common.{◌≡◌, ℕ, List, refl, sym, ap, ap₂, ◌∙◌, ◌+◌, ◌*◌, ◌<◌, length, Option, Some}
use Rattle.std.specs.Option.{is_some, IsSome, unwrap_or}
use native.Mathlib.Omega.{arith}
use native.Mathlib.Nat.{not-suc-le-zero}
use borrow.Author.Count.{below_more}
use Rattle.octets.proofs.Lists.{length-tabulate, get_d_tabulate}
use Rattle.octets.proofs.Filling.{filled_none, filled-one}
use Rattle.text_hex.specs.Hex.{high, low, byte_of}
use Rattle.text_hex.proofs.hex.decode.Goals as goal

pub loop-i-init : goal.loop-i-init
loop-i-init c = record { filled = filled_none refl (length-tabulate _ _); spelled = λ k h. absurd (not-suc-le-zero h) }

pub loop-i-preserved : goal.loop-i-preserved
loop-i-preserved c = let text : List ℕ = c.args.text.now in
    let n : ℕ = length c.args.out.now in
    let i : ℕ = c.loop-i.i in
    let l : i < n = omega arith in
    let some = c.in-Some-Some in
    let hi : high text i ≡ Some some.high = cc in
    let lo : low text i ≡ Some some.low = cc in
    let byte : c.hex_byte.result ≡ byte_of text i = c.hex_byte.ensures ∙ sym (ap₂ (λ (a b : Option ℕ). unwrap_or a 0 * 16 + unwrap_or b 0) hi lo) in
    record {
      filled = filled-one _ c.loop-i.invariant.filled l (byte ∙ sym (get_d_tabulate n (byte_of text) i l));
      spelled = below_more (λ k. IsSome (high text k) × IsSome (low text k)) i c.loop-i.invariant.spelled (ap is_some hi, ap is_some lo);
    }
