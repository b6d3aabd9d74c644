-- `counted` meets its contract: each test of the code is the definition's, and the rest is `run`.
-- Assumes nothing.
use Rattle.std.proofs.Common.{◌≡◌, ℕ, List, sym, ap, ◌∙◌, ◌-◌, length, drop, Some, None}
use Rattle.text_fill.specs.Steps.{stepped}
use Rattle.text_hex.specs.Hex.{high, low}
use Rattle.text_decimal.specs.Decimal.{number_of}
use Rattle.soft_word_bytes.specs.Meaning.{taken}
use Rattle.soft_word_bytes.proofs.PieceFacts.{bad-form, put_as, tail-is, counted-high, counted-low, counted_none, counted-taken}
use Rattle.soft_word_bytes.proofs.counted.Goals as goal

pub returns-in_default : goal.returns-in_default
returns-in_default c = let a = c.args in
    let hi : high a.p.now 0 ≡ Some c.in_default.field-0-0 = cc in
    let lo : low a.p.now 0 ≡ None = cc in
    bad-form (length a.out.now - a.len) (counted-low a.step a.p.now _ hi lo)

pub returns-in_default-2 : goal.returns-in_default-2
returns-in_default-2 c = let a = c.args in
    let hi : high a.p.now 0 ≡ None = cc in
    bad-form (length a.out.now - a.len) (counted-high a.step a.p.now hi)

pub returns-in_default-number : goal.returns-in_default-number
returns-in_default-number c = let a = c.args in
    let p : List ℕ = a.p.now in
    let hi : high p 0 ≡ Some c.in-Some-Some.high = cc in
    let lo : low p 0 ≡ Some c.in-Some-Some.low = cc in
    let none : number_of (drop 3 p) ≡ None = ap number_of (sym (tail-is 3 p)) ∙ sym c.number.ensures ∙ c.in_default-number.is in
    bad-form (length a.out.now - a.len) (counted_none a.step p _ _ hi lo none)

pub returns : goal.returns
returns c = let a = c.args in
    let p : List ℕ = a.p.now in
    let hi : high p 0 ≡ Some c.in-Some-Some.high = cc in
    let lo : low p 0 ≡ Some c.in-Some-Some.low = cc in
    let n : number_of (drop 3 p) ≡ Some c.in-Some.n = ap number_of (sym (tail-is 3 p)) ∙ sym c.number.ensures ∙ c.in-Some.is in
    let is = counted-taken a.step p _ _ hi lo _ n in
    put_as (length a.out.now - a.len) (ap (λ (f : ℕ). taken (stepped f a.step c.in-Some.n)) c.hex_byte.ensures ∙ sym is) c.run.ensures
