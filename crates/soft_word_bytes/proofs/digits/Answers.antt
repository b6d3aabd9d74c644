-- `digits` meets its contract: each test of the code is the definition's, and the part that was lent to `decode` comes back with the bytes.
-- Assumes nothing.
use mathlib.Core.Path.{◌≡◌, sym, ◌∙◌}
use mathlib.Core.Bool.{true}
use mathlib.Core.List.{List}
use Prim.Native.Nat.{ℕ, ◌*◌, ◌-◌, ◌/◌}
use native.Mathlib.Omega.{arith}
use lib.ListN.{length}
use Rattle.octets.proofs.Lists.{length-tabulate}
use Rattle.text_hex.specs.Hex.{bytes_of, byte_of}
use Rattle.soft_word_bytes.specs.Meaning.{all_hex}
use Rattle.soft_word_bytes.proofs.PieceFacts.{lent-long, lent-put, bad-form, too_many, put, spelled-all, pairs-none, pairs-odd, pairs-other, pairs-taken}
use Rattle.soft_word_bytes.proofs.digits.Goals as goal

pub returns-then-n-eq0 : goal.returns-then-n-eq0
returns-then-n-eq0 c = let a = c.args in
    bad-form (length a.out.now - a.len) (pairs-none a.p.now (omega arith))

pub returns-then-p-n : goal.returns-then-p-n
returns-then-p-n c = let a = c.args in
    bad-form (length a.out.now - a.len) (pairs-odd a.p.now (omega arith) c.if-p-n.true)

pub returns-then-not-is_hex : goal.returns-then-not-is_hex
returns-then-not-is_hex c = let a = c.args in
    let other = sym c.is_hex.ensures ∙ c.if-not-is_hex.true in
    bad-form (length a.out.now - a.len) (pairs-other a.p.now (omega arith) (omega arith) other)

pub returns-then-out-len : goal.returns-then-out-len
returns-then-out-len c = let a = c.args in
    let p : List ℕ = a.p.now in
    let hex = sym c.is_hex.ensures ∙ c.if-not-is_hex.false in
    let is = pairs-taken p (omega arith) (omega arith) hex in
    too_many (length a.out.now - a.len) (bytes_of (length p / 2) p) is (omega (arith, length-tabulate (length p / 2) (byte_of p)))

pub returns : goal.returns
returns c = let a = c.args in
    let p : List ℕ = a.p.now in
    let n : ℕ = length p / 2 in
    let long : length (bytes_of n p) ≡ n = length-tabulate n (byte_of p) in
    let even : length p ≡ 2 * n = omega arith in
    let hex : all_hex p ≡ true = sym c.is_hex.ensures ∙ c.if-not-is_hex.false in
    let d = c.decode.ensures in
    let lent = lent-long a.len n a.out.now (omega arith) in
    put (length a.out.now - a.len) (bytes_of n p) (pairs-taken p (omega arith) even hex) (omega (arith, long)) (omega (arith, long))
    (lent-put a.len n a.out.now (omega arith) (λ k. bytes_of k p) long (d.out_after (d.value (spelled-all _ p (omega (arith, lent)) hex))))
