-- The key's words come first; the last turn completes the schedule.
-- Assumes nothing.
use Rattle.std.proofs.Common.{rules}
use mathlib.Core.Path.{◌≡◌, sym, ap, ◌∙◌}
use mathlib.Core.List.{List}
use Prim.Native.Nat.{ℕ, ◌*◌, ◌-◌}
use native.Mathlib.Omega.{arith}
use lib.ListN.{length, take}
use lib.Seq.{take_at, take_all}
use Rattle.aes_rules.specs.Schedule.{key_expansion, expand}
use Rattle.aes_keys.proofs.key_expansion.Goals as goal

pub loop-i-init : goal.loop-i-init
loop-i-init c = let key : List ℕ = c.args.key.now in
    let l : length key ≡ 32 = search rules in
    (ap (take 32) c.put.ensures ∙ take_at key _ 32 l, search rules)

pub returns : goal.returns
unfolding key_expansion
returns c = let a = c.loop-i in
    let i : a.i ≡ 60 = omega arith in
    sym (take_all (a.i * 4) a.w (omega arith)) ∙ a.invariant.0 ∙ ap (λ (k : ℕ). expand (k - 8) c.args.key.now) i
