-- The MAC that was compared, and the padding that was found, decide as the definition does.
-- Assumes nothing.
use Rattle.aes_padding.specs.Padding.{unpad, answer}
use mathlib.Core.Path.{ap, ◌∙◌}
use mathlib.Core.List.{List}
use Prim.Native.Nat.{ℕ, ◌-◌, ◌≤◌}
use native.Mathlib.Omega.{arith}
use lib.ListN.{length}
use Rattle.channel_open.proofs.Unsealed.{mac-differs, padding-found, compared, deciphered, deciphered-long, searched}
use Rattle.channel_open.proofs.open_formed.Goals as goal

pub returns-then-not-same : goal.returns-then-not-same
returns-then-not-same c = let g = c.args in
    mac-differs g.s g.head g.field.now g.plain.now
    (compared g.s g.head g.field.now c.cbc_mac-mac.result c.same.result c.cbc_mac-mac.ensures c.same.ensures ∙ c.if-not-same.true)

pub returns : goal.returns
returns c = let g = c.args in
    let field : List ℕ = g.field.now in
    let y₁ : List ℕ = c.put.new.buf in
    let d = c.cbc_decrypt in
    let y₂ : List ℕ = d.new.buf in
    let m : ℕ = length field - 16 - 0 in
    let room : length field - 16 ≤ length g.plain.now = omega (arith, c.requires.in_bounds, c.requires.plain_len) in
    padding-found g.s g.head field y₂ _ c.find_data.result
    (omega (arith, c.requires.in_bounds, deciphered-long g.s g.head field g.plain.now y₁ y₂ m (omega arith) room c.put.ensures d.ensures d.auto.buf))
    (compared g.s g.head field c.cbc_mac-mac.result c.same.result c.cbc_mac-mac.ensures c.same.ensures ∙ c.if-not-same.false)
    (deciphered g.s g.head field g.plain.now y₁ y₂ m (omega arith) room c.put.ensures d.ensures)
    (c.find_data.ensures ∙ ap (λ (l : List ℕ). answer (unpad l)) (searched g.s g.head field g.plain.now y₁ y₂ m (omega arith) room c.put.ensures d.ensures _ d.auto.buf))
