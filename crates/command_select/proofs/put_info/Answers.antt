-- The template is written from the card's own parts; the key UID is taken whole or not at all.
-- Assumes nothing.
use Rattle.std.proofs.Common.{rules}
use mathlib.Core.List.{List}
use mathlib.Core.Path.{◌≡◌, ap₂}
use Prim.Native.Nat.{ℕ, ◌-◌, ◌≤◌}
use native.Mathlib.Omega.{arith}
use lib.ListN.{length}
use lib.Seq.{length-take-le}
use Rattle.template_answers.specs.Answers.{application_info}
use Rattle.template_rules.proofs.WritingFacts.{wrote-same}
use Rattle.command_select.proofs.SelectFacts.{key-uid-is, key-uid-short}
use Rattle.command_select.specs.Parts.{key_uid_bytes}
use Rattle.command_select.proofs.put_info.Goals as goal

pub slice_bounds-put_application_info-end-3 : goal.slice_bounds-put_application_info-end-3
slice_bounds-put_application_info-end-3 c =
    let l : length c.args.keys.uid ≡ 32 = search rules in
    let e : c.key_uid_bytes-n.result ≡ key_uid_bytes c.args.keys.kind = c.key_uid_bytes-n.ensures in
    let h : c.key_uid_bytes-n.result ≤ length c.args.keys.uid = omega (arith, key-uid-short c.args.keys.kind) in
    h

pub put_application_info-requires : goal.put_application_info-requires
put_application_info-requires c =
    let a = c.args in
    let u : length a.identity.uid ≡ 16 = search rules in
    let p : length a.identity.public_key ≡ 65 = search rules in
    let l : length a.keys.uid ≡ 32 = search rules in
    let n : ℕ = c.key_uid_bytes-n.result in
    let e : n ≡ key_uid_bytes a.keys.kind = c.key_uid_bytes-n.ensures in
    let k = key-uid-short a.keys.kind in
    let room : 129 ≤ length a.out.now = omega (arith, c.requires) in
    (omega arith, omega arith, omega (arith, length-take-le (n - 0) a.keys.uid (omega arith)), room)

pub returns : goal.returns
returns c = let a = c.args in
    let l : length a.keys.uid ≡ 32 = search rules in
    let n : ℕ = c.key_uid_bytes-n.result in
    let e : n ≡ key_uid_bytes a.keys.kind = c.key_uid_bytes-n.ensures in
    wrote-same
    (ap₂ (λ (f : ℕ) (k : List ℕ). application_info a.identity.uid a.identity.public_key f k)
    c.free_slots-free.ensures (key-uid-is a.keys (n - 0) l (omega arith)))
    c.put_application_info.ensures
