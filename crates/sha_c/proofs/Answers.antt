-- What a call did, from whether the room for the digest has 32 bytes.
-- Assumes nothing.
use mathlib.Core.Path.{◌≡◌, sym, ap, ◌∙◌}
use mathlib.Core.Bool.{cond}
use mathlib.Core.List.{List}
use Prim.Native.Nat.{ℕ}
use borrow.Author.Tests.{eq-eqb, ne_eqb}
use lib.Dec.{eqb}
use Rattle.sha_c.specs.Calls.{hash_answer, Did}

pub did-all : {work before after : List ℕ} (n : ℕ) → n ≡ 32 → after ≡ work → Did (hash_answer n) work 0 before after
did-all {work} {before} n h e =
    let a : hash_answer n ≡ 0 = ap (λ b. cond b 0 1) (eq-eqb n 32 h) in
    record { told = sym a; left = e ∙ sym (ap (λ (k : ℕ). cond (eqb k 0) work before) a) }

pub did_nothing : {work before : List ℕ} (n : ℕ) → (n ≡ 32 → ⊥) → Did (hash_answer n) work 1 before before
did_nothing {work} {before} n h =
    let a : hash_answer n ≡ 1 = ap (λ b. cond b 0 1) (ne_eqb n 32 h) in
    record { told = sym a; left = sym (ap (λ (k : ℕ). cond (eqb k 0) work before) a) }
