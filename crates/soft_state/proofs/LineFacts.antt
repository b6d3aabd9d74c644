-- The bytes that a word means, read out of the buffer that they were put into.
-- Assumes nothing.
use mathlib.Core.Path.{◌≡◌, refl, sym, ap, ap₂, ◌∙◌}
use mathlib.Core.List.{List, [], ◌++◌, append_assoc, append-nil}
use Prim.Native.Nat.{ℕ, ◌≤◌}
use native.Mathlib.Omega.{arith}
use lib.ListN.{length, take, drop, length-append}
use lib.Seq.{take_at}
use Rattle.std.specs.Prelude.{Result, Ok, Err}
use Rattle.std.proofs.lemmas.List.{take-take}
use Rattle.soft_word_bytes.specs.declared.ValueFault.{ValueFault}
use Rattle.soft_word_bytes.specs.Meaning.{Meant, taken, meaning, Reads}

-- the first n bytes are those that are meant, where n is what was answered
front : (m : Meant) (answer : Result ℕ ValueFault) (before after tail : List ℕ) (n : ℕ) → Reads m answer before after → answer ≡ Ok n
    → length after ≡ length before → m ≡ taken (take n (take (length before) (after ++ tail)))
front (Ok s) answer before after tail n r e kept =
    let z : ◌≡◌ {A = Result ℕ ValueFault} (Ok n) (Ok (length s)) = sym e ∙ r.told in
    let long : length s ≡ n = cc in
    let whole : after ≡ s ++ drop (length s) before = r.left s refl in
    let fits : n ≤ length before = omega (arith, long, kept, ap length whole, length-append s (drop (length s) before)) in
    ap (λ (t : List ℕ). taken t)
    (sym
    (take-take n (length before) (after ++ tail) fits
    ∙ ap (λ (t : List ℕ). take n (t ++ tail)) whole
    ∙ ap (take n) (append_assoc s (drop (length s) before) tail)
    ∙ take_at s (drop (length s) before ++ tail) n long))
front (Err fault) answer before after tail n r e kept =
    let z : ◌≡◌ {A = Result ℕ ValueFault} (Ok n) (Err fault) = sym e ∙ r.told in absurd (cc)

pub value-read : (last w : List ℕ) (room n : ℕ) (tail : List ℕ) {last' w' before after : List ℕ} {answer : Result ℕ ValueFault} {L : ℕ}
    → Reads (meaning last' w' (length before)) answer before after → answer ≡ Ok n → last' ≡ last → w' ≡ w → length before ≡ room
    → length after ≡ length before → L ≡ length before → meaning last w room ≡ taken (take n (take L (after ++ tail)))
value-read last w room n tail {last'} {w'} {before} {after} {answer} {L} r e l v b kept h =
    ap (λ (k : ℕ). meaning last w k) (sym b)
    ∙ ap₂ (λ (x y : List ℕ). meaning x y (length before)) (sym l) (sym v)
    ∙ front (meaning last' w' (length before)) answer before after tail n r e kept
    ∙ ap (λ (k : ℕ). taken (take n (take k (after ++ tail)))) (sym h)

-- the same where nothing is behind the buffer
pub value-read-whole : (last w : List ℕ) (room n : ℕ) {last' w' before after : List ℕ} {answer : Result ℕ ValueFault} {L : ℕ}
    → Reads (meaning last' w' (length before)) answer before after → answer ≡ Ok n → last' ≡ last → w' ≡ w → length before ≡ room
    → length after ≡ length before → L ≡ length before → meaning last w room ≡ taken (take n (take L after))
value-read-whole last w room n {last'} {w'} {before} {after} {answer} {L} r e l v b kept h =
    value-read last w room n [] r e l v b kept h
    ∙ ap (λ (t : List ℕ). taken (take n (take L t))) (append-nil after)
