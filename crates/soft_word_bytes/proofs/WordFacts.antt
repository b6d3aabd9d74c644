-- The pieces of a word, one after the other.
-- Assumes nothing.
use mathlib.Core.Path.{◌≡◌, refl, sym, ap, ◌∙◌}
use mathlib.Core.Bool.{Bool, true, false, cond}
use mathlib.Core.List.{List, [], ◌∷◌, ◌++◌}
use Prim.Native.Nat.{ℕ, ◌+◌, ◌-◌, ◌≤◌, ◌<◌}
use native.Mathlib.Decide.{dec_lt}
use native.Mathlib.Omega.{arith}
use lib.Dec.{eqb}
use lib.ListN.{length, drop, get_or, length-append}
use borrow.Author.Tests.{lt-ltb, le-ltb}
use Rattle.std.specs.Prelude.{Result, Ok, Err}
use Rattle.std.specs.List.{slice_split, onto_first}
use Rattle.std.proofs.lemmas.List.{at_drop_more, at_drop_all}
use Rattle.octets.specs.Bytes.{overwrite, written, same_bytes}
use Rattle.octets.proofs.Lists.{length-overwrite, overwrite-next, overwrite-start}
use Rattle.soft_word_bytes.specs.declared.ValueFault.{ValueFault}
use Rattle.soft_word_bytes.specs.Meaning.{Meant, many, within, piece_of, first_piece, later_pieces, pieces_in, onward, joined, meaning, end_of, length_of, Puts, Reads}

-- ---- the pieces are the parts between the dots
abbrev pub is_dot : ℕ → Bool
is_dot c = eqb c 46

split-step : (b : Bool) (c : ℕ) (s : List ℕ) → pieces_in s ≡ slice_split is_dot s
    → cond b [] (c ∷ first_piece s) ∷ cond b (first_piece s ∷ later_pieces s) (later_pieces s) ≡ cond b ([] ∷ slice_split is_dot s) (onto_first c (slice_split is_dot s))
split-step true c s e = ap (λ (t : List (List ℕ)). [] ∷ t) e
split-step false c s e = ap (onto_first c) e

pub pieces-split : (w : List ℕ) → pieces_in w ≡ slice_split is_dot w
pieces-split [] = refl
pieces-split (c ∷ s) = split-step (eqb c 46) c s (pieces-split s)

-- ---- bytes that were taken fit
within-fits : (room : ℕ) (x : Meant) (s : List ℕ) → within room x ≡ Ok s → length s ≤ room
unfolding within
within-fits room (Ok t) s e = elim (dec_lt room (length t)) [
  | yes h ↦ absurd (let z : ◌≡◌ {A = Meant} many (Ok s) = rw (lt-ltb room (length t) h) at e in cc)
  | no h ↦
      let z : ◌≡◌ {A = Meant} (Ok t) (Ok s) = rw (le-ltb room (length t) (omega arith)) at e in
      let same : t ≡ s = cc in
      omega (arith, ap length same)
]
within-fits room (Err fault) s e = absurd (cc)

-- ---- what an answer tells of what is meant
told-fault : (at : ℕ) (m : Meant) (e : ValueFault) → ◌≡◌ {A = Result ℕ ValueFault} (Err e) (end_of at m) → m ≡ Err e
told-fault at (Ok s) e h = absurd (cc)
told-fault at (Err fault) e h = cc

told-bytes : (at : ℕ) (m : Meant) (n : ℕ) → ◌≡◌ {A = Result ℕ ValueFault} (Ok n) (end_of at m) → (s : List ℕ) × ((m ≡ Ok s) × (n ≡ at + length s))
told-bytes at (Ok s) n h = (s, (refl, cc))
told-bytes at (Err fault) n h = absurd (cc)

module _ {m : Meant} {s after : List ℕ} where
  reads-fault : (e : ValueFault) → m ≡ Err e → Reads m (Err e) s after
  reads-fault e is = record { told = ap length_of (sym is); left = λ t z. absurd (cc) }

  reads-bytes : (t : List ℕ) {n : ℕ} → m ≡ Ok t → n ≡ length t → after ≡ written t s → Reads m (Ok n) s after
  reads-bytes t {n} is g l =
      record {
        told = ap {B = Result ℕ ValueFault} (λ (k : ℕ). Ok k) g ∙ ap length_of (sym is);
        left = λ u z. let e : t ≡ u = cc in l ∙ ap (λ (v : List ℕ). written v s) e;
      }

-- ---- after a fault the answer stays; without one the reading goes on
module _ {m : Meant} (next : List ℕ → Meant) where
  stands : (e : ValueFault) → m ≡ Err e → onward m next ≡ Err e
  unfolding onward
  stands e h = rw h

  goes_on : (s : List ℕ) → m ≡ Ok s → onward m next ≡ next s
  unfolding onward
  goes_on s h = rw h

-- ---- the first n pieces are put, and no byte after them is changed
pub record Joining (w last out₀ out : List ℕ) (n len : ℕ) : Type 0 where
  pub there : List ℕ
  pub long : len ≡ length there
  pub fits : len ≤ length out₀
  pub kept : out ≡ overwrite out₀ 0 there
  pub rest : joined last (length out₀) [] (pieces_in w) ≡ joined last (length out₀) there (drop n (slice_split is_dot w))

pub joining-none : (w last out : List ℕ) → Joining w last out out 0 0
joining-none w last out =
    record { there = []; long = refl; fits = omega arith; kept = refl; rest = ap (joined last (length out) []) (pieces-split w) }

module _ {w last out₀ out : List ℕ} {n len : ℕ} (j : Joining w last out₀ out n len) where
  pub same-long : length out ≡ length out₀
  same-long = ap length j.kept ∙ length-overwrite out₀ 0 j.there (omega (arith, j.long, j.fits))

  -- no piece is left
  pub ended : n ≡ length (slice_split is_dot w) → Reads (joined last (length out₀) [] (pieces_in w)) (Ok len) out₀ out
  ended h =
      reads-bytes j.there (j.rest ∙ at_drop_all (joined last (length out₀) j.there) (slice_split is_dot w) n (omega (arith, h))) j.long
      (j.kept ∙ overwrite-start out₀ j.there)

  -- the next piece p is put
  module _ {p : List ℕ} {answer : Result ℕ ValueFault} {after : List ℕ}
      (t : (n < length (slice_split is_dot w)) × (p ≡ get_or (slice_split is_dot w) n p))
      (q : Puts (within (length out - len) (piece_of last p)) len answer out after) where
    abbrev m : Meant
    m = within (length out - len) (piece_of last p)

    abbrev left : List (List ℕ)
    left = drop (n + 1) (slice_split is_dot w)

    abbrev later : List ℕ → Meant
    later s = joined last (length out₀) (j.there ++ s) left

    next : joined last (length out₀) [] (pieces_in w) ≡ onward m later
    next =
        j.rest
        ∙ at_drop_more (joined last (length out₀) j.there) (slice_split is_dot w) n p t.0
        ∙ ap (λ (x : List ℕ). joined last (length out₀) j.there (x ∷ left)) (sym t.1)
        ∙ ap (λ (k : ℕ). onward (within k (piece_of last p)) later)
        (let e : length out₀ - length j.there ≡ length out - len = omega (arith, same-long, j.long) in e)

    pub refused : (e : ValueFault) → answer ≡ Err e → Reads (joined last (length out₀) [] (pieces_in w)) (Err e) out₀ after
    refused e h = reads-fault e (next ∙ stands later e (told-fault len m e (sym h ∙ q.told)))

    pub joining-more : (end : ℕ) → answer ≡ Ok end → Joining w last out₀ after (n + 1) end
    joining-more end h = record {
      there = j.there ++ it.0;
      long = omega (arith, it.1.1, length-append j.there it.0, j.long);
      fits = omega (arith, fits_all, it.1.1);
      kept =
          q.left it.0 it.1.0
          ∙ ap (λ (u : List ℕ). overwrite u len it.0) j.kept
          ∙ overwrite-next out₀ 0 len j.there it.0 (omega (arith, j.long)) fits_all;
      rest = next ∙ goes_on later it.0 it.1.0;
    }
      where
        it : (s : List ℕ) × ((m ≡ Ok s) × (end ≡ len + length s))
        it = told-bytes len m end (sym h ∙ q.told)

        fits_all : len + length it.0 ≤ length out₀
        fits_all = omega (arith, within-fits (length out - len) (piece_of last p) it.0 it.1.0, same-long, j.fits)

-- ---- a word
module _ (last w : List ℕ) (room : ℕ) {s : List ℕ} where
  pub reads_none : same_bytes w (45 ∷ []) ≡ true → Reads (meaning last w room) (Ok 0) s s
  unfolding meaning
  reads_none e = rw e (reads-bytes [] refl refl refl)

  pub reads-pieces : {answer : Result ℕ ValueFault} {after : List ℕ} → same_bytes w (45 ∷ []) ≡ false
      → Reads (joined last room [] (pieces_in w)) answer s after → Reads (meaning last w room) answer s after
  unfolding meaning
  reads-pieces e r = rw e r
