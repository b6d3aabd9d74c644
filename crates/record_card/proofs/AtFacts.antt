-- From the place of one field to the place of the next, and what is taken there. Assumes nothing.
use mathlib.Core.Path.{◌≡◌, refl, ap, ◌∙◌}
use mathlib.Core.List.{List}
use Prim.Native.Nat.{ℕ, suc}
use native.Mathlib.Omega.{arith}
use lib.ListN.{drop}
use Rattle.record_rules.specs.Parse.{body, rest, content, fit, path_from, tap_from}
use Rattle.record_spans.specs.Spans.{Behind}
use Rattle.record_card.specs.Taken.{At}

pub at-start : (s : List ℕ) → At s 0 0
at-start s = record { within = omega arith; here = refl }

pub at_next : {s : List ℕ} {k at next : ℕ} → At s k at → Behind s at next → At s (suc k) next
at_next p q = record { within = q.within; here = q.rest ∙ ap rest p.here }

pub fit_at : {s : List ℕ} {k at : ℕ} (n : ℕ) → At s k at → fit n (body (drop at s)) ≡ fit n (content s k)
fit_at n p = ap (λ (l : List ℕ). fit n (body l)) p.here

pub path-at : {s : List ℕ} {k at : ℕ} → At s k at → path_from (body (drop at s)) ≡ path_from (content s k)
path-at p = ap (λ (l : List ℕ). path_from (body l)) p.here

pub tap-at : {s : List ℕ} {k at : ℕ} → At s k at → tap_from (body (drop at s)) ≡ tap_from (content s k)
tap-at p = ap (λ (l : List ℕ). tap_from (body l)) p.here
