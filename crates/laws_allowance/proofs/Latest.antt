-- Where the test takes some call, `from_latest` is the list from the latest such call on; where it takes none, it is empty.
-- Assumes nothing.
use mathlib.Core.Path.{◌≡◌, refl, sym, ap, ◌∙◌}
use mathlib.Core.Bool.{Bool, true, false, ◌||◌, cond, false≢true}
use mathlib.Core.List.{List, [], ◌∷◌}
use Rattle.card.specs.Slots.{some_of}
use Rattle.laws_allowance.specs.Events.{Event}
use Rattle.laws_allowance.specs.History.{from_latest}
use Rattle.laws_allowance.specs.Latest.{Latest}

module _ (t : Event → Bool) where
  -- one of the later calls is the latest; or this one is
  later : (e : Event) (es : List Event) → some_of t es ≡ true → Latest t es → Latest t (e ∷ es)
  unfolding from_latest
  later e es s h = record {
    before = e ∷ h.before;
    latest = h.latest;
    after = h.after;
    cut = ap (λ (x : List Event). e ∷ x) h.cut;
    taken = h.taken;
    last = h.last;
    is = ap (λ (b : Bool). cond b (from_latest t es) (cond (t e) (e ∷ es) [])) s ∙ h.is;
  }

  this : (e : Event) (es : List Event) → some_of t es ≡ false → t e ≡ true → Latest t (e ∷ es)
  unfolding from_latest
  this e es s i = record {
    before = [];
    latest = e;
    after = es;
    cut = refl;
    taken = i;
    last = s;
    is = ap (λ (b : Bool). cond b (from_latest t es) (cond (t e) (e ∷ es) [])) s ∙ ap (λ (b : Bool). cond b (e ∷ es) []) i;
  }

  some_or : (a b : Bool) → (a || b) ≡ true → b ≡ false → a ≡ true
  some_or true b e z = refl
  some_or false b e z = absurd (false≢true (sym z ∙ e))

  pub latest : (es : List Event) → some_of t es ≡ true → Latest t es
  unfolding some_of
  latest [] s = absurd (false≢true s)
  latest (e ∷ es) s = go (some_of t es) refl (latest es)
    where
      go : (b : Bool) → some_of t es ≡ b → (some_of t es ≡ true → Latest t es) → Latest t (e ∷ es)
      go true i h = later e es i (h i)
      go false i h = this e es i (some_or (t e) (some_of t es) s i)

  pub none-latest : (es : List Event) → some_of t es ≡ false → from_latest t es ≡ []
  unfolding some_of from_latest
  none-latest [] s = refl
  none-latest (e ∷ es) s = go (t e) (some_of t es) s
    where
      go : (a b : Bool) → (a || b) ≡ false → cond b (from_latest t es) (cond a (e ∷ es) []) ≡ []
      go true b z = absurd (false≢true (sym z))
      go false true z = absurd (false≢true (sym z))
      go false false z = refl
