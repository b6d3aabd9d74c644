-- What an opening's answer says of the option that it means, and of the field. Lengths are in bytes.
-- Assumes nothing.
use mathlib.Core.Path.{◌≡◌, refl, sym, ◌∙◌}
use mathlib.Core.List.{List}
use mathlib.Core.Option.{Option, none, some}
use Prim.Native.Nat.{ℕ, ◌-◌, ◌≤◌}
use native.Mathlib.Omega.{arith}
use lib.ListN.{length}
use Rattle.channel_rules.specs.declared.Session.{Session}
use Rattle.std.specs.Prelude as rust
use Rattle.channel_rules.specs.Message.{field_form, opened, open_field, opening_of}
use Rattle.channel_rules.proofs.Fields.{provided-some, form-is}
use Rattle.channel_open.specs.Promise.{Opens}

pub closed : (o : Option (List ℕ)) → rust.None ≡ opening_of o → o ≡ none
closed none e = refl
closed (some x) e = let z : ◌≡◌ {A = ℕ} 0 1 = cc in absurd (omega arith)

pub record Holds (o : Option (List ℕ)) (n : ℕ) : Type 0 where
  pub plain : List ℕ
  pub is : o ≡ some plain
  pub long : length plain ≡ n

pub holds : (o : Option (List ℕ)) (n : ℕ) → rust.Some n ≡ opening_of o → Holds o n
holds none n e = let z : ◌≡◌ {A = ℕ} 0 1 = cc in absurd (omega arith)
holds (some x) n e = record { plain = x; is = refl; long = cc }

-- the opened length is at most 223, and the field at least 32
pub held-short : (o : Option (List ℕ)) (n : ℕ) (r : rust.Option ℕ) (scratch : List ℕ) → Opens o r scratch → r ≡ rust.Some n → n ≤ 223
held-short o n r scratch p e =
    let h : Holds o n = holds o n (sym e ∙ p.told) in
    omega (arith, h.long, p.short h.plain h.is)

module _ (s : Session) (head : ℕ → List ℕ) (field : List ℕ) where
  opens-long : (x : List ℕ) → open_field s head field ≡ some x → 32 ≤ length field
  unfolding open_field
  opens-long x e =
      (form-is (length field) (provided-some (field_form (length field)) (opened s (head (length field - 16)) field) x e)).low

  pub field-long : (n : ℕ) (r : rust.Option ℕ) (scratch : List ℕ) → Opens (open_field s head field) r scratch → r ≡ rust.Some n → 32 ≤ length field
  field-long n r scratch p e =
      let h : Holds (open_field s head field) n = holds (open_field s head field) n (sym e ∙ p.told) in
      opens-long h.plain h.is
