-- The reader's tests, in their order, are those of specs/Keypair.antt.
-- Assumes nothing.
use mathlib.Core.Path.{◌≡◌, refl, sym, ap, ◌∙◌}
use mathlib.Core.Bool.{Bool, true, false, ◌||◌}
use mathlib.Core.List.{List, []}
use Prim.Native.Nat.{ℕ, ◌+◌, ◌-◌, ◌≤◌}
use native.Mathlib.Decide.{dec_lt}
use native.Mathlib.Omega.{arith}
use lib.Dec.{eqb}
use lib.ListN.{length, take, drop, length-drop}
use borrow.Author.Tests.{eq-eqb, ne_eqb}
use Rattle.template_rules.specs.declared.Head.{Head}
use Rattle.std.specs.Prelude.{Option}
use Rattle.template_rules.specs.Template.{head_of, read_head, tag_of, begins_with}
use Rattle.template_rules.proofs.HeadFacts.{head-facts, begins-facts}
use Rattle.template_rules.proofs.Parts.{part-from}
use Rattle.template_keypair.specs.Keypair.{exactly, private_fields, keypair_fields, keypair_with, keypair}

-- ---- exactly
-- nothing is left after n bytes exactly where there are n
pub none-behind : (n : ℕ) (s : List ℕ) → n ≤ length s → eqb (length s) n ≡ exactly [] (drop n s)
none-behind n s h =
    elim (dec_lt n (length s)) [
      | yes p ↦ ne_eqb (length s) n (λ e. omega arith) ∙ sym (ne_eqb (length (drop n s)) 0 (λ e. omega (arith, length-drop n s)))
      | no p ↦ eq-eqb (length s) n (omega arith) ∙ sym (eq-eqb (length (drop n s)) 0 (omega (arith, length-drop n s)))
    ]

-- ---- private_fields, by the two fields that may follow
module _ (s : List ℕ) where
  pub not-private : (chain : Bool) → begins_with 0x81 32 s ≡ false → false ≡ exactly (private_fields chain) s
  not-private chain e = sym (rw e)

  pub private-alone : (chain : Bool) → begins_with 0x81 32 s ≡ true → chain ≡ false
      → eqb (length (take (length s - 34) (drop 34 s))) 0 ≡ exactly (private_fields chain) s
  private-alone chain e f = rw (e, f, part-from 34 s)

  module _ (chain : Bool) (e : begins_with 0x81 32 s ≡ true) (f : chain ≡ true) where
    pub not-chain : begins_with 0x82 32 (take (length s - 34) (drop 34 s)) ≡ false → false ≡ exactly (private_fields chain) s
    not-chain g = sym (rw (e, f, sym (ap (begins_with 0x82 32) (part-from 34 s)) ∙ g))

    pub private-and-chain : begins_with 0x82 32 (take (length s - 34) (drop 34 s)) ≡ true
        → eqb (length (take (length s - 34) (drop 34 s))) 34 ≡ exactly (private_fields chain) s
    private-and-chain g =
        let h : begins_with 0x82 32 (drop 34 s) ≡ true = sym (ap (begins_with 0x82 32) (part-from 34 s)) ∙ g in
        ap (λ (t : List ℕ). eqb (length t) 34) (part-from 34 s)
        ∙ none-behind 34 (drop 34 s) (begins-facts 0x82 32 (drop 34 s) h).2
        ∙ sym (rw (e, f, h))

-- ---- keypair_fields
or-false : (b : Bool) → (b || false) ≡ b
or-false true = refl
or-false false = refl

-- no field begins with two tags
one_tag : (s : List ℕ) → begins_with 0x80 65 s ≡ true → (b : Bool) → begins_with 0x81 32 s ≡ b → b ≡ false
one_tag s e true f = absurd (omega (arith, (begins-facts 0x80 65 s e).0, (begins-facts 0x81 32 s f).0))
one_tag s e false f = refl

module _ (chain : Bool) (s : List ℕ) where
  pub with-public : begins_with 0x80 65 s ≡ true → keypair_fields chain s ≡ exactly (private_fields chain) (drop 67 s)
  with-public e = rw (e, one_tag s e (begins_with 0x81 32 s) refl) (or-false (exactly (private_fields chain) (drop 67 s)))

-- ---- keypair, by the head r that has been read
module _ (chain : Bool) (s : List ℕ) (r : Option Head) (e : r ≡ read_head s) where
  module _ (h n : ℕ) (g : r ≡ head_of h n) where
    read : keypair chain s ≡ keypair_with chain s (head_of h n)
    read = ap (keypair_with chain s) (sym e ∙ g)

    module _ (p : tag_of s ≡ 0xA1) where
      module _ (q : n ≡ length s - h) where
        value-is : keypair chain s ≡ keypair_fields chain (drop h s)
        value-is = read ∙ rw (eq-eqb (tag_of s) 0xA1 p, eq-eqb (h + n) (length s) (omega (arith, head-facts s r h n e g)))

        abbrev pub v : List ℕ
        v = take (length s - h) (drop h s)

        pub keypair-with : (b : Bool) → begins_with 0x80 65 v ≡ true
            → b ≡ exactly (private_fields chain) (take (length v - 67) (drop 67 v)) → b ≡ keypair chain s
        keypair-with b t u =
            u ∙ ap (exactly (private_fields chain)) (part-from 67 v) ∙ sym
            (value-is ∙ ap (keypair_fields chain) (sym (part-from h s)) ∙ with-public chain v t)
