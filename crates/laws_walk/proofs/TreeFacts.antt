-- Facts about trees and their encoding (specs/Trees.antt): no bytes are the encoding of two lists of trees, and trees are of bytes exactly if their
-- encoding is.
-- Assumes nothing.
use mathlib.Core.Path.{◌≡◌, refl, sym, ap, ◌∙◌, subst}
use mathlib.Core.Bool.{true, false}
use mathlib.Core.List.{List, ◌++◌}
use Prim.Native.Nat.{ℕ, ◌<◌}
use native.Mathlib.Omega.{arith}
use lib.ListN.{length}
use lib.Seq.{take-append_seam, drop-append_seam}
use Rattle.octets.specs.Bytes.{Bytes}
use Rattle.octets.proofs.Lists.{bytes_take, bytes_drop, bytes-append}
use Rattle.template_rules.specs.Template.{is_template, field_head, field}
use Rattle.template_rules.proofs.HeadFacts.{bytes-head}
use Rattle.laws_walk.specs.Trees.{Trees, none, leaf, template, encode, Lawful, Octets}
use Rattle.laws_walk.proofs.Fields.{same_tag, same-value, same_rest}

-- ---- one to one
-- a tag that marks a template is no other field's
unlike : (a b : ℕ) → a ≡ b → is_template a ≡ false → is_template b ≡ true → ⊥
unlike a b e p q = let z : false ≡ true = sym p ∙ ap is_template e ∙ q in let y : ◌≡◌ {A = ℕ} 0 1 = cc in omega arith

pub encode_one : (ts us : Trees) → Lawful ts → Lawful us → encode ts ≡ encode us → ts ≡ us
encode_one none none l m e = refl
encode_one none (leaf tag v us) l m e = absurd (omega (arith, ap length e))
encode_one none (template tag is us) l m e = absurd (omega (arith, ap length e))
encode_one (leaf tag v ts) none l m e = absurd (omega (arith, ap length e))
encode_one (template tag is ts) none l m e = absurd (omega (arith, ap length e))
encode_one (leaf a v ts) (template b us ws) l m e =
    absurd (unlike a b (same_tag a v (encode ts) b (encode us) (encode ws) l.1 m.1 e) l.0 m.0)
encode_one (template a us ws) (leaf b v ts) l m e =
    absurd (unlike b a (sym (same_tag a (encode us) (encode ws) b v (encode ts) l.1 m.1 e)) m.0 l.0)
encode_one (leaf a v ts) (leaf b w us) l m e =
    let p = same_tag a v (encode ts) b w (encode us) l.1 m.1 e in
    let q = same-value a v (encode ts) b w (encode us) l.1 m.1 e in
    let r = encode_one ts us l.2 m.2 (same_rest a v (encode ts) b w (encode us) l.1 m.1 e) in
    rw (p, q, r)
encode_one (template a is ts) (template b js us) l m e =
    let p = same_tag a (encode is) (encode ts) b (encode js) (encode us) l.1 m.1 e in
    let q = encode_one is js l.2 m.2 (same-value a (encode is) (encode ts) b (encode js) (encode us) l.1 m.1 e) in
    let r = encode_one ts us l.3 m.3 (same_rest a (encode is) (encode ts) b (encode js) (encode us) l.1 m.1 e) in
    rw (p, q, r)

-- ---- bytes
left-bytes : (s t : List ℕ) → Bytes (s ++ t) → Bytes s
left-bytes s t h = subst Bytes (take-append_seam s t) (bytes_take (length s) (s ++ t) h)

right-bytes : (s t : List ℕ) → Bytes (s ++ t) → Bytes t
right-bytes s t h = subst Bytes (drop-append_seam s t) (bytes_drop (length s) (s ++ t) h)

field-bytes : (tag : ℕ) (v : List ℕ) → tag < 256 → length v < 256 → Bytes v → Bytes (field tag v)
field-bytes tag v t b h = bytes-append (field_head tag (length v)) v (bytes-head tag (length v) t b) h

pub octets-encode : (ts : Trees) → Lawful ts → Octets ts → Bytes (encode ts)
octets-encode none l o = tt
octets-encode (leaf tag v ts) l o =
    bytes-append (field tag v) (encode ts) (field-bytes tag v o.0 l.1 o.1) (octets-encode ts l.2 o.2)
octets-encode (template tag is ts) l o =
    bytes-append (field tag (encode is)) (encode ts) (field-bytes tag (encode is) o.0 l.1 (octets-encode is l.2 o.1))
    (octets-encode ts l.3 o.2)

pub encode-octets : (ts : Trees) → Bytes (encode ts) → Octets ts
encode-octets none h = tt
encode-octets (leaf tag v ts) h =
    let f = left-bytes (field tag v) (encode ts) h in
    (f.0, right-bytes (field_head tag (length v)) v f, encode-octets ts (right-bytes (field tag v) (encode ts) h))
encode-octets (template tag is ts) h =
    let f = left-bytes (field tag (encode is)) (encode ts) h in (
      f.0,
      encode-octets is (right-bytes (field_head tag (length (encode is))) (encode is) f),
      encode-octets ts (right-bytes (field tag (encode is)) (encode ts) h),
    )
