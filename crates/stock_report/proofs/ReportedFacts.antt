-- The report's fields one after the other, and what the report did in each of its three answers. Assumes nothing.
use mathlib.Core.Path.{◌≡◌, refl, sym, ap, subst, ◌∙◌}
use mathlib.Core.Bool.{true, false}
use mathlib.Core.List.{List, [], ◌∷◌, ◌++◌}
use Prim.Native.Nat.{ℕ, ◌+◌, ◌≤◌, ◌<◌}
use native.Mathlib.Omega.{arith}
use lib.ListN.{length, take, get_or}
use lib.Seq.{take_all}
use borrow.Author.Tests.{lt-ltb, le-ltb}
use Rattle.octets.proofs.Lists.{overwrite-start}
use Rattle.refusals.specs.Refusals.{no_refusal, unsound, no_room}
use Rattle.record_rules.specs.Fields.{Field, record_field, encode_all}
use Rattle.record_fields.specs.Put.{Put}
use Rattle.record_fields.proofs.Chain.{put_then}
use Rattle.stock_rules.specs.Counts.{is_count}
use Rattle.stock_rules.specs.Report.{bytes_of, first_tag, number_fields, report_fields, report_of, report_room, report_refusal, report_bytes}
use Rattle.stock_rules.proofs.ReportFacts.{fields-more}
use Rattle.stock_report.specs.Reported.{Reported}

-- ---- no number yet, one number more, and all
pub put-none : (c b : List ℕ) → Put (report_fields (take 0 c)) 0 b 0 b
unfolding number_fields encode_all
put-none c b = record { place = refl; bytes = refl }

pub put-more : (c : List ℕ) (i tag : ℕ) (x : List ℕ) {at next : ℕ} {b m a : List ℕ} → i < length c → tag ≡ first_tag + i → x ≡ bytes_of (get_or c i 0)
    → Put (report_fields (take i c)) 0 b at m → Put (record_field tag x ∷ []) at m next a → next ≤ length b
    → Put (report_fields (take (i + 1) c)) 0 b next a
put-more c i tag x {at} {next} {b} {m} {a} h e g p q fits =
    subst (λ (fs : List Field). Put fs 0 b next a)
    (ap (λ (y : List ℕ). report_fields (take i c) ++ (record_field tag y ∷ [])) g ∙ sym (fields-more first_tag c i h tag e))
    (put_then p q fits)

pub put_all : (c : List ℕ) (i : ℕ) {at : ℕ} {b a : List ℕ} → length c ≤ i → Put (report_fields (take i c)) 0 b at a → Put (report_fields c) 0 b at a
put_all c i {at} {b} {a} h p = subst (λ (d : List ℕ). Put (report_fields d) 0 b at a) (take_all i c h) p

-- ---- the three answers
pub reported-unsound : (c b : List ℕ) → is_count c ≡ false → Reported c (record { refusal = unsound; count = 0 }) b b
unfolding report_refusal report_bytes
reported-unsound c b e = record { told = rw e; left = rw e }

pub reported-small : (c b : List ℕ) → is_count c ≡ true → length b < report_room → Reported c (record { refusal = no_room; count = 0 }) b b
unfolding report_refusal report_bytes
reported-small c b e h = record { told = rw (e, lt-ltb _ _ h); left = rw (e, lt-ltb _ _ h) }

pub reported-whole : (c b a : List ℕ) (n : ℕ) → is_count c ≡ true → report_room ≤ length b → Put (report_fields c) 0 b n a
    → Reported c (record { refusal = no_refusal; count = n }) b a
unfolding report_refusal report_bytes report_of
reported-whole c b a n e h p = record {
  told = rw (e, le-ltb _ _ h) (ap (λ (k : ℕ). record { refusal = no_refusal; count = k }) (p.place ∙ omega arith));
  left = rw (e, le-ltb _ _ h) (p.bytes ∙ overwrite-start b (report_of c));
}
