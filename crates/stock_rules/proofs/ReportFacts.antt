-- The report: how long it is, in bytes, one number more, and that four bytes say their number. Assumes nothing.
use mathlib.Core.Path.{◌≡◌, refl, ap, ◌∙◌}
use mathlib.Core.List.{List, [], ◌∷◌, ◌++◌}
use Prim.Native.Nat.{ℕ, zero, suc, ◌+◌, ◌*◌, ◌/◌, ◌%◌, ◌<◌}
use native.Mathlib.Numerals.{add-one}
use native.Mathlib.Nat.{div-div-eq-div-mul}
use native.Mathlib.Omega.{arith}
use lib.ListN.{length, take, get_or, length-append}
use lib.Seq.{take-suc, length-take-le}
use Rattle.record_rules.specs.Fields.{Field, record_field, encode, encode_all}
use Rattle.record_rules.specs.Lengths.{record_field_bytes}
use Rattle.stock_rules.specs.Counts.{number_count}
use Rattle.stock_rules.specs.Report.{number_bytes, bytes_of, first_tag, number_fields, report_fields, report_of, report_room}

-- ---- bytes_of
-- a number is its higher bytes and its lowest
low : (n k : ℕ) → n / 256 ≡ k → k * 256 + n % 256 ≡ n
low n k e = omega arith

pub bytes-say : (n : ℕ) → n < 4294967296
    → ((get_or (bytes_of n) 0 0 * 256 + get_or (bytes_of n) 1 0) * 256 + get_or (bytes_of n) 2 0) * 256 + get_or (bytes_of n) 3 0 ≡ n
bytes-say n h =
    ap (λ (k : ℕ). ((k * 256 + n / 65536 % 256) * 256 + n / 256 % 256) * 256 + n % 256) high
    ∙ ap (λ (k : ℕ). (k * 256 + n / 256 % 256) * 256 + n % 256) (low (n / 65536) (n / 16777216) (div-div-eq-div-mul n 65536 256))
    ∙ ap (λ (k : ℕ). k * 256 + n % 256) (low (n / 256) (n / 65536) (div-div-eq-div-mul n 256 256))
    ∙ low n (n / 256) refl
  where
    high : n / 16777216 % 256 ≡ n / 16777216
    high = omega arith

-- ---- number_fields: one number more, and the length
fields-append : (t : ℕ) (c d : List ℕ) → number_fields t (c ++ d) ≡ number_fields t c ++ number_fields (t + length c) d
unfolding number_fields
fields-append t [] d = ap (λ (k : ℕ). number_fields k d) (omega arith)
fields-append t (n ∷ c) d =
    ap (λ (r : List Field). record_field t (bytes_of n) ∷ r)
    (fields-append (suc t) c d ∙ ap (λ (k : ℕ). number_fields (suc t) c ++ number_fields k d) (omega arith))

pub fields-more : (t : ℕ) (c : List ℕ) (i : ℕ) → i < length c → (m : ℕ) → m ≡ t + i
    → number_fields t (take (i + 1) c) ≡ number_fields t (take i c) ++ (record_field m (bytes_of (get_or c i 0)) ∷ [])
unfolding number_fields
fields-more t c i h m e =
    ap (number_fields t) (ap (λ (k : ℕ). take k c) (add-one i) ∙ take-suc c i 0 h)
    ∙ fields-append t (take i c) (get_or c i 0 ∷ [])
    ∙ ap (λ (k : ℕ). number_fields t (take i c) ++ (record_field k (bytes_of (get_or c i 0)) ∷ [])) (omega (arith, length-take-le i c (omega arith)))

fields-long : (t : ℕ) (c : List ℕ) → length (encode_all (number_fields t c)) ≡ length c * record_field_bytes number_bytes
unfolding number_fields encode_all
fields-long t [] = refl
fields-long t (n ∷ c) = omega (arith, length-append (encode t (bytes_of n)) (encode_all (number_fields (suc t) c)), fields-long (suc t) c)

-- ---- the report has 77 bytes
pub report-long : (c : List ℕ) → length c ≡ number_count → length (report_of c) ≡ report_room
unfolding report_of
report-long c h = fields-long first_tag c ∙ ap (λ (n : ℕ). n * record_field_bytes number_bytes) h
