-- What the report promises of a buffer (RULES 10.6): `before` and `after` are its bytes, all lengths are in bytes.
use Rattle.std.specs.Prelude.{ℕ, ◌≡◌, List, length}
use Rattle.octets.specs.Bytes.{written}
use Rattle.record_write.specs.declared.Written.{Written}
use Rattle.stock_rules.specs.Report.{report_refusal, report_bytes}

-- the refusal's number and the count of bytes as the definition gives them, and its bytes from the buffer's start
pub record Reported (c : List ℕ) (r : Written) (before after : List ℕ) : Type 0 where
  pub told : r ≡ record { refusal = report_refusal c (length before); count = length (report_bytes c (length before)) }
  pub left : after ≡ written (report_bytes c (length before)) before
