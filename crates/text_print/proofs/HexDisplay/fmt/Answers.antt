-- `Hex` writes what it says: one more byte is written as its two digits.
-- Assumes nothing.
use Rattle.std.proofs.Common.{◌≡◌, ℕ, List, [], ◌∷◌, ◌++◌, ◌+◌, ◌/◌, ◌%◌, ◌<◌, ◌-◌, ◌^◌, arith, true, false, length, take, get_or, sym, add-one, rules}
use Rattle.std.proofs.Math.Seq.{take-suc}
use Rattle.std.proofs.Output.{has_written_append, has_written_of_eq}
use Rattle.std.proofs.lemmas.Grind.{flat_map-append}
use Rattle.std.proofs.lemmas.Fmt.{hex_byte}
use Rattle.std.specs.Fmt.{digits, digit_glyph, padded_integral, format_spec}
use Rattle.text_print.specs.Text.{hex}
use Rattle.text_print.proofs.HexDisplay.fmt.Goals as goal

-- the digits of one byte more
more : (s : List ℕ) (i : ℕ) → i < length s → get_or s i 0 < 256
    → hex (take i s) ++ padded_integral (format_spec 32 0 4 2 (2 ^ 64 - 1)) false [] (digits 16 true (get_or s i 0)) ≡ hex (take (i + 1) s)
more s i h b = rw (hex_byte true (get_or s i 0) b, add-one, take-suc s i 0 h) (sym (flat_map-append (λ b'. digit_glyph true (b' / 16) ∷ digit_glyph true (b' % 16) ∷ []) (take i s) (get_or s i 0 ∷ [])))

pub loop-b-preserved : goal.loop-b-preserved
loop-b-preserved g c = λ p. has_written_of_eq _ _ _ _ _ (more c.args.self.now.0.now c.loop-b.b-index (omega arith) (search rules))
    (has_written_append _ _ _ _ _ _ (c.loop-b.invariant p) (search rules))
