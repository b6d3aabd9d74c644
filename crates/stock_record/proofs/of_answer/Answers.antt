-- The eleven numbers are what the rows say, each by the call that gave it.
-- Assumes nothing.
use mathlib.Core.Path.{ap, ◌∙◌}
use mathlib.Core.Bool.{cond}
use Prim.Native.Nat.{ℕ}
use Rattle.stock_rules.specs.Rows.{is_initialised, rows}
use Rattle.stock_record.proofs.EachFacts.{each_row}
use Rattle.stock_record.proofs.of_answer.Goals as goal

pub returns : goal.returns
returns c = let a = c.args.answer in
    each_row rows a _ (
      c.only.ensures,
      (
        c.only-2.ensures,
        (
          c.only-3.ensures,
          (
            c.one_at.ensures,
            (
              c.one_at-2.ensures,
              (
                c.one_at-3.ensures,
                (
                  c.one_at-4.ensures,
                  (
                    c.one_at-5.ensures,
                    (
                      c.one_at-6.ensures,
                      (
                        c.one_at-7.ensures,
                        (c.only-4.ensures ∙ ap (λ (n : ℕ). cond (is_initialised a) n 0) c.used_slots-used.ensures, tt),
                      ),
                    ),
                  ),
                ),
              ),
            ),
          ),
        ),
      ),
    )
