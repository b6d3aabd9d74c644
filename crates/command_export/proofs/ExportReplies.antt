-- The reply of EXPORT, from what the code's calls give.
-- Assumes nothing.
use mathlib.Core.Path.{◌≡◌, refl, ap, ◌∙◌}
use mathlib.Core.Bool.{true, false}
use mathlib.Core.List.{List}
use Prim.Native.Nat.{ℕ}
use Rattle.template_rules.specs.Writing.{Wrote}
use Rattle.card.specs.declared.Keys.{Keys}
use Rattle.card.specs.declared.Card.{Card}
use Rattle.card.specs.State.{with_keys}
use Rattle.rules.specs.declared.ExportPath.{ExportPath}
use Rattle.rules.specs.declared.ExportPart.{ExportPart}
use Rattle.rules.specs.declared.Replied.{Replied}
use Rattle.rules.specs.Words.{success, reference_invalid, fails}
use Rattle.rules.specs.Code.{replied_of, Replies}
use Rattle.rules.specs.Supplies.{says_yes}
use Rattle.rules.specs.Commands.{exported_keys, keys_after_export, export_reply}
use Rattle.command_parts.specs.Replies.{said}
use Rattle.command_parts.proofs.ReplyFacts.{wrote-replies, silent}

-- ---- export_reply: keys, next, r and b are what the calls that make them give
module _ (c : Card) (which : ExportPath) (what : ExportPart) (d s : List ℕ) {r : Replied} {a : List ℕ} where
  pub export-no : says_yes s ≡ false → r ≡ replied_of (fails c reference_invalid) → Replies (export_reply c which what d s) r a a
  unfolding export_reply
  export-no e er = rw e (silent (fails c reference_invalid) refl er)

  pub export-yes : {b : List ℕ} {n : ℕ} (keys : Keys) (next : Card) → says_yes s ≡ true → Wrote (exported_keys what s) 0 n a b
      → keys ≡ keys_after_export which c.keys d → next ≡ with_keys c keys → r ≡ said success n next
      → Replies (export_reply c which what d s) r a b
  unfolding export_reply
  export-yes keys next e w ek en er = rw e (wrote-replies next _ er (en ∙ ap (with_keys c) ek) w)
