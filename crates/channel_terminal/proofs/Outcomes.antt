-- What SEAL gives in each case, and that a refusal with its number, no byte written and the session given is what a definition gives that
-- refuses.
-- Assumes nothing.
use mathlib.Core.Path.{◌≡◌, sym, ap, ◌∙◌}
use mathlib.Core.List.{List}
use Prim.Native.Nat.{ℕ, ◌≤◌, ◌<◌}
use borrow.Author.Tests.{lt-ltb, le-ltb}
use lib.ListN.{length}
use Rattle.octets.specs.Bytes.{written}
use Rattle.refusals.specs.Refusals.{no_refusal, no_room, data_long, seal_room, data_most}
use Rattle.channel_rules.specs.declared.Session.{Session}
use Rattle.channel_rules.specs.Message.{with_iv, command_head, field_mac}
use Rattle.channel_rules.specs.Terminal.{Out, refused, sealed_command, seal_out}
use Rattle.channel_terminal.specs.declared.Outcome.{Outcome}
use Rattle.channel_terminal.specs.Did.{Did}

pub did-refuse : (o : Out) (s : Session) (n : ℕ) (r : Outcome) (before : List ℕ) → o ≡ refused s n → r.refusal ≡ n → r.count ≡ 0 → r.session ≡ s
    → Did o r before before
did-refuse o s n r before e er ec es =
    record {
      refusal = er ∙ sym (ap (λ (x : Out). x.refusal) e);
      count = ec ∙ sym (ap (λ (x : Out). length x.bytes) e);
      session = es ∙ sym (ap (λ (x : Out). x.session) e);
      left = sym (ap (λ (x : Out). written x.bytes before) e);
    }

-- ---- SEAL
module _ (s : Session) (header d : List ℕ) (room : ℕ) where
  pub seal-no-room : room < seal_room → seal_out s header d room ≡ refused s no_room
  unfolding seal_out
  seal-no-room h = rw (lt-ltb room seal_room h)

  pub seal-too-long : seal_room ≤ room → data_most < length d → seal_out s header d room ≡ refused s data_long
  unfolding seal_out
  seal-too-long h l = rw (le-ltb room seal_room h, lt-ltb data_most (length d) l)

  pub seal-done : seal_room ≤ room → length d ≤ data_most
      → seal_out s header d room ≡ record { refusal = no_refusal; session = with_iv s (field_mac s (command_head header) d); bytes = sealed_command s header d }
  unfolding seal_out
  seal-done h l = rw (le-ltb room seal_room h, le-ltb data_most (length d) l)
