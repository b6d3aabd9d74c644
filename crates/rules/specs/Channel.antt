-- The card's end of the channel (RULES 8.1), and how an answer goes out (RULES 5.7).
use Rattle.std.specs.Prelude.{ℕ, Bool, ◌&&◌, cond, List, ◌++◌, eqb}
use Rattle.channel_rules.specs.declared.Session.{Session}
use Rattle.channel_rules.specs.Message.{response_head, field_mac}
use Rattle.channel_rules.specs.Terminal.{sealed_response}
use Rattle.card.specs.declared.Channel.{Channel}
use Rattle.card.specs.declared.Card.{Card}
use Rattle.card.specs.State.{with_channel}
use Rattle.rules.specs.Words.{word, Reply}

abbrev pub session_of : Channel → Session
session_of k = record { enc_key = k.enc_key; mac_key = k.mac_key; iv = k.iv }

-- the MAC of the latest message sealed or opened is the next IV (RULES 8.1)
abbrev pub with_mac : Card → List ℕ → Card
with_mac c mac = with_channel c (record {
  stage = c.channel.stage;
  enc_key = c.channel.enc_key;
  mac_key = c.channel.mac_key;
  iv = mac;
})

-- ---- an answer as it goes out (RULES 5.7): its bytes, and the card that it leaves
pub record Outgoing : Type 0 where
  pub bytes : List ℕ
  pub card : Card

-- plain: the response data, then the status word
abbrev pub plain_text : Reply → List ℕ
plain_text r = r.response ++ word r.status

abbrev pub plainly : Reply → Outgoing
plainly r = record { bytes = plain_text r; card = r.card }

-- sealed (RULES 8.5): both together, under the session of the card that is left
abbrev pub sealed : Reply → Outgoing
sealed r = record {
  bytes = sealed_response (session_of r.card.channel) (plain_text r);
  card = with_mac r.card (field_mac (session_of r.card.channel) response_head (plain_text r));
}

-- an answer is sealed where the command came over the channel and the card that is left is in stage 2; otherwise it is plain (RULES 5.7)
unfoldable pub tell : Bool → Reply → Outgoing
tell over r = cond (over && eqb r.card.channel.stage 2) (sealed r) (plainly r)
