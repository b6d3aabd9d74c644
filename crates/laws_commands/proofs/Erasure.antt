-- Cards, replies and answers with PIN and PUK put away.
-- Assumes nothing.
use mathlib.Core.Path.{◌≡◌, refl, sym, ap, ◌∙◌}
use mathlib.Core.Bool.{Bool, true, false, ◌&&◌, cond}
use mathlib.Core.List.{[]}
use lib.Dec.{eqb}
use Rattle.card.specs.declared.Card.{Card}
use Rattle.card.specs.State.{with_secrets}
use Rattle.rules.specs.Words.{Reply}
use Rattle.rules.specs.Channel.{plainly, sealed, tell}
use Rattle.laws_commands.specs.Lawful.{erase_reply, erase_out}

-- ---- conditions
module _ {A B : Type 0} (f : A → B) where
  pub cond_map : (b : Bool) (x y : A) → cond b (f x) (f y) ≡ f (cond b x y)
  cond_map true x y = refl
  cond_map false x y = refl

  pub cond_same : (b : Bool) {x x' y y' : A} → f x ≡ f x' → f y ≡ f y' → f (cond b x y) ≡ f (cond b x' y')
  cond_same true p q = p
  cond_same false p q = q

-- ---- how an answer goes out does not look at PIN and PUK
tell-blind : (over : Bool) (r : Reply) → tell over (erase_reply r) ≡ erase_out (tell over r)
unfolding tell
tell-blind over r = cond_map erase_out (over && eqb r.card.channel.stage 2) (sealed r) (plainly r)

pub told_same : (over : Bool) (r r' : Reply) → erase_reply r ≡ erase_reply r' → erase_out (tell over r) ≡ erase_out (tell over r')
told_same over r r' e = sym (tell-blind over r) ∙ ap (tell over) e ∙ tell-blind over r'
