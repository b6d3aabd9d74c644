-- The bytes of each word, in the words' order.
-- Assumes nothing.
use Rattle.std.proofs.Common.{rules, tests}
use mathlib.Core.Path.{◌≡◌, ap, ◌∙◌}
use mathlib.Core.List.{map}
use Rattle.std.specs.List.{flat_map}
use Rattle.octets.proofs.Made.{mapped_by}
use Rattle.aes_words.specs.Words.{word_bytes}
use Rattle.aes_words.proofs.Words.{flat_words}
use Rattle.aes_words.proofs.block_bytes.Goals as goal

pub returns : goal.returns
returns c = let each : c.map-words.result ≡ map word_bytes c.args.s =
    mapped_by _ word_bytes _ c.args.s c.map-words.result 0 _ (search rules) c.map-words.ensures.items (λ x r q e. search (rules, tests)) in
    let whole : c.unwrap.result.now ≡ c.as_flattened.result.now = search rules in
    whole ∙ c.as_flattened.ensures.value ∙ ap (flat_map (λ x. x)) each ∙ flat_words c.args.s
