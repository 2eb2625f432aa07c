use Rattle.std.proofs.Common.{◌∷◌, [], ◌++◌, map, ap, ◌∙◌}
use Rattle.word_patterns.specs.Keyed.{keyed_texts, key_now}
use Rattle.word_patterns.proofs.KeyedTexts.{one_more}
use Rattle.word_patterns.proofs.keyed.keyed_texts.Goals as goal

pub loop-word-preserved : goal.loop-word-preserved
loop-word-preserved g c =
    c.in_ok-put_keyed.ensures ∙ ap (λ front. front ++ keyed_texts (map key_now c.args.keys.now) (c.as_str.result.now ∷ [])) c.loop-word.invariant
    ∙ one_more (map key_now c.args.keys.now) c.as_str.result.now c.args.words.now c.loop-word.word-index c.word-item.result c.loop-word-test.true c.word-item.is c.as_str.ensures.value
