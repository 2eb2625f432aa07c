use Rattle.std.proofs.Common.{◌∷◌, [], ◌++◌, ap, ◌∙◌}
use Rattle.word_patterns.specs.Grammar.{texts_behind}
use Rattle.word_patterns.proofs.TextsBehind.{one_more}
use Rattle.word_patterns.proofs.lookup.texts_behind.Goals as goal

pub loop-word-preserved : goal.loop-word-preserved
loop-word-preserved c =
    c.in_ok-put_behind.ensures ∙ ap (λ front. front ++ texts_behind c.args.key.now (c.as_str.result.now ∷ [])) c.loop-word.invariant
    ∙ one_more c.args.key.now c.as_str.result.now c.args.words.now c.loop-word.word-index c.word-item.result c.loop-word-test.true c.word-item.is c.as_str.ensures.value
