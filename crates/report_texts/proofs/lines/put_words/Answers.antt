use Rattle.report_texts.proofs.WrittenLines.{words_end, words_more}
use Rattle.report_texts.proofs.lines.put_words.Goals as goal

pub loop-word-preserved : goal.loop-word-preserved
loop-word-preserved c = words_more c.args.words.now c.loop-word.word-index _ _ _ _ _ c.loop-word-test.true c.in_ok-push_all.ensures.ok c.in_ok-push_all-2.ensures.ok c.loop-word.invariant

pub returns : goal.returns
returns c = words_end c.args.words.now c.loop-word.word-index _ _ c.loop-word-test.false c.loop-word.invariant
