use Rattle.canon_texts.proofs.PlainFronts.{unescaped_front}
use Rattle.canon_texts.proofs.escapes.plain_front.Goals as goal

pub returns-in-Text-clause-same : goal.returns-in-Text-clause-same
returns-in-Text-clause-same c =
    rw c.in-Text.is (unescaped_front c.args.bytes.now c.unescaped_front.result c.unescaped_front.ensures.bound c.unescaped_front.ensures.pass)
