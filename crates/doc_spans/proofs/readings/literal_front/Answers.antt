use Rattle.std.proofs.Common.{ap, sym, ◌∙◌}
use Rattle.std.proofs.lemmas.Str.{chars-nil}
use Rattle.std.specs.Str.{chars}
use Rattle.document_model.specs.Characters.{span}
use Rattle.doc_spans.specs.ReadAs.{is_literal}
use Rattle.doc_spans.proofs.LiteralRuns.{all_literal}
use Rattle.doc_spans.proofs.readings.literal_front.Goals as goal

pub returns-in-AsWritten-clause-split : goal.returns-in-AsWritten-clause-split
returns-in-AsWritten-clause-split c =
    ap (λ reading. span (is_literal reading) (chars c.args.text.now)) c.in-AsWritten.is ∙ all_literal (chars c.args.text.now)
    ∙ ap (λ behind. (chars c.args.text.now, behind)) (sym chars-nil)
