use Rattle.std.proofs.Common.{◌∙◌, ap}
use Rattle.std.specs.Str.{chars}
use Rattle.doc_spans.specs.Seen.{document_in}
use Rattle.prepared_documents.specs.Tests.{is_taken}
use Rattle.augmenter.proofs.TakenTexts.{reference_chars}
use Rattle.augmenter.proofs.taken.is_reference_taken.Goals as goal

pub returns : goal.returns
returns c = λ doc of.
    c.is_taken.ensures doc of ∙ ap (λ x. is_taken (document_in doc) (chars x)) (c.as_str.ensures.value ∙ c.in_ok-identifier.ensures)
    ∙ ap (is_taken (document_in doc)) (reference_chars c.args.id.now c.format.result.now c.args.k c.utf8.id c.format.ensures.ascii c.format.ensures.text)
