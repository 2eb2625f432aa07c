use Rattle.std.proofs.Common.{◌∙◌, ap}
use Rattle.std.specs.Str.{chars}
use Rattle.doc_spans.specs.Seen.{document_in}
use Rattle.prepared_documents.specs.Tests.{is_taken}
use Rattle.augmenter.proofs.TakenTexts.{properties_chars}
use Rattle.augmenter.proofs.taken.are_properties_taken.Goals as goal

pub returns : goal.returns
returns c = λ doc of.
    c.is_taken.ensures doc of ∙ ap (λ x. is_taken (document_in doc) (chars x)) (c.as_str.ensures.value ∙ c.in_ok-identifier.ensures)
    ∙ ap (is_taken (document_in doc)) (properties_chars c.args.id.now c.utf8.id)
