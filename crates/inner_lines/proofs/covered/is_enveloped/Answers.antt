use Rattle.std.proofs.Common.{refl, ap, ◌∙◌}
use Rattle.document_model.specs.Characters.{◌is◌}
use Rattle.doc_spans.specs.Pieces.{characters_left}
use Rattle.signature_model.specs.Vocabulary.{enveloped_name}
use Rattle.signature_elements.proofs.AsciiNames.{word}
use Rattle.inner_lines.proofs.covered.is_enveloped.Goals as goal

pub returns : goal.returns
returns c = c.same.ensures ∙ ap (λ text. characters_left c.args.name is text) (word enveloped_name refl)
