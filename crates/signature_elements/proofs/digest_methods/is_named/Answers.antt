use Rattle.std.proofs.Common.{List, ℕ, ap, ◌∙◌}
use Rattle.document_model.specs.Characters.{◌is◌}
use Rattle.doc_spans.specs.Pieces.{characters_left}
use Rattle.signature_elements.proofs.AsciiNames.{digest_uri}
use Rattle.signature_elements.proofs.digest_methods.is_named.Goals as goal

pub returns : goal.returns
returns c = c.same.ensures ∙ ap (λ (text : List ℕ). characters_left c.args.name is text) (digest_uri c.args.kind c.uri.result.now c.uri.ensures)
