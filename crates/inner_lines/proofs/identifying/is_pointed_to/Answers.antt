use Rattle.std.proofs.Common.{◌≡◌, ℕ, List, Option, Some, None, [], refl, ap, ◌∙◌}
use Rattle.std.specs.Prelude.{option_map, unwrap_or}
use Rattle.document_model.specs.Characters.{◌is◌}
use Rattle.doc_spans.specs.Pieces.{characters_left}
use Rattle.signature_model.specs.Shape.{points_to}
use Rattle.signature_model.specs.Vocabulary.{fragment}
use Rattle.inner_lines.proofs.identifying.is_pointed_to.Goals as goal

points_by : (uri : Option (List ℕ)) (id : List ℕ) → points_to uri (Some id) ≡ (unwrap_or uri [] is fragment id)
points_by None id = refl
points_by (Some uri) id = refl

pub returns : goal.returns
returns c =
    let uri = option_map characters_left c.args.uri in
    c.points_to.ensures ∙ ap (λ value. points_to uri (Some value)) c.of_value.ensures ∙ points_by uri _
