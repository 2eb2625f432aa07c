use Rattle.std.proofs.Common.{false, None, refl, codes, ap, ◌∙◌}
use Rattle.std.specs.Option.{option_map_or}
use Rattle.document_model.specs.Characters.{◌is◌}
use Rattle.doc_spans.specs.Pieces.{characters_left}
use Rattle.signature_model.specs.Vocabulary.{signed_properties_type}
use Rattle.signature_elements.specs.Standing.{spot_of}
use Rattle.signature_elements.proofs.AsciiNames.{word, attribute_as}
use Rattle.signature_parts.proofs.part_lists.is_typed.Goals as goal

pub returns-in-Some : goal.returns-in-Some
returns-in-Some c =
    c.same.ensures
    ∙ ap (λ text. characters_left c.in-Some.type_name is text) (word signed_properties_type refl)
    ∙ ap (λ o. option_map_or (λ type. type is signed_properties_type) o false) (attribute_as (spot_of c.args.doc c.args.reference) (codes "Type") _ refl c.in-Some.ensures)

pub returns-in-None : goal.returns-in-None
returns-in-None c =
    ap (λ o. option_map_or (λ type. type is signed_properties_type) o false) (attribute_as (spot_of c.args.doc c.args.reference) (codes "Type") None refl c.in-None.ensures)
