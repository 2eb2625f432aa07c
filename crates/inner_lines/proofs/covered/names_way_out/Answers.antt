use Rattle.std.proofs.Common.{false, ◌||◌, None, refl, codes, ap, ◌∙◌}
use Rattle.std.specs.Option.{option_map_or}
use Rattle.document_model.specs.Characters.{◌is◌}
use Rattle.signature_model.specs.Vocabulary.{enveloped_name, base64_name}
use Rattle.signature_elements.specs.Standing.{spot_of}
use Rattle.signature_elements.proofs.AsciiNames.{attribute_as}
use Rattle.inner_lines.proofs.covered.names_way_out.Goals as goal

pub returns-in-Some : goal.returns-in-Some
returns-in-Some c =
    c.is_way_out.ensures
    ∙ ap (λ o. option_map_or (λ name. (name is enveloped_name) || (name is base64_name)) o false)
    (attribute_as (spot_of c.args.doc c.args.transform) (codes "Algorithm") _ refl c.in-Some.ensures)

pub returns-in-None : goal.returns-in-None
returns-in-None c =
    ap (λ o. option_map_or (λ name. (name is enveloped_name) || (name is base64_name)) o false)
    (attribute_as (spot_of c.args.doc c.args.transform) (codes "Algorithm") None refl c.in-None.ensures)
