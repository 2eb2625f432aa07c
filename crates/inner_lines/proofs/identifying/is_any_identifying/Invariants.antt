use Rattle.std.proofs.Common.{◌≡◌, []}
use Rattle.std.specs.List.{list_any}
use Rattle.std.specs.Prelude.{option_map, unwrap_or}
use Rattle.doc_spans.specs.Pieces.{characters_left}
use Rattle.signature_model.specs.Shape.{is_identifying}
use Rattle.xml_items.specs.Attributes.{attributes_left}
use Rattle.inner_lines.proofs.identifying.is_any_identifying.Given as goal

-- those that were passed are none
abbrev pub invariant-attributes : goal.invariant-attributes
invariant-attributes l =
    list_any (is_identifying (unwrap_or (option_map characters_left l.uri) [])) (attributes_left l.rest)
    ≡ list_any (is_identifying (unwrap_or (option_map characters_left l.uri) [])) (attributes_left l.fn.attributes)

abbrev pub decreases-attributes : goal.decreases-attributes
decreases-attributes l = l.rest.left
