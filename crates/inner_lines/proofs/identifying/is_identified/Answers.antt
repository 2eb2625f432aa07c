use Rattle.std.proofs.Common.{◌≡◌, Some, None, [], sym, ap, ◌∙◌}
use Rattle.std.specs.List.{list_any}
use Rattle.std.specs.Option.{option_map_or}
use Rattle.std.specs.Prelude.{option_map, unwrap_or}
use Rattle.document_model.specs.Scopes.{Tag}
use Rattle.doc_spans.specs.Pieces.{characters_left}
use Rattle.signature_elements.proofs.Named.{tagged}
use Rattle.signature_model.specs.Shape.{is_identifying}
use Rattle.signature_model.specs.Spots.{attributes_in}
use Rattle.inner_lines.proofs.identifying.is_identified.Goals as goal

pub returns-in-Some : goal.returns-in-Some
returns-in-Some c =
    let t = tagged c.args.doc c.args.node c.requires.1 in
    let test = list_any (is_identifying (unwrap_or (option_map characters_left c.args.uri) [])) in
    let same = ap (λ o. option_map_or (λ (tag : Tag). tag.attributes) o []) (c.in-Some.ensures ∙ sym t.is) in
    c.is_any_identifying.ensures ∙ ap test (c.of.ensures ∙ same ∙ sym (ap attributes_in t.scope))

pub returns-in-None : goal.returns-in-None
returns-in-None c =
    let t = tagged c.args.doc c.args.node c.requires.1 in
    let e : None ≡ Some t.tag = c.in-None.ensures ∙ sym t.is in
    cc
