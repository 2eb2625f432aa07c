use Rattle.std.proofs.Common.{List, ◌∷◌, [], subst, ap, sym, ◌∙◌}
use Rattle.std.specs.Prelude.{map}
use Rattle.doc_spans.specs.Seen.{document_in}
use Rattle.doc_spans.proofs.Each.{map_join}
use Rattle.signature_elements.specs.Standing.{spot_of}
use Rattle.signature_elements.proofs.Laws.{next_spot}
use Rattle.signature_model.specs.Parts.{properties}
use Rattle.signature_parts.specs.ListsLeft.{all_doc, all_left}
use Rattle.qualifying_props.specs.Properties.{shown_property}
use Rattle.qualifying_props.specs.Shown.{ShownProperty}
use Rattle.qualifying_props.proofs.Gathering.{Gathering, gathering_goes_on}
use Rattle.qualifying_props.proofs.property.read_properties.Goals as goal

pub loop-node-preserved : goal.loop-node-preserved
loop-node-preserved c =
    let doc = c.args.doc in
    let left = all_left c.next.new.self in
    let all = properties (document_in doc) (spot_of doc c.args.signature) in
    let next = next_spot all_doc all_left doc c.loop-node.node-iterator c.next.new.self c.in-Some.node c.loop-node.invariant.2 c.in-Some.ensures.steps in
    let G : List ShownProperty → Type 0 = λ found. Gathering doc left all found c.args.bad.now c.read_property.new.bad in
    let found = ap (map shown_property) c.in-Ok.ensures.items ∙ map_join shown_property c.loop-node.found.items (c.in_ok-property.property ∷ []) in (
      tt,
      tt,
      next.doc_is,
      subst G (sym found)
          (gathering_goes_on doc (all_left c.loop-node.node-iterator) left all (map shown_property c.loop-node.found.items) c.in-Some.node
          (shown_property c.in_ok-property.property) c.args.bad.now c.loop-node.bad c.read_property.new.bad
          next.spots next.there c.in_ok-property.ensures.read c.in_ok-property.ensures.bad c.loop-node.invariant.3),
    )
