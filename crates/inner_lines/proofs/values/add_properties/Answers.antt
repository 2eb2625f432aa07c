use Rattle.std.proofs.Common.{ap, ◌∷◌, []}
use Rattle.inner_lines.specs.LineParts.{material_faults}
use Rattle.signature_model.specs.Parts.{properties}
use Rattle.doc_spans.specs.Seen.{document_in}
use Rattle.signature_parts.specs.ListsLeft.{all_doc, all_left}
use Rattle.signature_elements.specs.Standing.{spot_of}
use Rattle.signature_elements.proofs.Laws.{next_spot}
use Rattle.signature_parts.proofs.Adding.{adding_goes_on, adding_ends}
use Rattle.signature_parts.proofs.AnyOrder.{alike_back, adds_alike}
use Rattle.signature_parts.proofs.Spread.{one_each}
use Rattle.inner_lines.proofs.LineEach.{each_material}
use Rattle.inner_lines.proofs.values.add_properties.Goals as goal

pub add_property-requires : goal.add_property-requires
add_property-requires c =
    let next = next_spot all_doc all_left c.args.doc c.loop-property.property-iterator c.next.new.self c.in-Some.property c.loop-property.invariant.2 c.in-Some.ensures.steps in
    record { within = c.loop-property.invariant.3.within; there = next.there }

pub loop-property-preserved : goal.loop-property-preserved
loop-property-preserved c =
    let next = next_spot all_doc all_left c.args.doc c.loop-property.property-iterator c.next.new.self c.in-Some.property c.loop-property.invariant.2 c.in-Some.ensures.steps in
    (tt, tt, next.doc_is, adding_goes_on c.args.doc ((material_faults (document_in c.args.doc)) (spot_of c.args.doc c.in-Some.property ∷ [])) _ _ _ _ _ _ (ap (one_each (material_faults (document_in c.args.doc))) next.spots) c.loop-property.invariant.3 c.add_property.ensures)

pub returns : goal.returns
returns c = adds_alike c.args.doc _ _ _ _ (alike_back _ _ ((each_material (document_in c.args.doc)).same (properties (document_in c.args.doc) (spot_of c.args.doc c.args.signature)))) (adding_ends c.args.doc _ _ _ _ (ap (one_each (material_faults (document_in c.args.doc))) c.in-None.ensures.steps.1.0) c.loop-property.invariant.3)
