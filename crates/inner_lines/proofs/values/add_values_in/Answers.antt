use Rattle.std.proofs.Common.{ap, ◌∷◌, []}
use Rattle.std.specs.Prelude.{List}
use Rattle.std.specs.Prelude.{filter}
use Rattle.inner_lines.specs.LineParts.{values_faults}
use Rattle.signature_model.specs.Parts.{is_values}
use Rattle.signature_model.specs.Spots.{Spot, elements_in}
use Rattle.doc_spans.specs.Seen.{document_in}
use Rattle.signature_elements.specs.ElementsLeft.{elements_doc, elements_left}
use Rattle.signature_elements.specs.Standing.{spot_of}
use Rattle.signature_elements.proofs.Laws.{next_spot}
use Rattle.signature_parts.proofs.Adding.{adding_goes_on, adding_ends}
use Rattle.signature_parts.proofs.AnyOrder.{alike_back, adds_alike}
use Rattle.signature_parts.proofs.Spread.{one_each, each_of, spread_filter}
use Rattle.inner_lines.proofs.LineEach.{each_values}
use Rattle.inner_lines.proofs.values.add_values_in.Goals as goal

pub add_where_values-requires : goal.add_where_values-requires
add_where_values-requires c =
    let next = next_spot elements_doc elements_left c.args.doc c.loop-child.child-iterator c.next.new.self c.in-Some.child c.loop-child.invariant.2 c.in-Some.ensures.steps in
    record { within = c.loop-child.invariant.3.within; there = next.there }

pub loop-child-preserved : goal.loop-child-preserved
loop-child-preserved c =
    let next = next_spot elements_doc elements_left c.args.doc c.loop-child.child-iterator c.next.new.self c.in-Some.child c.loop-child.invariant.2 c.in-Some.ensures.steps in
    (tt, tt, next.doc_is, adding_goes_on c.args.doc ((λ (spots : List Spot). values_faults (document_in c.args.doc) (filter is_values spots)) (spot_of c.args.doc c.in-Some.child ∷ [])) _ _ _ _ _ _ (ap (one_each (λ (spots : List Spot). values_faults (document_in c.args.doc) (filter is_values spots))) next.spots) c.loop-child.invariant.3 c.add_where_values.ensures)

pub returns : goal.returns
returns c = adds_alike c.args.doc _ _ _ _ (alike_back _ _ ((each_of _ _ (each_values (document_in c.args.doc)) (spread_filter is_values)).same (elements_in (document_in c.args.doc) (spot_of c.args.doc c.args.property)))) (adding_ends c.args.doc _ _ _ _ (ap (one_each (λ (spots : List Spot). values_faults (document_in c.args.doc) (filter is_values spots))) c.in-None.ensures.steps.1.0) c.loop-child.invariant.3)
