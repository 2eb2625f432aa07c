use Rattle.std.proofs.Common.{ap}
use Rattle.std.specs.Prelude.{flat_map}
use Rattle.signature_model.specs.Shape.{reference_line_of}
use Rattle.signature_parts.proofs.Adding.{adding_goes_on, adding_ends}
use Rattle.doc_spans.specs.Seen.{document_in}
use Rattle.signature_elements.proofs.Laws.{next_spot}
use Rattle.signature_parts.specs.ListsLeft.{named_doc, named_left}
use Rattle.outer_lines.proofs.reference.add_references.Goals as goal

pub add_reference-requires : goal.add_reference-requires
add_reference-requires c =
    let next = next_spot named_doc named_left c.args.doc c.loop-reference.reference-iterator c.next.new.self c.in-Some.reference c.loop-reference.invariant.2 c.in-Some.ensures.steps in
    record { within = c.loop-reference.invariant.3.within; reference = next.there }

pub loop-reference-preserved : goal.loop-reference-preserved
loop-reference-preserved c =
    let next = next_spot named_doc named_left c.args.doc c.loop-reference.reference-iterator c.next.new.self c.in-Some.reference c.loop-reference.invariant.2 c.in-Some.ensures.steps in
    let more = ap (flat_map (reference_line_of (document_in c.args.doc))) next.spots in
    (tt, tt, next.doc_is, adding_goes_on c.args.doc _ _ _ _ _ _ _ more c.loop-reference.invariant.3 c.add_reference.ensures)

pub returns : goal.returns
returns c = adding_ends c.args.doc _ _ _ _ (ap (λ spots. flat_map (reference_line_of (document_in c.args.doc)) spots) c.in-None.ensures.steps.1.0) c.loop-reference.invariant.3
