use Rattle.std.proofs.Common.{ap, ◌∷◌, []}
use Rattle.inner_lines.specs.LineParts.{transform_faults}
use Rattle.signature_model.specs.Parts.{references}
use Rattle.doc_spans.specs.Seen.{document_in}
use Rattle.signature_parts.specs.ListsLeft.{named_doc, named_left}
use Rattle.signature_elements.specs.Standing.{spot_of}
use Rattle.signature_elements.proofs.Laws.{next_spot}
use Rattle.signature_parts.proofs.Adding.{adding_goes_on, adding_ends}
use Rattle.signature_parts.proofs.AnyOrder.{alike_back, adds_alike}
use Rattle.signature_parts.proofs.Spread.{one_each}
use Rattle.inner_lines.proofs.LineEach.{each_transform}
use Rattle.inner_lines.proofs.values.add_transforms.Goals as goal

pub add_transforms_of-requires : goal.add_transforms_of-requires
add_transforms_of-requires c =
    let next = next_spot named_doc named_left c.args.doc c.loop-reference.reference-iterator c.next.new.self c.in-Some.reference c.loop-reference.invariant.2 c.in-Some.ensures.steps in
    record { within = c.loop-reference.invariant.3.within; there = next.there }

pub loop-reference-preserved : goal.loop-reference-preserved
loop-reference-preserved c =
    let next = next_spot named_doc named_left c.args.doc c.loop-reference.reference-iterator c.next.new.self c.in-Some.reference c.loop-reference.invariant.2 c.in-Some.ensures.steps in
    (tt, tt, next.doc_is, adding_goes_on c.args.doc ((transform_faults (document_in c.args.doc)) (spot_of c.args.doc c.in-Some.reference ∷ [])) _ _ _ _ _ _ (ap (one_each (transform_faults (document_in c.args.doc))) next.spots) c.loop-reference.invariant.3 c.add_transforms_of.ensures)

pub returns : goal.returns
returns c = adds_alike c.args.doc _ _ _ _ (alike_back _ _ ((each_transform (document_in c.args.doc)).same (references (document_in c.args.doc) (spot_of c.args.doc c.args.signature)))) (adding_ends c.args.doc _ _ _ _ (ap (one_each (transform_faults (document_in c.args.doc))) c.in-None.ensures.steps.1.0) c.loop-reference.invariant.3)
