use Rattle.std.proofs.Common.{ap, ◌∷◌, []}
use Rattle.inner_lines.specs.LineParts.{wanting_faults}
use Rattle.signature_model.specs.Parts.{references}
use Rattle.doc_spans.specs.Seen.{document_in}
use Rattle.signature_parts.specs.ListsLeft.{named_doc, named_left}
use Rattle.signature_elements.specs.Standing.{spot_of}
use Rattle.signature_elements.proofs.Laws.{next_spot}
use Rattle.signature_parts.proofs.Adding.{adding_goes_on, adding_ends}
use Rattle.signature_parts.proofs.AnyOrder.{alike_back, adds_alike}
use Rattle.signature_parts.proofs.Spread.{one_each}
use Rattle.inner_lines.proofs.LineEach.{each_wanting}
use Rattle.inner_lines.proofs.data_object.add_references.Goals as goal

pub add_reference-requires : goal.add_reference-requires
add_reference-requires c =
    let next = next_spot named_doc named_left c.args.doc c.loop-reference.reference-iterator c.next.new.self c.in-Some.reference c.loop-reference.invariant.2 c.in-Some.ensures.steps in
    record { within = c.loop-reference.invariant.3.within; found = c.requires.found; there = next.there }

pub loop-reference-preserved : goal.loop-reference-preserved
loop-reference-preserved c =
    let next = next_spot named_doc named_left c.args.doc c.loop-reference.reference-iterator c.next.new.self c.in-Some.reference c.loop-reference.invariant.2 c.in-Some.ensures.steps in
    (tt, tt, next.doc_is, adding_goes_on c.args.doc ((wanting_faults (document_in c.args.doc) (spot_of c.args.doc c.args.objects.now.signature)) (spot_of c.args.doc c.in-Some.reference ∷ [])) _ _ _ _ _ _ (ap (one_each (wanting_faults (document_in c.args.doc) (spot_of c.args.doc c.args.objects.now.signature))) next.spots) c.loop-reference.invariant.3 c.in_ok-add_reference.ensures)

pub returns : goal.returns
returns c = adds_alike c.args.doc _ _ _ _ (alike_back _ _ ((each_wanting (document_in c.args.doc) (spot_of c.args.doc c.args.objects.now.signature)).same (references (document_in c.args.doc) (spot_of c.args.doc c.args.objects.now.signature)))) (adding_ends c.args.doc _ _ _ _ (ap (one_each (wanting_faults (document_in c.args.doc) (spot_of c.args.doc c.args.objects.now.signature))) c.in-None.ensures.steps.1.0) c.loop-reference.invariant.3)
