use Rattle.std.proofs.Common.{ap, ◌∷◌, []}
use Rattle.inner_lines.specs.LineParts.{stamp_faults}
use Rattle.signature_model.specs.Parts.{stamps}
use Rattle.doc_spans.specs.Seen.{document_in}
use Rattle.signature_parts.specs.StampsLeft.{stamps_doc, stamps_left}
use Rattle.signature_elements.specs.Standing.{spot_of}
use Rattle.signature_elements.proofs.Laws.{next_spot}
use Rattle.signature_parts.proofs.Adding.{adding_goes_on, adding_ends}
use Rattle.signature_parts.proofs.AnyOrder.{alike_back}
use Rattle.signature_parts.proofs.Spread.{one_each}
use Rattle.signature_parts.proofs.FromNone.{first_of_all}
use Rattle.inner_lines.proofs.LineEach.{each_stamp}
use Rattle.inner_lines.proofs.stamp.stamp_line.Goals as goal

pub add_stamp-requires : goal.add_stamp-requires
add_stamp-requires c =
    let next = next_spot stamps_doc stamps_left c.args.doc c.loop-stamp.stamp-iterator c.next.new.self c.in-Some.stamp c.loop-stamp.invariant.2 c.in-Some.ensures.steps in
    record { within = c.loop-stamp.invariant.3.within; there = next.there }

pub loop-stamp-preserved : goal.loop-stamp-preserved
loop-stamp-preserved c =
    let next = next_spot stamps_doc stamps_left c.args.doc c.loop-stamp.stamp-iterator c.next.new.self c.in-Some.stamp c.loop-stamp.invariant.2 c.in-Some.ensures.steps in
    (tt, tt, next.doc_is, adding_goes_on c.args.doc ((stamp_faults (document_in c.args.doc)) (spot_of c.args.doc c.in-Some.stamp ∷ [])) _ _ _ _ _ _ (ap (one_each (stamp_faults (document_in c.args.doc))) next.spots) c.loop-stamp.invariant.3 c.add_stamp.ensures)

pub returns : goal.returns
returns c =
    first_of_all c.args.doc _ _ _ _ c.none-place.ensures (alike_back _ _ ((each_stamp (document_in c.args.doc)).same (stamps (document_in c.args.doc) (spot_of c.args.doc c.args.signature)))) (adding_ends c.args.doc _ _ _ _ (ap (one_each (stamp_faults (document_in c.args.doc))) c.in-None.ensures.steps.1.0) c.loop-stamp.invariant.3)
