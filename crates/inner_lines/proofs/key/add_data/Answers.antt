use Rattle.std.proofs.Common.{ap, ◌∷◌, []}
use Rattle.inner_lines.specs.LineParts.{key_data_faults}
use Rattle.signature_model.specs.Parts.{key_data}
use Rattle.doc_spans.specs.Seen.{document_in}
use Rattle.signature_parts.specs.ListsLeft.{named_doc, named_left}
use Rattle.signature_elements.specs.Standing.{spot_of}
use Rattle.signature_elements.proofs.Laws.{next_spot}
use Rattle.signature_parts.proofs.Adding.{adding_goes_on, adding_ends}
use Rattle.signature_parts.proofs.AnyOrder.{alike_back, adds_alike}
use Rattle.signature_parts.proofs.Spread.{one_each}
use Rattle.inner_lines.proofs.LineEach.{each_key_data}
use Rattle.inner_lines.proofs.key.add_data.Goals as goal

pub add_one_data-requires : goal.add_one_data-requires
add_one_data-requires c =
    let next = next_spot named_doc named_left c.args.doc c.loop-holder.holder-iterator c.next.new.self c.in-Some.holder c.loop-holder.invariant.2 c.in-Some.ensures.steps in
    record { within = c.loop-holder.invariant.3.within; there = next.there }

pub loop-holder-preserved : goal.loop-holder-preserved
loop-holder-preserved c =
    let next = next_spot named_doc named_left c.args.doc c.loop-holder.holder-iterator c.next.new.self c.in-Some.holder c.loop-holder.invariant.2 c.in-Some.ensures.steps in
    (tt, tt, next.doc_is, adding_goes_on c.args.doc ((key_data_faults (document_in c.args.doc)) (spot_of c.args.doc c.in-Some.holder ∷ [])) _ _ _ _ _ _ (ap (one_each (key_data_faults (document_in c.args.doc))) next.spots) c.loop-holder.invariant.3 c.add_one_data.ensures)

pub returns : goal.returns
returns c = adds_alike c.args.doc _ _ _ _ (alike_back _ _ ((each_key_data (document_in c.args.doc)).same (key_data (document_in c.args.doc) (spot_of c.args.doc c.args.signature)))) (adding_ends c.args.doc _ _ _ _ (ap (one_each (key_data_faults (document_in c.args.doc))) c.in-None.ensures.steps.1.0) c.loop-holder.invariant.3)
