use Rattle.std.proofs.Common.{ap, ◌∷◌, []}
use Rattle.signature_model.specs.Holding.{with_stray_text}
use Rattle.signature_model.specs.Spots.{has_stray_text, held_at}
use Rattle.doc_spans.specs.Seen.{document_in}
use Rattle.signature_elements.specs.NamedLeft.{called_doc, called_left}
use Rattle.signature_elements.specs.Standing.{spot_of}
use Rattle.signature_elements.proofs.Laws.{next_spot}
use Rattle.signature_parts.proofs.Adding.{adding_goes_on, adding_ends}
use Rattle.signature_parts.proofs.AnyOrder.{alike_back, adds_alike}
use Rattle.signature_parts.proofs.Spread.{one_each, each_tested}
use Rattle.signature_parts.proofs.places.FirstPlace.add_each_with_stray_text.Goals as goal

pub add_with_stray_text-requires : goal.add_with_stray_text-requires
add_with_stray_text-requires c =
    let next = next_spot called_doc called_left c.args.doc c.loop-holder.holder-iterator c.next.new.self c.in-Some.holder c.loop-holder.invariant.2 c.in-Some.ensures.steps in
    record { within = c.loop-holder.invariant.3.within; holder = next.there }

pub loop-holder-preserved : goal.loop-holder-preserved
loop-holder-preserved c =
    let next = next_spot called_doc called_left c.args.doc c.loop-holder.holder-iterator c.next.new.self c.in-Some.holder c.loop-holder.invariant.2 c.in-Some.ensures.steps in
    (tt, tt, next.doc_is, adding_goes_on c.args.doc ((with_stray_text (document_in c.args.doc)) (spot_of c.args.doc c.in-Some.holder ∷ [])) _ _ _ _ _ _ (ap (one_each (with_stray_text (document_in c.args.doc))) next.spots) c.loop-holder.invariant.3 c.add_with_stray_text.ensures)

pub returns : goal.returns
returns c = adds_alike c.args.doc _ _ _ _ (alike_back _ _ ((each_tested (λ spot. has_stray_text (held_at (document_in c.args.doc) spot.path))).same (called_left c.args.holders))) (adding_ends c.args.doc _ _ _ _ (ap (one_each (with_stray_text (document_in c.args.doc))) c.in-None.ensures.steps.1.0) c.loop-holder.invariant.3)
