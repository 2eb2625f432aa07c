use Rattle.std.proofs.Common.{ap, not, ◌∷◌, []}
use Rattle.signature_model.specs.Holding.{without_value}
use Rattle.signature_model.specs.Spots.{is_text_alone, held_at}
use Rattle.doc_spans.specs.Seen.{document_in}
use Rattle.signature_elements.specs.NamedLeft.{called_doc, called_left}
use Rattle.signature_elements.specs.Standing.{spot_of}
use Rattle.signature_elements.proofs.Laws.{next_spot}
use Rattle.signature_parts.proofs.Adding.{adding_goes_on, adding_ends}
use Rattle.signature_parts.proofs.AnyOrder.{alike_back, adds_alike}
use Rattle.signature_parts.proofs.Spread.{one_each, each_tested}
use Rattle.signature_parts.proofs.places.FirstPlace.add_each_without_value.Goals as goal

pub add_without_value-requires : goal.add_without_value-requires
add_without_value-requires c =
    let next = next_spot called_doc called_left c.args.doc c.loop-holder.holder-iterator c.next.new.self c.in-Some.holder c.loop-holder.invariant.2 c.in-Some.ensures.steps in
    record { within = c.loop-holder.invariant.3.within; holder = next.there }

pub loop-holder-preserved : goal.loop-holder-preserved
loop-holder-preserved c =
    let next = next_spot called_doc called_left c.args.doc c.loop-holder.holder-iterator c.next.new.self c.in-Some.holder c.loop-holder.invariant.2 c.in-Some.ensures.steps in
    (tt, tt, next.doc_is, adding_goes_on c.args.doc ((without_value (document_in c.args.doc)) (spot_of c.args.doc c.in-Some.holder ∷ [])) _ _ _ _ _ _ (ap (one_each (without_value (document_in c.args.doc))) next.spots) c.loop-holder.invariant.3 c.add_without_value.ensures)

pub returns : goal.returns
returns c = adds_alike c.args.doc _ _ _ _ (alike_back _ _ ((each_tested (λ spot. not (is_text_alone (held_at (document_in c.args.doc) spot.path)))).same (called_left c.args.holders))) (adding_ends c.args.doc _ _ _ _ (ap (one_each (without_value (document_in c.args.doc))) c.in-None.ensures.steps.1.0) c.loop-holder.invariant.3)
