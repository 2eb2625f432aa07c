use Rattle.std.proofs.Common.{ap, sym, ◌∙◌, [], ◌∷◌}
use Rattle.signature_model.specs.Holding.{with_stray_text}
use Rattle.signature_model.specs.Spots.{has_stray_text, held_at}
use Rattle.signature_parts.proofs.Adding.{tests_joined, adding_goes_on, adding_ends}
use Rattle.doc_spans.specs.Seen.{document_in}
use Rattle.signature_elements.specs.Standing.{spot_of}
use Rattle.signature_elements.proofs.Laws.{next_spot}
use Rattle.signature_parts.specs.QualifyingLeft.{qualifying_doc, qualifying_left}
use Rattle.outer_lines.proofs.qualifying.add_stray_holders.Goals as goal

pub add_with_stray_text-requires : goal.add_with_stray_text-requires
add_with_stray_text-requires c =
    let next = next_spot qualifying_doc qualifying_left c.args.doc c.loop-object.object-iterator c.next.new.self c.in-Some.object c.loop-object.invariant.2 c.in-Some.ensures.steps in
    record { within = c.loop-object.invariant.3.within; holder = next.there }

pub loop-object-preserved : goal.loop-object-preserved
loop-object-preserved c =
    let next = next_spot qualifying_doc qualifying_left c.args.doc c.loop-object.object-iterator c.next.new.self c.in-Some.object c.loop-object.invariant.2 c.in-Some.ensures.steps in
    let more = ap (with_stray_text (document_in c.args.doc)) next.spots
    ∙ sym (tests_joined (λ spot. has_stray_text (held_at (document_in c.args.doc) spot.path)) (spot_of c.args.doc c.in-Some.object ∷ []) (qualifying_left c.next.new.self)) in
    (tt, tt, next.doc_is, adding_goes_on c.args.doc _ _ _ _ _ _ _ more c.loop-object.invariant.3 c.add_with_stray_text.ensures)

pub returns : goal.returns
returns c = adding_ends c.args.doc _ _ _ _ (ap (λ spots. with_stray_text (document_in c.args.doc) spots) c.in-None.ensures.steps.1.0) c.loop-object.invariant.3
