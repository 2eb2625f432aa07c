use Rattle.std.proofs.Common.{ap, ◌∷◌, []}
use Rattle.doc_spans.specs.Seen.{path_in}
use Rattle.signature_elements.proofs.Laws.{next_spot}
use Rattle.signature_model.specs.Spots.{paths}
use Rattle.signature_parts.specs.QualifyingLeft.{qualifying_doc, qualifying_left}
use Rattle.signature_parts.proofs.Adding.{adding_goes_on, adding_ends}
use Rattle.outer_lines.proofs.qualifying.add_all.Goals as goal

pub add-requires : goal.add-requires
add-requires c =
    let next = next_spot qualifying_doc qualifying_left c.args.doc c.loop-holder.holder-iterator c.next.new.self c.in-Some.holder c.loop-holder.invariant.2 c.in-Some.ensures.steps in
    record { within = c.loop-holder.invariant.3.within; node = next.there.0 }

pub loop-holder-preserved : goal.loop-holder-preserved
loop-holder-preserved c =
    let next = next_spot qualifying_doc qualifying_left c.args.doc c.loop-holder.holder-iterator c.next.new.self c.in-Some.holder c.loop-holder.invariant.2 c.in-Some.ensures.steps in
    (tt, tt, next.doc_is, adding_goes_on c.args.doc (path_in c.args.doc c.in-Some.holder ∷ []) _ _ _ _ _ _ (ap paths next.spots) c.loop-holder.invariant.3 c.add.ensures)

pub returns : goal.returns
returns c = adding_ends c.args.doc _ _ _ _ (ap paths c.in-None.ensures.steps.1.0) c.loop-holder.invariant.3
