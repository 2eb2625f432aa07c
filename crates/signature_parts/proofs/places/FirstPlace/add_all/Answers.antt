use Rattle.std.proofs.Common.{ap, ◌∷◌, []}
use Rattle.doc_spans.specs.Seen.{path_in}
use Rattle.signature_elements.specs.NamedLeft.{called_doc, called_left}
use Rattle.signature_elements.proofs.Laws.{next_spot}
use Rattle.signature_model.specs.Spots.{paths}
use Rattle.signature_parts.proofs.Adding.{adding_goes_on, adding_ends}
use Rattle.signature_parts.proofs.places.FirstPlace.add_all.Goals as goal

pub add-requires : goal.add-requires
add-requires c =
    let next = next_spot called_doc called_left c.args.doc c.loop-element.element-iterator c.next.new.self c.in-Some.element c.loop-element.invariant.2 c.in-Some.ensures.steps in
    record { within = c.loop-element.invariant.3.within; node = next.there.0 }

pub loop-element-preserved : goal.loop-element-preserved
loop-element-preserved c =
    let next = next_spot called_doc called_left c.args.doc c.loop-element.element-iterator c.next.new.self c.in-Some.element c.loop-element.invariant.2 c.in-Some.ensures.steps in
    (tt, tt, next.doc_is, adding_goes_on c.args.doc (path_in c.args.doc c.in-Some.element ∷ []) _ _ _ _ _ _ (ap paths next.spots) c.loop-element.invariant.3 c.add.ensures)

pub returns : goal.returns
returns c = adding_ends c.args.doc _ _ _ _ (ap paths c.in-None.ensures.steps.1.0) c.loop-element.invariant.3
