use Rattle.std.proofs.Common.{List, ◌∷◌, cond, not, subst, ap, sym, ◌∙◌}
use Rattle.doc_spans.specs.declared.documents.NodeId.{NodeId}
use Rattle.doc_spans.specs.Seen.{document_in}
use Rattle.signature_elements.specs.NamedLeft.{called_doc, called_left}
use Rattle.signature_elements.specs.Standing.{spot_of}
use Rattle.signature_elements.proofs.Laws.{next_spot}
use Rattle.signature_model.specs.Parts.{other_objects}
use Rattle.qualifying_props.proofs.Listing.{Listing, others_in, listing_starts, listing_goes_on}
use Rattle.qualifying_props.proofs.lists.object_nodes.Goals as goal

pub loop-object-init : goal.loop-object-init
loop-object-init c =
    let objects = c.into_iter-object-iterator.ensures.into_iter_gives in (
      tt,
      tt,
      ap called_doc objects ∙ c.objects-object-items.ensures.doc,
      listing_starts c.args.doc _ _ _ c.new-nodes.ensures.items (ap (others_in (document_in c.args.doc)) (ap called_left objects ∙ c.objects-object-items.ensures.spots)),
    )

pub loop-object-preserved : goal.loop-object-preserved
loop-object-preserved c =
    let doc = c.args.doc in
    let document = document_in doc in
    let spot = spot_of doc c.in-Some.object in
    let left = called_left c.next.new.self in
    let all = other_objects document (spot_of doc c.args.signature) in
    let next = next_spot called_doc called_left doc c.loop-object.object-iterator c.next.new.self c.in-Some.object c.loop-object.invariant.2 c.in-Some.ensures.steps in
    let L : List NodeId → Type 0 = λ nodes. Listing doc (others_in document left) all nodes in (
      tt,
      tt,
      next.doc_is,
      subst L (sym c.in-Ok.ensures.items)
          (listing_goes_on doc (others_in document (called_left c.loop-object.object-iterator)) (others_in document left) all c.loop-object.nodes.items c.in-Some.object
          (ap (others_in document) next.spots
          ∙ ap (λ b. cond (not b) (spot ∷ others_in document left) (others_in document left)) (sym c.is_qualifying.ensures ∙ c.if-is_qualifying.false))
          next.there c.loop-object.invariant.3),
    )
